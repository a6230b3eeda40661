use Rattle.std.proofs.Common.{◌≡◌, ◌∙◌, List, arith, ap, sym, subst, length}
use Rattle.testing_rules_model.specs.declared.facts.BugIn.{BugIn}
use Rattle.testing_rules_model.specs.declared.facts.BuildIn.{BuildIn}
use Rattle.testing_rules_model.specs.declared.facts.DropIn.{DropIn}
use Rattle.testing_rules_model.specs.declared.facts.UploadIn.{UploadIn}
use Rattle.testing_rules_model.specs.Boxed.{unboxed}
use Rattle.testing_rules_model.specs.FactLists.{FactLists}
use Rattle.testing_rules_model.specs.steps.FactOrder.{IsFactOrder}
use Rattle.testing_rules_fact_order.specs.Uploads.{AreByMessage}
use Rattle.testing_rules_facts.specs.steps.HintOrder.{AreHintsByNumber, AreUnhintsByNumber}
use Rattle.testing_rules_facts.proofs.facts.Facts.copy.Goals as goal

same_order : (ss ss' : List UploadIn) (bs bs' : List BuildIn) (ds ds' : List DropIn) (gs gs' : List BugIn) → ss' ≡ ss → bs' ≡ bs → ds' ≡ ds → gs' ≡ gs → IsFactOrder ss bs ds gs → IsFactOrder ss' bs' ds' gs'
same_order ss ss' bs bs' ds ds' gs gs' s b d g are = rw (s, b, d, g) are

pub invariant_of-result : goal.invariant_of-result
invariant_of-result c =
    let a = c.self.inside in
    let said = c.in_ok-said.ensures in
    let sources = c.in_ok-sources.ensures ∙ ap unboxed c.deref.ensures.value in
    let uploads = c.in_ok-uploads.ensures ∙ c.deref-2.ensures.value in
    let drops = said.drops ∙ ap unboxed c.deref-3.ensures.value in
    let bugs = said.bugs ∙ ap unboxed c.deref-4.ensures.value in (
      same_order (unboxed a.sources.items) (unboxed c.in_ok-sources.sources.items) a.rows c.in_ok-rows.rows (unboxed a.drops.items) (unboxed c.in_ok-said.said.drops.items) (unboxed a.bugs.items) (unboxed c.in_ok-said.said.bugs.items)
          sources c.in_ok-rows.ensures drops bugs c.self.invariant.0,
      omega (arith, c.in_ok-log.ensures.room, c.len.ensures, ap length uploads),
      subst AreByMessage (sym uploads) c.self.invariant.2,
      subst AreHintsByNumber (sym (said.hints ∙ c.deref-5.ensures.value)) c.self.invariant.3,
      subst AreUnhintsByNumber (sym (said.unhints ∙ c.deref-6.ensures.value)) c.self.invariant.4,
    )

pub returns : goal.returns
returns c =
    let a = c.self.inside in
    let said = c.in_ok-said.ensures in
    let log = c.in_ok-log.ensures in
    let sources = c.in_ok-sources.ensures ∙ ap unboxed c.deref.ensures.value in
    let uploads = c.in_ok-uploads.ensures ∙ c.deref-2.ensures.value in
    let drops = said.drops ∙ ap unboxed c.deref-3.ensures.value in
    let bugs = said.bugs ∙ ap unboxed c.deref-4.ensures.value in
    let hints = said.hints ∙ c.deref-5.ensures.value in
    let unhints = said.unhints ∙ c.deref-6.ensures.value in
    let same : ◌≡◌ {A = FactLists} _ _ = λ i. record {
      sources = sources i;
      uploads = uploads i;
      rows = c.in_ok-rows.ensures i;
      drops = drops i;
      bugs = bugs i;
      hints = hints i;
      unhints = unhints i;
      delays = a.delays;
      came = log.came i;
      left = log.left i;
    } in
    same ∙ c.self.view_is
