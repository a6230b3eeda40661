use Rattle.std.proofs.Common.{ℕ, List, length, slice_index, sym, subst, ◌∙◌}
use Rattle.std.proofs.lemmas.Result.{on_ok_weaker}
use Rattle.testing_rules_items.specs.Words.{Text}
use Rattle.testing_rules_model.specs.Covered.{Covered}
use Rattle.testing_rules_model.specs.steps.KeptFacts.{AreFallen}
use Rattle.testing_rules_model.specs.Suite.{Suite}
use Rattle.testing_rules_laws.proofs.FallenNames.{names_are_fallen}
use Rattle.office_store_keeper.specs.Content.{Content}
use Rattle.office_core_facts.specs.steps.Taking.{TookAgain}
use Rattle.office_core_facts.specs.steps.Walk.{said_within}
use Rattle.office_core_facts.proofs.AgainFacts.{again_stand, none_stand}
use Rattle.office_core_facts.proofs.WalkFacts.{one_of_each}
use Rattle.office_core_facts.proofs.retaken.retake_uploads.Goals as goal

pub returns-clause-stands : goal.returns-clause-stands
returns-clause-stands g c = λ trusted.
    let setup = c.args.setup.now in
    let content : Content = g.K.Keeper.content c.args.keeper.now in
    let n = length setup.senders in
    let s : Covered = said_within setup content.kept (slice_index c.args.known.now.taken.items) n in
    let before : Suite = c.args.before.now in
    let after : Suite = c.args.after.now in
    let names : List Text = c.as_slice-names.result.now in
    let fallen : AreFallen names before after = subst (λ (ns : List Text). AreFallen ns before after) (sym (c.as_slice-names.ensures.value ∙ c.in_ok-sources.ensures)) (names_are_fallen before after) in
    on_ok_weaker c.retake_all.result
    (λ again h. again_stand names s c.args.known.now.facts c.retake_all.new.facts (one_of_each setup content.kept (slice_index c.args.known.now.taken.items) n)
    (subst (λ (xs : List ℕ). TookAgain names (said_within setup content.kept (slice_index xs) n) c.args.known.now.facts c.retake_all.new.facts) c.deref.ensures.value again) before after fallen h)
    (c.retake_all.ensures.again trusted)

pub returns-then-is_empty-clause-stands : goal.returns-then-is_empty-clause-stands
returns-then-is_empty-clause-stands g c = λ trusted h.
    let setup = c.args.setup.now in
    let content : Content = g.K.Keeper.content c.args.keeper.now in
    let s : Covered = said_within setup content.kept (slice_index c.args.known.now.taken.items) (length setup.senders) in
    let before : Suite = c.args.before.now in
    let after : Suite = c.args.after.now in
    let names : List Text = c.as_slice-names.result.now in
    none_stand names s c.args.known.now.facts (sym c.is_empty.ensures ∙ c.if-is_empty.true) before after
    (subst (λ (ns : List Text). AreFallen ns before after) (sym (c.as_slice-names.ensures.value ∙ c.in_ok-sources.ensures)) (names_are_fallen before after)) h
