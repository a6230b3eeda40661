use Rattle.std.proofs.Common.{◌≡◌, ◌++◌, List, None, true, sym, ap, subst, ◌∙◌, ℕ}
use Rattle.testing_rules_model.specs.Covered.{Covered}
use Rattle.testing_rules_model.specs.StandsFor.{StandsFor}
use Rattle.testing_rules_model.specs.declared.update.Decision.{Decision}
use Rattle.office_store_keeper.specs.declared.values.Letter.{Letter}
use Rattle.office_core_facts.specs.Seen.{release}
use Rattle.office_core_outcome.specs.Hints.{first_refused, hint_letters, with_letters}
use Rattle.office_core_outcome.specs.Proposal.{are_done, decisions_by}
use Rattle.office_core_outcome.proofs.ProposalFacts.{settled_all}
use Rattle.office_core_outcome.proofs.hint_trials.try_once.Goals as goal

pub returns-then-done-clause-settled : goal.returns-then-done-clause-settled
returns-then-done-clause-settled c =
    let a = c.args.asked.now in
    let setup = a.setup.now in
    let date = a.date in
    let t = c.args.testing.now in
    let facts = a.facts.now in
    let number = a.number in
    let hints : List (List ℕ) = c.args.hints.items in
    let letters : List Letter = c.take_hints.new.letters.items in
    let update : List Decision = c.in_ok-update.update in
    let lent = c.deref.ensures.value in
    let taken : None ≡ first_refused setup number 0 hints = sym c.in_default.is ∙ c.in_ok-refused.ensures.refused ∙ ap (first_refused setup number 0) lent in
    let are : letters ≡ hint_letters setup number hints =
    c.in_ok-refused.ensures.letters c.in_default.is ∙ ap (λ (ls : List Letter). ls ++ hint_letters setup number c.deref.result.now) c.new-letters.ensures.items ∙ ap (hint_letters setup number) lent in
    let done : are_done number hints update ≡ true =
    subst (λ (ds : List Decision). are_done number hints ds ≡ true) c.as_slice.ensures
    (subst (λ (hs : List (List ℕ)). are_done number hs c.as_slice.result.now ≡ true) c.deref-3.ensures.value (c.in_ok-done.ensures c.if-done.true)) in
    settled_all setup date number facts t hints letters update taken are done
    (subst (λ (ls : List Letter). (s : Covered) → StandsFor facts s t → update ≡ decisions_by setup date (with_letters setup (release setup) ls s) t) c.deref-2.ensures.value c.in_ok-update.ensures.ok)
