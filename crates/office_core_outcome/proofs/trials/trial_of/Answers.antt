use Rattle.std.proofs.Common.{◌≡◌, ◌++◌, ℕ, List, sym, ap, ◌∙◌}
use Rattle.office_store_keeper.specs.declared.values.Letter.{Letter}
use Rattle.office_core_facts.specs.Seen.{release}
use Rattle.office_core_outcome.specs.Hints.{first_refused, hint_letters}
use Rattle.office_core_outcome.proofs.TryFacts.{trial_refused, trial_told}
use Rattle.office_core_outcome.proofs.trials.trial_of.Goals as goal

pub returns-in-Some-clause-tried : goal.returns-in-Some-clause-tried
returns-in-Some-clause-tried c = λ kept k terms run.
    let setup = c.args.setup.now in
    let hints = c.args.hints.now in
    let date = c.args.snapshot.date in
    trial_refused setup kept k terms date run.covers hints run.are run.dated c.in-Some.refused (sym c.in-Some.is ∙ c.in_ok-refused.ensures.refused ∙ ap (λ (n : ℕ). first_refused setup n 0 hints) run.is.behind)

pub returns-clause-tried : goal.returns-clause-tried
returns-clause-tried c = λ kept k terms run.
    let setup = c.args.setup.now in
    let hints = c.args.hints.now in
    let date = c.args.snapshot.date in
    let number = c.args.snapshot.behind in
    let at : number ≡ run.covers (release setup) = run.is.behind in
    let taken = c.in_ok-refused.ensures in
    let lettered : c.deref.result.now ≡ hint_letters setup (run.covers (release setup)) hints =
    c.deref.ensures.value ∙ taken.letters c.in_default.is ∙ ap (λ (ls : List Letter). ls ++ hint_letters setup number hints) c.new-letters.ensures.items ∙ ap (λ (n : ℕ). hint_letters setup n hints) at in
    trial_told setup kept k terms date run.covers hints run.are run.dated c.in_ok-before.report c.in_ok-before.reasons
    (sym c.in_default.is ∙ taken.refused ∙ ap (λ (n : ℕ). first_refused setup n 0 hints) at) (c.in_ok-before.ensures.tried kept k run.covers hints run.is run.few lettered)
