use Rattle.std.proofs.Common.{ℕ, List, sym, subst}
use Rattle.office_core_outcome.specs.steps.Settled.{IsSettled}
use Rattle.office_core_outcome.proofs.ProposalFacts.{settled_none}
use Rattle.office_core_outcome.proofs.hint_trials.settle.Goals as goal

pub returns-then-is_empty-clause-settled : goal.returns-then-is_empty-clause-settled
returns-then-is_empty-clause-settled c =
    let a = c.args.asked.now in
    let t = c.args.testing.now in
    subst (λ (hints : List (List ℕ)). IsSettled a.setup.now a.date a.number a.facts.now t hints c.args.base) (sym c.new.ensures.items)
    (settled_none a.setup.now a.date a.number a.facts.now t c.args.base c.requires.base)

pub returns-clause-settled : goal.returns-clause-settled
returns-clause-settled c =
    let a = c.args.asked.now in
    let t = c.args.testing.now in
    subst (λ (hints : List (List ℕ)). IsSettled a.setup.now a.date a.number a.facts.now t hints c.args.base) (sym c.new-2.ensures.items)
    (settled_none a.setup.now a.date a.number a.facts.now t c.args.base c.requires.base)
