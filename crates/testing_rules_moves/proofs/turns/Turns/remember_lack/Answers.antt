use Rattle.std.proofs.Common.{◌≡◌, false, subst, ◌∷◌, []}
use Rattle.std.specs.Option.{is_none}
use Rattle.testing_rules_moves.specs.steps.Runs.{Run, moment_of, broken_by_move}
use Rattle.testing_rules_moves.proofs.Remembering.{refused_more}
use Rattle.testing_rules_moves.proofs.turns.Turns.remember_lack.Goals as goal

pub returns-in_ok-remember-in-Some-clause-refused : goal.returns-in_ok-remember-in-Some-clause-refused
returns-in_ok-remember-in-Some-clause-refused c = λ found.
    subst (λ (r : Run). is_none (broken_by_move (c.args.candidate.excuse.now.source ∷ []) (moment_of r)) ≡ false) c.self.view_is
    (rw (c.in-Some.is, c.from_ref-group.ensures.value) at c.in_ok-clause.ensures.refused)

pub returns-in_ok-remember-in-Some-clause-known : goal.returns-in_ok-remember-in-Some-clause-known
returns-in_ok-remember-in-Some-clause-known c = λ excuses number known.
    let m = moment_of c.args.self.now in
    let lacks = rw (c.in-Some.is, c.from_ref-group.ensures.value) at c.in_ok-clause.ensures.lacks in
    refused_more m excuses c.args.refusals.now c.remember.new.self c.args.candidate.number c.args.candidate.excuse.now c.in-Some.clause.now number
    (rw (← c.self.view_is) lacks) c.in_ok-remember-in-Some.ensures.flags c.in_ok-remember-in-Some.ensures.noted known
