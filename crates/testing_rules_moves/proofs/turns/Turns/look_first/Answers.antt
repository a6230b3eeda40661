use Rattle.std.proofs.Common.{refl, ap, List, Ok}
use Rattle.testing_rules_model.specs.declared.excuse.Excuse.{Excuse}
use Rattle.testing_rules_moves.specs.steps.Refusals.{IsNumbered, AreRefused, IsTried}
use Rattle.testing_rules_moves.specs.steps.Runs.{moment_of}
use Rattle.testing_rules_moves.proofs.Trying.{by_answer, known_still, tried_moved, tried_stayed}
use Rattle.testing_rules_moves.proofs.turns.Turns.look_first.Goals as goal

pub returns-then-branch : goal.returns-then-branch
returns-then-branch c = λ excuses number known.
    tried_stayed c.args.self.now c.args.self.now excuses c.args.candidate.excuse.now c.remember_lack.new.refusals
    (c.in_ok-remember_lack.ensures.known excuses number known) (c.in_ok-remember_lack.ensures.refused (ap Ok c.if-branch.true)) refl

pub returns : goal.returns
returns c =
    let old = c.args.self.now in
    let new = c.move_alone.new.self in
    let e = c.args.candidate.excuse.now in
    let mid = c.remember_lack.new.refusals in
    let last = c.move_alone.new.refusals in
    let looked = c.in_ok-remember_lack.ensures.known in
    let trial = c.move_alone.ensures in
    by_answer (λ moved. (excuses : List Excuse) → IsNumbered excuses c.args.candidate → AreRefused (moment_of old) excuses c.args.refusals.now → IsTried old new excuses e last moved) c.move_alone.result
    (λ moved excuses number known. tried_moved old new excuses e last mid (looked excuses number known) (trial.moved moved) (trial.after moved) (trial.woken moved))
    (λ stayed excuses number known.
    let still = known_still old new excuses mid last (trial.same stayed) (trial.asleep stayed) (looked excuses number known) in
    tried_stayed old new excuses e last still (trial.stays stayed) (trial.same stayed))
