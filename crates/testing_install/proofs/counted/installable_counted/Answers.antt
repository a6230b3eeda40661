use Rattle.std.proofs.Common.{arith, ap, sym, not, length, ◌∙◌}
use Rattle.std.specs.List.{count_by}
use Rattle.testing_install.specs.Rows.{binaries}
use Rattle.testing_install.proofs.Answering.{answers_exact, answers_closed, answers_greatest}
use Rattle.testing_install.proofs.Choosing.{answers_computed}
use Rattle.testing_install.proofs.Places.{length-binaries}
use Rattle.testing_install.proofs.Looking.{length-pairs}
use Rattle.testing_install.proofs.Claiming.{length-claims_from}
use Rattle.testing_install.proofs.Working.{sound_done, done_turns, done_looks}
use Rattle.testing_install.proofs.counted.installable_counted.Goals as goal

pub returns-clause-exact : goal.returns-clause-exact
returns-clause-exact c = answers_exact (binaries c.args.rows.now) _ _ _ c.into_parts-answers.ensures.marks (length-binaries c.args.rows.now) (sound_done _ _ c.in_ok-worked.ensures.done.sound c.in_ok-worked.ensures.empty)

pub returns-clause-closed : goal.returns-clause-closed
returns-clause-closed c = answers_closed _ _ _ c.into_parts-answers.ensures.marks (sound_done _ _ c.in_ok-worked.ensures.done.sound c.in_ok-worked.ensures.empty)

pub returns-clause-greatest : goal.returns-clause-greatest
returns-clause-greatest c = answers_greatest _ _ _ c.into_parts-answers.ensures.marks (sound_done _ _ c.in_ok-worked.ensures.done.sound c.in_ok-worked.ensures.empty)

pub returns-clause-turns : goal.returns-clause-turns
returns-clause-turns c = c.into_parts-answers.ensures.turns ∙ done_turns _ _ c.in_ok-worked.ensures.done c.in_ok-worked.ensures.empty ∙ ap (λ xs. count_by (λ b. not b) xs) (sym c.into_parts-answers.ensures.marks)

pub returns-clause-at_most : goal.returns-clause-at_most
returns-clause-at_most c = omega (arith, c.into_parts-answers.ensures.looks, done_looks _ _ c.in_ok-worked.ensures.done)

pub returns-clause-at_least : goal.returns-clause-at_least
returns-clause-at_least c = λ few. omega (arith, few, c.into_parts-answers.ensures.looks, c.in_ok-worked.ensures.counted, length-pairs (binaries c.args.rows.now) _ c.in_ok-claims_of.ensures, length-claims_from 0 (binaries c.args.rows.now))

pub returns-clause-computed : goal.returns-clause-computed
returns-clause-computed c = answers_computed (binaries c.args.rows.now) _ (length c.args.rows.now) (ap length c.into_parts-answers.ensures.marks ∙ c.in_ok-worked.ensures.done.sound.marks_len ∙ length-binaries c.args.rows.now) (length-binaries c.args.rows.now) (returns-clause-exact c)
