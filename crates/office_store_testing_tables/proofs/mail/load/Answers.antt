use Rattle.std.proofs.Common.{sym, subst, arith}
use Rattle.sqlite.specs.Held.{state}
use Rattle.office_store_testing_tables.specs.steps.TableSteps.{ShowsLetters}
use Rattle.office_store_testing_tables.proofs.LoadFacts.{loaded_on}
use Rattle.office_store_testing_tables.proofs.LoadLemmas.{shows_letters, few_letters}
use Rattle.office_store_testing_tables.proofs.Passed.{passed}
use Rattle.office_store_testing_tables.proofs.mail.load.Goals as goal

pub returns-in_err-letters-clause-bad : goal.returns-in_err-letters-clause-bad
returns-in_err-letters-clause-bad g c trusted bad letters apart =
    let shows = shows_letters ((state g.S.Store c.letters_between.new.conn).now.trees 1) c.args.sender c.args.from c.args.to c.in_ok-rows.rows.items (c.in_ok-rows.ensures.finds trusted) letters (omega arith) in
    c.in_err-letters.ensures.bad (passed c.from_residual-in_err-letters.result c.in_err-letters.field-0.0 _ bad c.from_residual-in_err-letters.ensures.1) (subst (ShowsLetters c.args.sender) (sym c.as_slice.ensures.value) shows)

pub returns-clause-bad : goal.returns-clause-bad
returns-clause-bad g c trusted bad letters apart =
    c.by_number.ensures.bad bad
    (few_letters ((state g.S.Store c.letters_between.new.conn).now.trees 1) c.args.sender c.args.from c.args.to c.in_ok-rows.rows.items c.in_ok-letters.letters.items (c.in_ok-rows.ensures.finds trusted) (rw c.as_slice.ensures.value at c.in_ok-letters.ensures.ok) apart)

pub returns-clause-loaded : goal.returns-clause-loaded
returns-clause-loaded g c trusted =
    loaded_on (λ v. v.items) ((state g.S.Store c.letters_between.new.conn).now.trees 1) c.args.sender c.args.from c.args.to c.in_ok-rows.rows.items c.in_ok-letters.letters.items c.by_number.result (c.in_ok-rows.ensures.finds trusted)
    (rw c.as_slice.ensures.value at c.in_ok-letters.ensures.ok) c.by_number.ensures.same c.by_number.ensures.rising
