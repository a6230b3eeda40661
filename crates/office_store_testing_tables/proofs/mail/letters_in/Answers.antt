use Rattle.std.proofs.Common.{[], ◌∷◌, map, sym, ap, ◌∙◌}
use Rattle.std.proofs.lemmas.List.{map-append}
use Rattle.office_store_testing_tables.specs.steps.TableSteps.{shown_letter, letter_entry}
use Rattle.office_store_testing_tables.proofs.EntryLists.{read_more}
use Rattle.office_store_testing_tables.proofs.LoadFacts.{letter_says}
use Rattle.office_store_testing_tables.proofs.Passed.{passed}
use Rattle.office_store_testing_tables.proofs.mail.letters_in.Goals as goal

pub rows-preserved : goal.rows-preserved
rows-preserved c =
    let entry = letter_entry c.args.sender in
    let says = c.in_ok-letter.ensures.ok in
    record {
      so_far = read_more shown_letter c.args.rows.now c.rows.row-index c.row-item.result (entry c.in_ok-letter.letter) (map entry c.rows.letters.items) (map entry c.push.new.self.items) c.rows-test.true c.row-item.is
          c.rows.invariant.so_far (letter_says c.row-item.result c.args.sender c.in_ok-letter.letter says.0 says.1 says.2) (ap (map entry) c.in_ok-push.ensures.items ∙ map-append entry c.rows.letters.items (c.in_ok-letter.letter ∷ []));
    }

pub returns-in_err-letter-clause-bad : goal.returns-in_err-letter-clause-bad
returns-in_err-letter-clause-bad c bad shows =
    let each = shows c.row-item.result (c.rows.row-index, c.rows-test.true, sym c.row-item.is) in
    c.in_err-letter.ensures.bad (passed c.from_residual.result c.in_err-letter.field-0.0 _ bad c.from_residual.ensures.1) each.0 each.1 each.2 each.3
