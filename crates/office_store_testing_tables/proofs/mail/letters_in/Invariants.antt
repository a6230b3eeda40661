use Rattle.std.proofs.Common.{◌≡◌, map, take, Some}
use Rattle.office_store_testing_tables.specs.steps.TableSteps.{shown_letter, letter_entry}
use Rattle.office_store_testing_tables.proofs.mail.letters_in.Given as goal

-- the rows so far show the letters so far
abbrev pub invariant-rows : goal.invariant-rows
invariant-rows l = record { so_far : map shown_letter (take l.row-index l.rows) ≡ map Some (map (letter_entry l.sender) l.letters.items) }
