-- Texts of mail loaded together.
use Rattle.std.specs.Prelude.{◌≡◌, ℕ, List, Some, Contains}
use Rattle.std.specs.FinMap.{get}
use Rattle.sqlite.specs.Tree.{Trees}
use Rattle.office_mail.specs.Kept.{Kept}
use Rattle.office_store_keeper.specs.declared.values.Letter.{Letter}
use Rattle.office_store_testing_tables.specs.declared.loaded.LoadedLetters.{LoadedLetters}
use Rattle.office_store_testing_tables.specs.Tables.{kept_rows}

-- these letters are kept mail of the sender
abbrev pub AreLettersOf : Kept → ℕ → List Letter → Type 0
AreLettersOf kept sender letters = (x : Letter) → Contains letters x → get kept (sender, x.number) ≡ Some x.text

-- the loaded letters are, by these tables
abbrev pub AreLoaded : Trees → LoadedLetters → Type 0
AreLoaded db block = AreLettersOf (kept_rows (db 1)) block.sender block.letters.items
