-- Facts put back from their rows. That facts are kept as rows is this office's own.
use Rattle.std.specs.Prelude.{◌≡◌, List, [], ◌∷◌, length, map, Contains}
use Rattle.testing_rules_model.specs.FactLists.{FactLists}
pub use Rattle.testing_rules_model.specs.FactLists.{no_facts}
use Rattle.testing_rules_model.specs.Suite.{Suite}
use Rattle.testing_rules_model.specs.Covered.{Covered}
use Rattle.testing_rules_model.specs.SameMessages.{SameElements, HasOneOfEach}
use Rattle.testing_rules_model.specs.StandsFor.{StandsFor}
use Rattle.testing_rules_model.specs.declared.fact_row.FactRow.{FactRow}
use Rattle.testing_rules_model.specs.FactRows.{rows_of, times}
use Rattle.testing_rules_facts.specs.Restored.{Given, message_of, restored}

-- all rows restored in turn
abbrev pub restored_all : List Given → FactLists → FactLists
restored_all [] f = f
restored_all (x ∷ xs) f = restored_all xs (restored x f)

-- these are the rows of the facts, in any order and with repetitions, each with the set's item there
pub record AreRowsOf (xs : List Given) (f : FactLists) (s : Covered) : Type 0 where
  pub rows : SameElements (map (λ x. x.0) xs) (rows_of f)
  pub items : (x : Given) → Contains xs x → Contains s (message_of x)

-- the same facts, except for the order of the uploads and the rows that came and left
pub record AreSameFacts (f g : FactLists) : Type 0 where
  pub sources : g.sources ≡ f.sources
  pub uploads : SameElements g.uploads f.uploads
  pub rows : g.rows ≡ f.rows
  pub drops : g.drops ≡ f.drops
  pub bugs : g.bugs ≡ f.bugs
  pub hints : g.hints ≡ f.hints
  pub unhints : g.unhints ≡ f.unhints
  pub delays : g.delays ≡ f.delays

-- The rows of facts, restored in any order, give the same facts.
abbrev pub RowsDetermine : Type 0
RowsDetermine =
    (f : FactLists) (s : Covered) (t : Suite) (xs : List Given) → HasOneOfEach s → StandsFor f s t → AreRowsOf xs f s
    → AreSameFacts f (restored_all xs no_facts) × StandsFor (restored_all xs no_facts) s t

-- If facts have as many rows as were restored, these are their rows.
abbrev pub AllCame : Type 0
AllCame =
    (xs : List Given) → length (rows_of (restored_all xs no_facts)) ≡ length xs → (r : FactRow)
    → times r (rows_of (restored_all xs no_facts)) ≡ times r (map (λ x. x.0) xs)
