-- The rows that came and those that left, without those that did both.
use Rattle.std.specs.Prelude.{◌≡◌, ℕ, ◌+◌, ◌<◌, ◌≤◌, ◌⊎◌, true, List, length, take, slice_index_or}
use Rattle.std.specs.Ordering.{is_lt}
use Rattle.testing_rules_model.specs.declared.fact_row.FactRow.{FactRow}
use Rattle.testing_rules_fact_order.specs.declared.row_changes.Side.{Side}
use Rattle.testing_rules_fact_order.specs.declared.row_changes.Side.TheVariants.{Came, Left, Both}
use Rattle.testing_rules_model.specs.FactRows.{times, row_order}

-- the rows from a place on are above this one
abbrev pub IsBelowFrom : FactRow → List FactRow → ℕ → Type 0
IsBelowFrom r rows i = (k : ℕ) (d : FactRow) → i ≤ k → k < length rows → is_lt (row_order r (slice_index_or rows k d)) ≡ true

-- Of the first rows that came and left, in order, these are put and those are gone.
pub record IsNet (came left : List FactRow) (put gone : List FactRow) (i j : ℕ) : Type 0 where
  pub balance : (r : FactRow) → times r put + times r (take j left) ≡ times r gone + times r (take i came)
  pub apart : (r : FactRow) → (times r put ≡ 0) ⊎ (times r gone ≡ 0)
  pub put_below : (r : FactRow) → 0 < times r put → IsBelowFrom r left j
  pub gone_below : (r : FactRow) → 0 < times r gone → IsBelowFrom r came i

-- the side whose turn it is: the one with the lower next row
abbrev pub IsTurn : List FactRow → List FactRow → ℕ → ℕ → Side → Type 0
IsTurn came left i j Came = (i < length came) × (j < length left → (d e : FactRow) → is_lt (row_order (slice_index_or came i d) (slice_index_or left j e)) ≡ true)
IsTurn came left i j Left = (j < length left) × (i < length came → (d e : FactRow) → is_lt (row_order (slice_index_or left j e) (slice_index_or came i d)) ≡ true)
IsTurn came left i j Both = (i < length came) × (j < length left) × ((d e : FactRow) → slice_index_or came i d ≡ slice_index_or left j e)
