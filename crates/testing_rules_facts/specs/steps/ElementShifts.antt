-- Which rows leave the lists of facts, and which come, with one element more. That facts are kept as rows is this office's own.
use Rattle.std.specs.Prelude.{◌≡◌, Bool, if◌then◌else◌, List, [], ◌∷◌, ◌++◌, map, option_to_list}
use Rattle.std.specs.declared.cmp.Ordering.{Ordering}
use Rattle.std.specs.declared.cmp.Ordering.TheVariants.{Less, Equal, Greater}
use Rattle.std.specs.Ordering.{is_lt}
use Rattle.testing_rules_fact_order.specs.declared.log.Shifted.{Shifted}
use Rattle.testing_rules_model.specs.declared.facts.BuildIn.{BuildIn}
use Rattle.testing_rules_model.specs.Unstable.{build_order, pair_order, pair_of}
use Rattle.testing_rules_model.specs.WithMessage.{with_builds}
use Rattle.testing_rules_model.specs.declared.fact_row.FactRow.{FactRow}
use Rattle.testing_rules_model.specs.steps.FactRows.{build_row}

-- the element that gives way to one put in by key, if there is one
abbrev pub way_given : {A K : Type 0} → (A → K) → (K → K → Ordering) → (A → A → Ordering) → A → List A → List A
way_given key cmp rank x [] = []
way_given key cmp rank x (y ∷ ys) = elim (cmp (key x) (key y)) [ Less ↦ [] | Equal ↦ if is_lt (rank y x) then [] else y ∷ [] | Greater ↦ way_given key cmp rank x ys ]

-- the element itself, if it comes in
abbrev pub come_in : {A K : Type 0} → (A → K) → (K → K → Ordering) → (A → A → Ordering) → A → List A → List A
come_in key cmp rank x [] = x ∷ []
come_in key cmp rank x (y ∷ ys) = elim (cmp (key x) (key y)) [ Less ↦ x ∷ [] | Equal ↦ if is_lt (rank y x) then [] else x ∷ [] | Greater ↦ come_in key cmp rank x ys ]

-- the same for one that always comes in
abbrev pub put_over : {A K : Type 0} → (A → K) → (K → K → Ordering) → A → List A → List A
put_over key cmp x [] = []
put_over key cmp x (y ∷ ys) = elim (cmp (key x) (key y)) [ Less ↦ [] | Equal ↦ y ∷ [] | Greater ↦ put_over key cmp x ys ]

-- the rows that leave and those that come
pub record Shift : Type 0 where
  pub left : List FactRow
  pub came : List FactRow

-- no rows leave or come
abbrev pub no_shift : Shift
no_shift = record { left = []; came = [] }

-- one shift after another
abbrev pub then_shift : Shift → Shift → Shift
then_shift a b = record { left = a.left ++ b.left; came = a.came ++ b.came }

-- the shift of one build
abbrev pub shift_build : BuildIn → List BuildIn → Shift
shift_build b rows = record { left = map build_row (way_given pair_of pair_order build_order b rows); came = map build_row (come_in pair_of pair_order build_order b rows) }

-- the shift of a message's builds
abbrev pub shift_builds : (BuildIn → Bool) → List BuildIn → List BuildIn → Shift
shift_builds stands [] rows = no_shift
shift_builds stands (b ∷ bs) rows = if stands b then then_shift (shift_builds stands bs rows) (shift_build b (with_builds stands bs rows)) else shift_builds stands bs rows

-- the effect of one element on the rows: the one that gives way to it leaves, and it comes if it comes in
pub record IsShift {A K : Type 0} (key : A → K) (cmp : K → K → Ordering) (rank : A → A → Ordering) (row : A → FactRow) (x : A) (xs : List A) (shifted : Shifted) : Type 0 where
  pub left : option_to_list shifted.left ≡ map row (way_given key cmp rank x xs)
  pub came : option_to_list shifted.came ≡ map row (come_in key cmp rank x xs)
