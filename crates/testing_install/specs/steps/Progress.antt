-- How far the search for the greatest closed set has come, and what bounds its turns and looks.
use Rattle.std.specs.Prelude.{◌≡◌, ℕ, ◌+◌, ◌<◌, ◌≤◌, Bool, true, ◌==◌, if◌then◌else◌, ◌⊎◌, List, [], ◌∷◌, length, Option, Some, None, slice_index_or}
use Rattle.std.specs.List.{slice_get, count_by, sum_by}
use Rattle.deb_control.specs.declared.binary.Binary.{Binary}
use Rattle.deb_control.specs.declared.relation.Clause.{Clause}
use Rattle.testing_install.specs.Satisfies.{meets}
use Rattle.testing_install.specs.Closed.{IsClosed, IsInside, marked}
use Rattle.testing_install.specs.Claims.{clauses_of, pair_count}
use Rattle.testing_install.specs.steps.Claims.{claims_from}
use Rattle.testing_install.specs.steps.Work.{Work}

-- how often a number occurs in a list
abbrev pub count_of : ℕ → List ℕ → ℕ
count_of c xs = count_by (λ x. x == c) xs

-- the sum over the marked rows
abbrev pub weight : {X : Type 0} → (X → ℕ) → List X → List Bool → ℕ
weight g [] marks = 0
weight g (x ∷ xs) [] = 0
weight g (x ∷ xs) (m ∷ marks) = (if m then g x else 0) + weight g xs marks

-- the claim at a place
abbrev pub claim_at : List (ℕ × Clause) → ℕ → ℕ × Clause
claim_at claims c = slice_index_or claims c (0, [])

-- the row of a claim, and its clause
abbrev pub owner : List Binary → ℕ → ℕ
owner rows c = (claim_at (claims_from 0 rows) c).0

abbrev pub clause : List Binary → ℕ → Clause
clause rows c = (claim_at (claims_from 0 rows) c).1

abbrev pub claim_count : List Binary → ℕ
claim_count rows = length (claims_from 0 rows)

-- how many clauses the row meets
abbrev pub gain : List Binary → Binary → ℕ
gain rows row = count_by (λ clause. meets row clause) (clauses_of rows)

abbrev pub gain_of : List Binary → Option Binary → ℕ
gain_of rows None = 0
gain_of rows (Some row) = gain rows row

abbrev pub gain_at : List Binary → ℕ → ℕ
gain_at rows k = gain_of rows (slice_get rows k)

-- a claim rests on a row that meets it and is marked or waiting
pub record Rests (rows : List Binary) (w : Work) (c : ℕ) : Type 0 where
  pub place : ℕ
  pub row : Binary
  pub stands : slice_get rows place ≡ Some row
  pub here : (marked w.marks place ≡ true) ⊎ (0 < count_of place w.waiting)
  pub listed : 0 < count_of c (slice_index_or w.resting place [])
  pub does : meets row (clause rows c) ≡ true

-- what makes the marks right, while the claims todo wait for a look: every closed set is among the marked rows, and
-- each other claim of a marked row rests on a row that meets it
pub record IsSound (rows : List Binary) (w : Work) (todo : List ℕ) : Type 0 where
  pub marks_len : length w.marks ≡ length rows
  pub resting_len : length w.resting ≡ length rows
  pub waiting_in : (k : ℕ) → 0 < count_of k w.waiting → k < length rows
  pub todo_in : (c : ℕ) → 0 < count_of c todo → c < claim_count rows
  pub resting_in : (k : ℕ) (row : Binary) (c : ℕ) → slice_get rows k ≡ Some row → 0 < count_of c (slice_index_or w.resting k []) → (c < claim_count rows) × (meets row (clause rows c) ≡ true)
  pub rests : (c : ℕ) → c < claim_count rows → count_of c todo ≡ 0 → marked w.marks (owner rows c) ≡ true → Rests rows w c
  pub keeps : (other : ℕ → Bool) → IsClosed rows other → IsInside rows other (marked w.marks)

-- what bounds the turns and the looks: no claim is listed twice, each row is marked, waiting or done, and the looks
-- done and possible are at most the number of claims and pairs
pub record IsBounded (rows : List Binary) (w : Work) (todo : List ℕ) : Type 0 where
  pub once : (c : ℕ) → sum_by (λ xs. count_of c xs) w.resting + count_of c todo ≤ 1
  pub balance : w.turns + length w.waiting + count_by (λ b. b) w.marks ≡ length rows
  pub cost : w.looks + length todo + sum_by (gain_at rows) w.waiting + weight (gain rows) rows w.marks ≤ claim_count rows + pair_count rows

-- what is true between two looks
pub record IsWork (rows : List Binary) (w : Work) (todo : List ℕ) : Type 0 where
  pub sound : IsSound rows w todo
  pub bounded : IsBounded rows w todo
