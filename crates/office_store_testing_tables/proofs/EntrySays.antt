-- What rows of testing's tables say by their columns.
use Rattle.std.proofs.Common.{◌≡◌, ◌<◌, ℕ, ℤ, pos, List, Some, None, ap, ◌∙◌, cond, true, nat_lt, arith}
use Rattle.std.proofs.lemmas.Bool.Decides.{nat_tests}
use Rattle.sqlite.specs.declared.types.Value.{Value}
use Rattle.sqlite.specs.declared.types.Value.TheVariants.{Null, Int, Real, Text, Blob}
use Rattle.sqlite.specs.Order.{Row, column}
use Rattle.office_store_testing_tables.specs.steps.ReadingSteps.{small_of}
use Rattle.office_store_testing_tables.specs.Entries.{integer_in, source_by, source_in, row_by, entry_in}

-- fewer than 2 ^ 32
abbrev pub Fits32 : ℕ → Type 0
Fits32 n = n < 4_294_967_296

pub small_is : (n : ℕ) → Fits32 n → small_of (Some n) ≡ Some n
small_is n h = let t : nat_lt n 4_294_967_296 ≡ true = grind (arith, nat_tests) in ap (λ b. cond b (Some n) None) t

pub integer_is : (v : Value) (n : ℤ) → integer_in v ≡ Some n → v ≡ Int n
integer_is Null n h = absurd (let e = h in cc)
integer_is (Int m) n h = let e : m ≡ n = cc in ap Int e
integer_is (Real x) n h = absurd (let e = h in cc)
integer_is (Text t) n h = absurd (let e = h in cc)
integer_is (Blob b) n h = absurd (let e = h in cc)

pub source_says : (row : Row) (id : ℤ) (name : List ℕ) (sender number : ℕ) → column row 0 ≡ Int id → column row 1 ≡ Text name → column row 2 ≡ Int (pos sender) → column row 3 ≡ Int (pos number) → Fits32 sender → Fits32 number → source_in row ≡ Some (name, (sender, number))
unfolding source_in
source_says row id name sender number a b c d s n = rw (a, b, c, d) (ap (λ x. source_by (Some id) (Some name) x (small_of (Some number))) (small_is sender s) ∙ ap (source_by (Some id) (Some name) (Some sender)) (small_is number n))

pub entry_says : (row : Row) (id : ℤ) (arch : ℕ) (name : List ℕ) (sender number place : ℕ) → column row 0 ≡ Int id → column row 1 ≡ Int (pos arch) → column row 2 ≡ Text name → column row 3 ≡ Int (pos sender) → column row 4 ≡ Int (pos number) → column row 5 ≡ Int (pos place)
    → Fits32 arch → Fits32 sender → Fits32 number → Fits32 place → entry_in row ≡ Some ((arch, name), ((sender, number), place))
unfolding entry_in
entry_says row id arch name sender number place a b c d e f w x y z = rw (a, b, c, d, e, f)
    (ap (λ v. row_by (Some id) v (Some name) (small_of (Some sender)) (small_of (Some number)) (small_of (Some place))) (small_is arch w)
    ∙ ap (λ v. row_by (Some id) (Some arch) (Some name) v (small_of (Some number)) (small_of (Some place))) (small_is sender x)
    ∙ ap (λ v. row_by (Some id) (Some arch) (Some name) (Some sender) v (small_of (Some place))) (small_is number y)
    ∙ ap (row_by (Some id) (Some arch) (Some name) (Some sender) (Some number)) (small_is place z))
