-- Builds in order are rows in order: by the place of the architecture, with `all` last, and by name.
use Rattle.std.specs.Prelude.{ℕ, ◌+◌, ◌<◌, ◌≤◌, Bool, true, false, cond, List, [], ◌∷◌, ◌++◌, map, filter, length, codes}
use Rattle.std.specs.List.{AllByRecursion, enumerate_from, flat_map}
use Rattle.std.specs.List.Sorted.{IsStrictlySortedBy}
use Rattle.std.specs.Str.{bytes_eq}
use Rattle.std.specs.declared.cmp.Ordering.TheVariants.{Less}
use Rattle.std.specs.Cmp.{nat_cmp_is}
use Rattle.std.specs.Ordering.{ordering_then}
use Rattle.std.proofs.Common.{◌≡◌, refl, sym, ap, ◌∙◌, arith}
use Rattle.std.proofs.lemmas.Cmp.{tied_itself, nat_cmp_total}
use Rattle.std.proofs.lemmas.Slice.Eq.{bytes_eq-Decides}
use Rattle.testing_rules_model.specs.FactOrder.{AreByPair}
use Rattle.testing_rules_model.specs.InOrder.{AreByKey}
use Rattle.testing_rules_model.specs.Moves.{row_cmp, row_key}
use Rattle.testing_rules_model.specs.Unstable.{pair_order, pair_of, row_at, built_rows}
use Rattle.testing_rules_model.specs.steps.Unstable.{built_on}
use Rattle.testing_rules_items.specs.Words.{Text, byte_cmp}
use Rattle.testing_rules_model.specs.declared.facts.BuildIn.{BuildIn}
use Rattle.testing_rules_model.specs.declared.suite.RowIn.{RowIn}
use Rattle.testing_rules_model.proofs.Orders.{text_order}

-- keys of different architectures, and of the same
apart : (n m : ℕ) (a b : Text) → n < m → row_cmp (n, a) (m, b) ≡ Less
apart n m a b h = ap (λ o. ordering_then o (byte_cmp a b)) (sym (nat_cmp_is n m Less h))

level : (n : ℕ) (a b : Text) → byte_cmp a b ≡ Less → row_cmp (n, a) (n, b) ≡ Less
level n a b e = ap (λ o. ordering_then o (byte_cmp a b)) (tied_itself nat_cmp_total n) ∙ e

-- a build of the architecture that stands behind one of it has a greater name
name_of_pair : (b c : BuildIn) (arch : Text) → b.binary.architecture ≡ arch → c.binary.architecture ≡ arch → pair_order (pair_of b) (pair_of c) ≡ Less
    → byte_cmp b.binary.name c.binary.name ≡ Less
name_of_pair b c arch e f h =
    let same : b.binary.architecture ≡ c.binary.architecture = e ∙ sym f in
    let tied = ap (byte_cmp b.binary.architecture) (sym same) ∙ tied_itself text_order b.binary.architecture in
    sym (ap (λ o. ordering_then o (byte_cmp b.binary.name c.binary.name)) tied) ∙ h

module _ (n : ℕ) (arch : Text) where
  abbrev is_there : BuildIn → Bool
  is_there b = bytes_eq b.binary.architecture arch

  abbrev rows_there : List BuildIn → List RowIn
  rows_there bs = map (row_at n) (filter is_there bs)

  behind_at : (t : Bool) (b c : BuildIn) (bs : List BuildIn) → is_there c ≡ t → b.binary.architecture ≡ arch → pair_order (pair_of b) (pair_of c) ≡ Less
      → AllByRecursion (λ k. row_cmp (n, b.binary.name) k ≡ Less) (map row_key (rows_there bs))
      → AllByRecursion (λ k. row_cmp (n, b.binary.name) k ≡ Less) (map row_key (map (row_at n) (cond t (c ∷ filter is_there bs) (filter is_there bs))))
  behind_at true b c bs e own h more = (level n b.binary.name c.binary.name (name_of_pair b c arch own ((bytes_eq-Decides c.binary.architecture arch).0 e) h), more)
  behind_at false b c bs e own h more = more

  behind : (b : BuildIn) (bs : List BuildIn) → b.binary.architecture ≡ arch → AllByRecursion (λ k. pair_order (pair_of b) k ≡ Less) (map pair_of bs)
      → AllByRecursion (λ k. row_cmp (n, b.binary.name) k ≡ Less) (map row_key (rows_there bs))
  behind b [] own h = tt
  behind b (c ∷ bs) own h = behind_at (is_there c) b c bs refl own h.0 (behind b bs own h.1)

  -- the rows of one architecture
  there_at : (t : Bool) (b : BuildIn) (bs : List BuildIn) → is_there b ≡ t → AllByRecursion (λ k. pair_order (pair_of b) k ≡ Less) (map pair_of bs)
      → AreByKey (rows_there bs) → AreByKey (map (row_at n) (cond t (b ∷ filter is_there bs) (filter is_there bs)))
  unfolding IsStrictlySortedBy
  there_at true b bs e h more = (behind b bs ((bytes_eq-Decides b.binary.architecture arch).0 e) h, more)
  there_at false b bs e h more = more

  there : (bs : List BuildIn) → AreByPair bs → AreByKey (rows_there bs)
  unfolding IsStrictlySortedBy
  there [] h = tt
  there (b ∷ bs) h = there_at (is_there b) b bs refl h.0 (there bs h.1)

-- the architecture of each row is above the place
abbrev AreAbove : ℕ → List RowIn → Type 0
AreAbove n rows = AllByRecursion (λ (r : RowIn). n < r.arch) rows

above_all : (n : ℕ) (a : Text) (rows : List RowIn) → AreAbove n rows → AllByRecursion (λ k. row_cmp (n, a) k ≡ Less) (map row_key rows)
above_all n a [] h = tt
above_all n a (r ∷ rows) h = (apart n r.arch a r.binary.name h.0, above_all n a rows h.1)

both_all : (P : ℕ × Text → Type 0) (xs ys : List RowIn) → AllByRecursion P (map row_key xs) → AllByRecursion P (map row_key ys) → AllByRecursion P (map row_key (xs ++ ys))
both_all P [] ys h k = k
both_all P (x ∷ xs) ys h k = (h.0, both_all P xs ys h.1 k)

-- the rows of an architecture, and behind them those of greater ones
joined : (n : ℕ) (bs : List BuildIn) (rows : List RowIn) → AreByKey (map (row_at n) bs) → AreByKey rows → AreAbove n rows → AreByKey (map (row_at n) bs ++ rows)
unfolding IsStrictlySortedBy
joined n [] rows h k a = k
joined n (b ∷ bs) rows h k a =
    (both_all (λ j. row_cmp (n, b.binary.name) j ≡ Less) (map (row_at n) bs) rows h.0 (above_all n b.binary.name rows a), joined n bs rows h.1 k a)

above_joined : (n m : ℕ) (bs : List BuildIn) (rows : List RowIn) → n < m → AreAbove n rows → AreAbove n (map (row_at m) bs ++ rows)
above_joined n m [] rows h a = a
above_joined n m (b ∷ bs) rows h a = (h, above_joined n m bs rows h a)

module _ (builds : List BuildIn) (h : AreByPair builds) where
  -- the places from one on, with `all` last
  abbrev from : ℕ → List Text → List RowIn
  from n archs = flat_map (built_on builds) (enumerate_from n archs ++ (16, codes "all") ∷ [])

  last_above : (n : ℕ) → n < 16 → AreAbove n (built_on builds (16, codes "all") ++ [])
  last_above n l = above_joined n 16 (filter (is_there 16 (codes "all")) builds) [] l tt

  from_above : (n m : ℕ) (archs : List Text) → n < m → n < 16 → AreAbove n (from m archs)
  from_above n m [] l s = last_above n s
  from_above n m (a ∷ archs) l s = above_joined n m (filter (is_there m a) builds) (from (m + 1) archs) l (from_above n (m + 1) archs (omega (arith, l)) s)

  from_by_key : (n : ℕ) (archs : List Text) → n + length archs ≤ 16 → AreByKey (from n archs)
  unfolding IsStrictlySortedBy
  from_by_key n [] l = joined 16 (filter (is_there 16 (codes "all")) builds) [] (there 16 (codes "all") builds h) tt tt
  from_by_key n (a ∷ archs) l =
      joined n (filter (is_there n a) builds) (from (n + 1) archs) (there n a builds h) (from_by_key (n + 1) archs (omega (arith, l))) (from_above n (n + 1) archs (omega arith) (omega (arith, l)))

pub built-by_key : (archs : List Text) (builds : List BuildIn) → length archs ≤ 16 → AreByPair builds → AreByKey (built_rows archs builds)
built-by_key archs builds few h = from_by_key builds h 0 archs (omega (arith, few))
