-- Suites that get a pool's further rows, architecture by architecture.
use Rattle.std.specs.Prelude.{ℕ, ◌+◌, ◌-◌, ◌<◌, ◌≤◌, Bool, true, false, nat_lt, List, [], ◌∷◌, ◌++◌, Some, get_or, length, take, drop, replicate}
use Rattle.std.specs.List.{slice_get, range_with_len}
use Rattle.std.proofs.Common.{◌≡◌, refl, sym, ap, ◌∙◌, subst, arith}
use Rattle.std.proofs.Math.Seq.{take-append_seam}
use Rattle.std.proofs.lemmas.Bool.Decides.{nat_tests}
use Rattle.std.proofs.lemmas.List.{drop_more, length-append, length-drop, length-replicate, length_push}
use Rattle.std.proofs.lemmas.Option.{slice_get-get_or, slice_get_within}
use Rattle.testing_install.specs.Among.{after_change}
use Rattle.testing_install.specs.Closed.{marked}
use Rattle.testing_rules_model.specs.declared.suite.RowIn.{RowIn}
use Rattle.testing_rules_model.specs.InOrder.{AreByKey}
use Rattle.testing_rules_suites.specs.steps.ArchRows.{ArchRows}
use Rattle.testing_rules_suites.specs.Present.{IsShown}
use Rattle.testing_rules_suites.specs.steps.PresentSteps.{IsSuiteOn, AreOver, AreSuites, IsCarriedState}
use Rattle.testing_rules_suites.proofs.Lost.{at_place, contains_at}
use Rattle.testing_rules_suites.proofs.Suites.{are_more, firsts_stand, over_of}

-- what is left of a list from a place on: the element at the place, and what is left from the next one on
module _ {A : Type 0} (xs : List A) (n : ℕ) (x : A) (rest : List A) (left : x ∷ rest ≡ drop n xs) where
  pub left_within : n < length xs
  left_within = omega (arith, ap length left, length-drop n xs)

  cut : x ∷ rest ≡ get_or xs n x ∷ drop (n + 1) xs
  cut = left ∙ drop_more xs n x left_within

  pub left_first : slice_get xs n ≡ Some x
  left_first = slice_get-get_or xs n x left_within ∙ ap (λ zs. Some (get_or zs 0 x)) (sym cut)

  pub left_rest : rest ≡ drop (n + 1) xs
  left_rest = ap (drop 1) cut

-- the suite of an architecture over no row
pub suite_of_none : (arch : ℕ) → IsSuiteOn arch [] [] (record { places = []; suite = record { rows = []; there = [] } })
suite_of_none arch = record {
  over = record { places = refl; rows = refl; long = refl };
  stand = λ i k at. refl;
}

-- the suites of the first architectures have the pool's rows from a place on, of which none stands, and the others are
-- still to come
pub record AreExtendedTo (olds news rest : List ArchRows) (pool : List RowIn) (from n : ℕ) : Type 0 where
  pub count : length news ≡ n
  pub within : n ≤ length olds
  pub left : rest ≡ drop n olds
  pub each : (stands : List Bool) → length stands ≡ from → AreSuites (take from pool) stands olds → AreSuites pool (stands ++ replicate (length pool - from) false) news

pub extended_none : (olds : List ArchRows) (pool : List RowIn) (from : ℕ) → AreExtendedTo olds [] olds pool from 0
extended_none olds pool from = record {
  count = refl;
  within = omega arith;
  left = refl;
  each = λ stands long are. record { each = λ arch suite at. absurd (omega (arith, slice_get_within [] arch suite at)) };
}

pub extended_more : (olds news rest : List ArchRows) (pool : List RowIn) (from n : ℕ) (old new : ArchRows) → AreExtendedTo olds news (old ∷ rest) pool from n
    → ((stands : List Bool) → length stands ≡ from → IsSuiteOn n (take from pool) stands old → IsSuiteOn n pool (stands ++ replicate (length pool - from) false) new)
    → AreExtendedTo olds (news ++ new ∷ []) rest pool from (n + 1)
extended_more olds news rest pool from n old new to step = record {
  count = length_push news new ∙ ap (λ m. m + 1) to.count;
  within = omega (arith, left_within olds n old rest to.left);
  left = left_rest olds n old rest to.left;
  each = λ stands long are.
      are_more pool (stands ++ replicate (length pool - from) false) news n new (to.each stands long are) to.count (step stands long (are.each n old (left_first olds n old rest to.left)));
}

pub extended_all : (olds news : List ArchRows) (pool : List RowIn) (from n : ℕ) → AreExtendedTo olds news [] pool from n → length news ≡ length olds
extended_all olds news pool from n to = omega (arith, to.count, to.within, ap length to.left, length-drop n olds)

-- what is kept, with more rows behind those of its pool
module _ (pool more longer : List RowIn) (stands : List Bool) (archs : ℕ) (suites : List ArchRows) (was : IsCarriedState pool stands archs suites) (grown : longer ≡ pool ++ more) where
  pub longer_from : length pool ≤ length longer
  longer_from = omega (arith, ap length grown, length-append pool more)

  front : take (length pool) longer ≡ pool
  front = ap (take (length pool)) grown ∙ take-append_seam pool more

  are_still : AreSuites (take (length pool) longer) stands suites
  are_still = subst (λ p. AreSuites p stands suites) (sym front) was.each

  pub longer_over : AreOver (take (length pool) longer) suites
  longer_over = over_of (take (length pool) longer) stands suites are_still

  behind : length longer - length stands ≡ length more
  behind = omega (arith, was.long, ap length grown, length-append pool more)

  pub longer_flags : (flags : List Bool) → flags ≡ stands ++ replicate (length longer - length stands) false → flags ≡ stands ++ replicate (length more) false
  longer_flags flags e = e ∙ ap (λ n. stands ++ replicate n false) behind

  pub longer_kept : (flags : List Bool) (new : List ArchRows) → flags ≡ stands ++ replicate (length longer - length stands) false → length new ≡ length suites
      → ((fs : List Bool) → length fs ≡ length pool → AreSuites (take (length pool) longer) fs suites → AreSuites longer (fs ++ replicate (length longer - length pool) false) new)
      → IsCarriedState longer flags archs new
  longer_kept flags new e count each = record {
    long = ap length (longer_flags flags e) ∙ length-append stands (replicate (length more) false)
        ∙ (let n = length-replicate (length more) false in omega (arith, n, was.long, ap length grown, length-append pool more));
    count = was.count ∙ sym count;
    each = subst (λ fs. AreSuites longer fs new) (sym (e ∙ ap (λ n. stands ++ replicate (length longer - n) false) was.long)) (each stands was.long are_still);
  }

-- where all of the rows have come, they are shown
pub all_shown : (rows : List RowIn) (n : ℕ) → AreByKey rows → n ≡ length rows → IsShown rows (marked (after_change [] (range_with_len 0 n) (replicate (length rows) false))) rows
all_shown rows n by_key e = record {
  by_key = by_key;
  within = λ r c.
      let at = at_place rows r c in
      (c.0, at, up c.0 (slice_get_within rows c.0 r at));
  all = λ k r at h. contains_at rows k r at;
}
  where
    below : (a b : ℕ) → a < b → nat_lt a b ≡ true
    below a b h = grind (arith, nat_tests)

    up : (k : ℕ) → k < length rows → marked (after_change [] (range_with_len 0 n) (replicate (length rows) false)) k ≡ true
    up k h = firsts_stand n (length rows) k h ∙ below k n (omega (arith, h, e))
