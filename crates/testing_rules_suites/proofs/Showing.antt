-- What stands of a pool is what its flags show.
use Rattle.std.specs.Prelude.{ℕ, ◌<◌, Bool, true, List, [], Contains, Some, length}
use Rattle.std.specs.List.{All, slice_get, range_with_len}
use Rattle.std.specs.List.Sorted.{IsStrictlySortedBy}
use Rattle.std.proofs.Common.{◌≡◌, refl, arith, inl, inr}
use Rattle.std.proofs.lemmas.List.FromFn.{length-range_with_len, get_or-range_with_len}
use Rattle.testing_install.specs.Closed.{marked}
use Rattle.testing_rules_model.specs.declared.suite.RowIn.{RowIn}
use Rattle.testing_rules_suites.specs.steps.AfterMoves.{with_rows, rows_at}
use Rattle.testing_rules_model.specs.InOrder.{AreByKey}
use Rattle.testing_rules_suites.specs.Present.{IsShown}
use Rattle.testing_rules_suites.specs.steps.PresentSteps.{PoolState, set_places, present_rows}
use Rattle.testing_rules_suites.proofs.Flags.{marked_within, bounded_members}
use Rattle.testing_rules_model.proofs.Least.{from_filter, to_filter}
use Rattle.testing_rules_items.proofs.Members.{none_among}
use Rattle.testing_rules_suites.proofs.Moving.{puts_from, puts_have, AreOthers}
use Rattle.testing_rules_model.proofs.Ordered.{by_key-put_all}
use Rattle.testing_rules_model.proofs.Sets.{given_by, gives}
use Rattle.testing_rules_suites.proofs.Shown.{itself_or_other, shown-same}

pub by_key-none : AreByKey []
unfolding IsStrictlySortedBy
by_key-none = tt

pub range_has : (n k : ℕ) → k < n → Contains (range_with_len 0 n) k
range_has n k h = (k, omega (arith, h, length-range_with_len 0 n), omega (arith, get_or-range_with_len 0 n k k h))

pub set_places-within : (flags : List Bool) (n : ℕ) → length flags ≡ n → All (λ k. k < n) (set_places flags)
set_places-within flags n long = bounded_members n (set_places flags) (λ k c.
    let up = (from_filter (marked flags) (range_with_len 0 (length flags)) k c).1 in
    omega (arith, long, marked_within flags k up))

-- what stands of a pool, by the places whose flags are set
pub standing_at : (s : PoolState) → with_rows (rows_at s.rows (set_places s.stands)) [] ≡ present_rows s
unfolding present_rows
standing_at s = refl

pub present_rows-by_key : (s : PoolState) → AreByKey (present_rows s)
unfolding present_rows
present_rows-by_key s = by_key-put_all (rows_at s.rows (set_places s.stands)) [] by_key-none

module _ (s : PoolState) (rows : List RowIn) (shown : IsShown s.rows (marked s.stands) rows) where
  abbrev up : List RowIn
  up = rows_at s.rows (set_places s.stands)

  stands : (r : RowIn) → Contains up r → (k : ℕ) × (slice_get s.rows k ≡ Some r) × (marked s.stands k ≡ true)
  stands r c =
      let g = given_by (slice_get s.rows) (set_places s.stands) r c in
      (g.0, g.2, (from_filter (marked s.stands) (range_with_len 0 (length s.stands)) g.0 g.1).1)

  is_up : (k : ℕ) (r : RowIn) → slice_get s.rows k ≡ Some r → marked s.stands k ≡ true → Contains up r
  is_up k r at h =
      let place = to_filter (marked s.stands) (range_with_len 0 (length s.stands)) k (range_has (length s.stands) k (marked_within s.stands k h)) h in
      gives (slice_get s.rows) (set_places s.stands) k r place at

  others : (r : RowIn) → Contains up r → AreOthers up r
  others r c x d =
      let k = stands r c in
      let j = stands x d in
      itself_or_other x r rows shown.by_key (shown.all j.0 x j.1 j.2) (shown.all k.0 r k.1 k.2)

  standing_shown : IsShown s.rows (marked s.stands) (present_rows s)
  unfolding present_rows
  standing_shown = record {
    by_key = present_rows-by_key s;
    within = λ r c. elim (puts_from up [] r by_key-none c) [
      | inl came ↦ stands r came
      | inr stayed ↦ none_among r stayed.0
    ];
    all = λ k r at h. let c = is_up k r at h in puts_have up [] r (others r c) c;
  }

  -- the rows that the flags show are those that stand
  pub is_present : rows ≡ present_rows s
  is_present = shown-same s.rows (marked s.stands) rows (present_rows s) shown standing_shown
