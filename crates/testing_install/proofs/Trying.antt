-- What is remembered of a trial, and why a change may rest on it.
use Rattle.std.proofs.Common.{◌≡◌, ℕ, ◌<◌, ◌↔◌, Bool, true, false, ◌&&◌, not, filter, ◌⊎◌, List, [], ◌∷◌, length, sym, refl, ap, ap₂, ◌∙◌, subst, inl, inr, arith}
use Rattle.std.specs.List.{Contains}
use Rattle.std.proofs.lemmas.Bool.{cases_Bool, false≢true, and_parts, not-true}
use Rattle.deb_control.specs.declared.binary.Binary.{Binary}
use Rattle.testing_install.specs.Among.{IsLost, with_all, after_change}
use Rattle.testing_install.specs.Closed.{marked}
use Rattle.testing_install.specs.Index.{PlacesByName}
use Rattle.testing_install.specs.steps.Suite.{IsRight, IsSuite}
use Rattle.testing_install.specs.steps.Trials.{IsDifference, IsTried, IsReady}
use Rattle.testing_install.specs.Tracked.{Tracked}
use Rattle.testing_install.specs.steps.Tracked.{IsTracked}
use Rattle.testing_install.specs.declared.trials.LastTrial.{LastTrial}
use Rattle.testing_install.proofs.Members.{in_filter, from_filter, contains_none, all_from_members}
use Rattle.testing_install.proofs.Marking.{length-with_all, with_stays, with_here, with_elsewhere, mark_within, same_list}

-- the touched places that are marked in the first list alone are all such places
pub difference_exact : (first second : List Bool) (touched places : List ℕ) → ((k : ℕ) → (marked first k ≡ marked second k) ⊎ Contains touched k) → places ≡ filter (λ k. marked first k && not (marked second k)) touched → IsDifference first second places
difference_exact first second touched places same e k =
    let test : ℕ → Bool = λ j. marked first j && not (marked second j) in (
      (λ c.
          let f = from_filter test touched k (subst (λ xs. Contains xs k) e c) in
          let b = and_parts (marked first k) (not (marked second k)) f.1 in
          (b.0, not-true (marked second k) b.1)),
      (λ on. elim (same k) [
        | inl alike ↦ absurd (false≢true (sym on.1 ∙ sym alike ∙ on.0))
        | inr there ↦ (
            let passes : test k ≡ true = ap₂ (λ a b. a && not b) on.0 on.1 in
            subst (λ xs. Contains xs k) (sym e) (in_filter test touched k there passes))
      ]),
    )

-- the same where the lists were read
difference_read : (first second : List Bool) (touched places : List ℕ) (a b : List Bool) (ts : List ℕ) → ((k : ℕ) → (marked first k ≡ marked second k) ⊎ Contains touched k) → a ≡ first → b ≡ second → ts ≡ touched → places ≡ filter (λ k. marked a k && not (marked b k)) ts → IsDifference first second places
difference_read first second touched places a b ts same ea eb et e =
    let read : filter (λ k. marked a k && not (marked b k)) ts ≡ filter (λ k. marked first k && not (marked second k)) touched = ap (λ xs. filter (λ j. marked xs j && not (marked b j)) ts) ea ∙ ap (λ xs. filter (λ j. marked first j && not (marked xs j)) ts) eb ∙ ap (λ ks. filter (λ j. marked first j && not (marked second j)) ks) et in
    difference_exact first second touched places same (e ∙ read)

-- the same for the marks of a change that is to be undone, from either side
pub falling_exact : (current kept : List Bool) (touched places : List ℕ) (a b : List Bool) (ts : List ℕ) → IsTracked current kept touched → a ≡ kept → b ≡ current → ts ≡ touched → places ≡ filter (λ k. marked a k && not (marked b k)) ts → IsDifference kept current places
falling_exact current kept touched places a b ts t ea eb et e = difference_read kept current touched places a b ts (λ k. elim (t.same k) [ inl alike ↦ inl (sym alike) | inr there ↦ inr there ]) ea eb et e

pub rising_exact : (current kept : List Bool) (touched places : List ℕ) (a b : List Bool) (ts : List ℕ) → IsTracked current kept touched → a ≡ current → b ≡ kept → ts ≡ touched → places ≡ filter (λ k. marked a k && not (marked b k)) ts → IsDifference current kept places
rising_exact current kept touched places a b ts t ea eb et e = difference_read current kept touched places a b ts t.same ea eb et e

-- a place that isn't among those keeps its mark
outside : (b : Bool) (ks : List ℕ) (xs : List Bool) (p : ℕ) → (Contains ks p → ⊥) → marked (with_all b ks xs) p ≡ marked xs p
outside b ks xs p n = elim (with_elsewhere b (marked (with_all b ks xs) p) ks xs p refl) [ inl before ↦ sym before | inr c ↦ absurd (n c) ]

-- with the marks of both kinds put in, the one list becomes the other
module _ (kept current : List Bool) (falling rising : List ℕ) (long : length kept ≡ length current) (fall : IsDifference kept current falling) (rise : IsDifference current kept rising) where
  marked_again : (k : ℕ) → marked current k ≡ true → marked (after_change falling rising kept) k ≡ true
  marked_again k on = elim (cases_Bool (marked kept k)) [
    | inl was ↦ with_stays true rising (with_all false falling kept) k (outside false falling kept k (λ c. false≢true (sym ((fall k).0 c).1 ∙ on)) ∙ was)
    | inr new ↦ with_here true rising (with_all false falling kept) k (omega (arith, mark_within current k on, long, length-with_all false falling kept)) ((rise k).1 (on, new))
  ]

  bare_again : (k : ℕ) → marked current k ≡ false → marked (after_change falling rising kept) k ≡ false
  bare_again k off =
      let stays = outside true rising (with_all false falling kept) k (λ c. false≢true (sym off ∙ ((rise k).0 c).0)) in
      elim (cases_Bool (marked kept k)) [
        | inl was ↦ stays ∙ with_here false falling kept k (mark_within kept k was) ((fall k).1 (was, off))
        | inr never ↦ stays ∙ with_stays false falling kept k never
      ]

  pub put_back : after_change falling rising kept ≡ current
  put_back = same_list (after_change falling rising kept) current (length-with_all true rising (with_all false falling kept) ∙ length-with_all false falling kept ∙ long) (λ k. elim (cases_Bool (marked current k)) [
    | inl on ↦ marked_again k on ∙ sym on
    | inr off ↦ bare_again k off ∙ sym off
  ])

-- what was noted of a trial is remembered rightly
pub tried_noted : (rows : List Binary) (there kept current : List Bool) (leaving coming : List ℕ) (t : LastTrial) → length kept ≡ length rows → IsRight rows (after_change leaving coming there) current → t.leaving.items ≡ leaving → t.coming.items ≡ coming → IsDifference kept current t.falling.items → IsDifference current kept t.rising.items → IsTried rows there kept t
tried_noted rows there kept current leaving coming t long right el ec fall rise =
    let back = put_back kept current t.falling.items t.rising.items (omega (arith, long, right.installable_len)) fall rise in
    record {
      falling_in = all_from_members (length rows) t.falling.items (λ k c. omega (arith, mark_within kept k ((fall k).0 c).0, long));
      rising_in = all_from_members (length rows) t.rising.items (λ k c. omega (arith, mark_within current k ((rise k).0 c).0, right.installable_len));
      right = subst (λ xs. IsRight rows (after_change t.leaving.items t.coming.items there) xs) (sym back) (subst (λ ls. IsRight rows (after_change ls t.coming.items there) current) (sym el) (subst (λ cs. IsRight rows (after_change leaving cs there) current) (sym ec) right));
    }

-- the change of no rows
pub nothing_is_tried : (rows : List Binary) (there installable : List Bool) (t : LastTrial) → t.leaving.items ≡ [] → t.coming.items ≡ [] → t.falling.items ≡ [] → t.rising.items ≡ [] → IsRight rows there installable → IsTried rows there installable t
nothing_is_tried rows there installable t el ec ef er right =
    let none : (ks : List ℕ) → ks ≡ [] → (k : ℕ) → Contains ks k → k < length rows = λ ks e k c. absurd (contains_none k (subst (λ xs. Contains xs k) e c)) in
    let same : (ls cs : List ℕ) (xs : List Bool) → ls ≡ [] → cs ≡ [] → after_change ls cs xs ≡ xs = λ ls cs xs ea eb. ap₂ (λ ps qs. after_change ps qs xs) ea eb in
    record {
      falling_in = all_from_members (length rows) t.falling.items (none t.falling.items ef);
      rising_in = all_from_members (length rows) t.rising.items (none t.rising.items er);
      right = subst (λ xs. IsRight rows (after_change t.leaving.items t.coming.items there) xs) (sym (same t.falling.items t.rising.items installable ef er)) (subst (λ xs. IsRight rows xs installable) (sym (same t.leaving.items t.coming.items there el ec)) right);
    }

-- it loses nothing
pub lost_none : (rows : List Binary) (there : List Bool) (leaving coming lost : List ℕ) → length leaving ≡ 0 → length coming ≡ 0 → lost ≡ [] → (k : ℕ) → Contains lost k ↔ IsLost rows (marked there) (marked (after_change leaving coming there)) k
lost_none rows there [] [] lost el ec none k = (
  (λ c. absurd (contains_none k (subst (λ xs. Contains xs k) none c))),
  (λ l. elim l.2 [ inl was ↦ absurd (l.1 was) | inr off ↦ absurd (false≢true (sym off ∙ l.0)) ]),
)
lost_none rows there [] (x ∷ xs) lost el ec none k = absurd (omega (arith, ec))
lost_none rows there (x ∷ xs) coming lost el ec none k = absurd (omega (arith, el))

-- what is remembered after a trial that loses nothing
pub tried_after : (rows : List Binary) (there m kept current : List Bool) (leaving coming : List ℕ) (old new : LastTrial) → kept ≡ m → IsRight rows there m → IsRight rows (after_change leaving coming there) current → IsTried rows there m old → ((rs : List Binary) (ts : List Bool) → length kept ≡ length rs → IsRight rs (after_change leaving coming ts) current → IsTried rs ts kept old → IsTried rs ts kept new) → IsTried rows there m new
tried_after rows there m kept current leaving coming old new e right after was step =
    subst (λ xs. IsTried rows there xs new) e (step rows there (ap length e ∙ right.installable_len) after (subst (λ xs. IsTried rows there xs old) (sym e) was))

-- a suite is ready where nothing is remembered
pub ready_begun : (rows : List Binary) (providers dependents : PlacesByName) (there installable : Tracked) (t : LastTrial) → IsSuite rows providers dependents there installable → t.leaving.items ≡ [] → t.coming.items ≡ [] → t.falling.items ≡ [] → t.rising.items ≡ [] → IsReady rows providers dependents there installable t
ready_begun rows providers dependents there installable t s el ec ef er = record { suite = s; remembered = nothing_is_tried rows there.current installable.current t el ec ef er s.right }
