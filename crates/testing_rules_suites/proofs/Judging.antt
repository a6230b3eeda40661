-- What a trial on one architecture tells of a change is what the change breaks there.
use Rattle.std.specs.Prelude.{ℕ, ◌<◌, Bool, true, false, ◌&&◌, ◌||◌, not, List, Option, Some, map, filter, length}
use Rattle.std.specs.List.{All, slice_get}
use Rattle.std.specs.Option.{option_map_or}
use Rattle.std.proofs.Common.{◌≡◌, refl, sym, ap, ◌∙◌, arith}
use Rattle.std.proofs.lemmas.Bool.{false≢true}
use Rattle.deb_control.specs.declared.binary.Binary.{Binary}
use Rattle.testing_install.specs.Among.{after_change}
use Rattle.testing_install.specs.Closed.{marked}
use Rattle.testing_install.proofs.Counting.{slice_get_some}
use Rattle.testing_rules_model.specs.declared.suite.RowIn.{RowIn}
use Rattle.testing_rules_suites.specs.steps.Changes.{has}
use Rattle.testing_rules_model.specs.Moves.{first_failing, judged_on}
use Rattle.testing_rules_model.specs.steps.Moves.{is_row_on}
use Rattle.testing_rules_suites.specs.steps.Trials.{is_place_on, IsFirstLost}
use Rattle.testing_rules_items.specs.Words.{Text}
use Rattle.testing_rules_suites.proofs.Arranging.{from_has, to_has}
use Rattle.testing_rules_suites.proofs.Flags.{flags_after, flag_within}
use Rattle.testing_rules_model.proofs.Least.{from_filter, to_filter}
use Rattle.testing_rules_suites.specs.steps.PresentSteps.{IsOn}
use Rattle.testing_rules_suites.proofs.Lost.{IsChange, lost_where_new}
use Rattle.testing_rules_suites.proofs.Moving.{after_flags}
use Rattle.testing_rules_suites.proofs.Trying.{on_after, first_of_lost}

pub same_bit : (a b : Bool) → (a ≡ true → b ≡ true) → (b ≡ true → a ≡ true) → a ≡ b
same_bit true b to from = sym (to refl)
same_bit false true to from = from refl
same_bit false false to from = refl

first_of_both : (a b : Bool) → (a && b) ≡ true → a ≡ true
first_of_both true b h = refl
first_of_both false b h = absurd (false≢true h)

second_of_both : (a b : Bool) → (a && b) ≡ true → b ≡ true
second_of_both true b h = h
second_of_both false b h = absurd (false≢true h)

both : (a b : Bool) → a ≡ true → b ≡ true → (a && b) ≡ true
both a b h k = ap (λ x. x && b) h ∙ k

-- a place stands in a filtered list where it stands in the list and passes
pub has_filter : (test : ℕ → Bool) (ks : List ℕ) (k : ℕ) → has (filter test ks) k ≡ (has ks k && test k)
has_filter test ks k =
    same_bit (has (filter test ks) k) (has ks k && test k)
    (λ h. let f = from_filter test ks k (from_has (filter test ks) k h) in both (has ks k) (test k) (to_has ks k f.0) f.1)
    (λ h. to_has (filter test ks) k (to_filter test ks k (from_has ks k (first_of_both (has ks k) (test k) h)) (second_of_both (has ks k) (test k) h)))

kept_where : (come_on come there leave : Bool) → (come_on ≡ true → come ≡ true) → come ≡ false → (come_on || (there && not leave)) ≡ true → there ≡ true
kept_where true come there leave wider off h = absurd (false≢true (sym off ∙ wider refl))
kept_where false come there leave wider off h = first_of_both there (not leave) h

module _ (arch : ℕ) (pool : List RowIn) (group : List Text) (stands there : List Bool) (leaving coming : List ℕ) (old new : List RowIn)
    (long : length there ≡ length pool) (bounded : All (λ k. k < length pool) coming) (fresh : (k : ℕ) → has coming k ≡ true → marked stands k ≡ false)
    (change : IsChange pool group (marked stands) (after_flags (marked stands) (has leaving) (has coming)) (has coming) old new)
    (was : IsOn arch pool (marked stands) (marked there)) where
  abbrev coming_on : List ℕ
  coming_on = filter (is_place_on arch pool) coming

  abbrev after : ℕ → Bool
  after = marked (after_change leaving coming_on there)

  comes_there : (k : ℕ) (r : RowIn) → slice_get pool k ≡ Some r → has coming_on k ≡ (has coming k && is_row_on arch r)
  comes_there k r at = has_filter (is_place_on arch pool) coming k ∙ ap (λ o. has coming k && option_map_or (is_row_on arch) o false) at

  is : IsOn arch pool (after_flags (marked stands) (has leaving) (has coming)) after
  is = on_after arch pool (marked stands) (marked there) after (has leaving) (has coming) (has coming_on) was comes_there
      (λ k h. flags_after leaving coming_on there k (omega (arith, h, long)))

  newly : (k : ℕ) → has coming k ≡ true → marked there k ≡ false
  newly k h =
      let c = from_has coming k h in
      let r = slice_get_some pool k (omega (arith, bounded c.0 k c.1, c.2)) in
      was.on k r.0 r.1 ∙ ap (λ b. b && is_row_on arch r.0) (fresh k h)

  stayed : (k : ℕ) → after k ≡ true → has coming k ≡ false → marked there k ≡ true
  stayed k h off =
      kept_where (has coming_on k) (has coming k) (marked there k) (has leaving k)
      (λ on. first_of_both (has coming k) (is_place_on arch pool k) (sym (has_filter (is_place_on arch pool) coming k) ∙ on)) off
      (sym (flags_after leaving coming_on there k (flag_within leaving coming_on there k h)) ∙ h)

  -- the name that the trial gives is that of the first row that fails
  pub trial_tells : (name : Option Text) → IsFirstLost arch pool there leaving coming name → name ≡ first_failing arch group (judged_on arch old) (judged_on arch new)
  trial_tells name told =
      let rows : List Binary = map (λ r. r.binary) pool in
      told.first ∙ first_of_lost arch pool group (marked stands) (after_flags (marked stands) (has leaving) (has coming)) (has coming) (marked there) after old new told.places change was is
      (λ k. let e = told.exact k in let l = lost_where_new rows (marked there) after (has coming) newly stayed k in (λ c. l.1 (e.0 c), λ d. e.1 (l.0 d)))
