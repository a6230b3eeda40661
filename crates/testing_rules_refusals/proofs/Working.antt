-- A row that an allowed change leaves installable.
use Rattle.std.proofs.Common.{◌≡◌, ℕ, zero, suc, ◌<◌, ◌⊎◌, ◌&&◌, ◌||◌, not, Bool, true, false, List, [], ◌∷◌, length, Some, None, refl, sym, ap, ◌∙◌, subst, ⊎_elim, arith}
use Rattle.std.specs.Prelude.{Contains, ◌==◌}
use Rattle.std.specs.List.{AllByRecursion, slice_get}
use Rattle.std.specs.Str.{bytes_eq}
use Rattle.std.proofs.lemmas.Bool.{false≢true}
use Rattle.std.proofs.lemmas.Bool.Decides.{eqb_tells}
use Rattle.std.proofs.lemmas.List.{length-map}
use Rattle.std.proofs.lemmas.Option.{same_Some}
use Rattle.testing_install.specs.Closed.{marked}
use Rattle.testing_install.specs.Installable.{are_installable}
use Rattle.testing_install.proofs.Choosing.{length-are}
use Rattle.testing_rules_items.specs.Words.{Text}
use Rattle.testing_rules_model.specs.declared.suite.RowIn.{RowIn}
use Rattle.testing_rules_model.specs.Moves.{RowAnswer, with_answers, judged_on, rows_on, is_row_of, is_same_key, is_watched_on, was_installable, fails_on, offender_on, offender_of}
use Rattle.testing_rules_model.specs.steps.Moves.{is_row_on}
use Rattle.testing_rules_model.proofs.Least.{to_filter}
use Rattle.testing_rules_model.proofs.MoreMail.{text_same}
use Rattle.testing_rules_model.proofs.Watching.{none_on, fails_none}
use Rattle.testing_rules_suites.proofs.Lost.{contains_at, at_place}
use Rattle.testing_rules_refusals.specs.Needs.{packages}
use Rattle.testing_rules_refusals.proofs.Coming.{any_of, both_so}

each_at : {A : Type 0} (P : A → Type 0) (xs : List A) (k : ℕ) (x : A) → slice_get xs k ≡ Some x → AllByRecursion P xs → P x
each_at P [] k x at h = let no : None ≡ Some x = at in cc
each_at P (y ∷ xs) zero x at h = subst P (same_Some y x at) h.0
each_at P (y ∷ xs) (suc k) x at h = each_at P xs k x at h.1

answer_at : (rows : List RowIn) (marks : List Bool) (k : ℕ) (r : RowIn) → length marks ≡ length rows → slice_get rows k ≡ Some r
    → slice_get (with_answers rows marks) k ≡ Some (record { row = r; is_installable = marked marks k })
answer_at [] marks k r long at = let no : None ≡ Some r = at in cc
answer_at (x ∷ rows) [] k r long at = absurd (omega (arith, long))
answer_at (x ∷ rows) (b ∷ marks) zero r long at = ap (λ (q : RowIn). Some (record { row = q; is_installable = b })) (same_Some x r at)
answer_at (x ∷ rows) (b ∷ marks) (suc k) r long at = answer_at rows marks k r (omega (arith, long)) at

unbroken : (w i r h : Bool) → (w && not i && (r || h)) ≡ false → w ≡ true → (r ≡ true) ⊎ (h ≡ true) → i ≡ true
unbroken true true r h e k f = refl
unbroken true false true h e k f = absurd (false≢true (sym e))
unbroken true false false true e k f = absurd (false≢true (sym e))
unbroken true false false false e k f = ⊎_elim (λ l. absurd (false≢true l)) (λ l. absurd (false≢true l)) f
unbroken false i r h e k f = absurd (false≢true k)

pub same_itself : (n : ℕ) → (n == n) ≡ true
same_itself n = ⊎_elim (λ h. h.0) (λ h. absurd (h.1 refl)) (eqb_tells n n)

same_key_itself : (r : RowIn) → is_same_key r r ≡ true
same_key_itself r = both_so (r.arch == r.arch) (bytes_eq r.binary.name r.binary.name) (same_itself r.arch) (text_same r.binary.name)

watched_row_on : (a b c : Bool) → (a || (b && c)) ≡ true → (a || b) ≡ true
watched_row_on true b c h = refl
watched_row_on false true c h = refl
watched_row_on false false c h = h

-- a watched row is on the architecture
pub watched_on : (arch : ℕ) (r : RowIn) → is_watched_on arch r ≡ true → is_row_on arch r ≡ true
watched_on arch r h = watched_row_on (r.arch == arch) (r.arch == 16) (arch == 0) h

-- it came in, or worked before
module _ (archs : List Text) (old new : List RowIn) (group : List Text) (allowed : offender_of archs old new group ≡ None) (arch : ℕ) (listed : arch < length archs)
    (r : RowIn) (stands : Contains new r) (watched : is_watched_on arch r ≡ true) (before : (is_row_of group r ≡ true) ⊎ (was_installable (judged_on arch old) r ≡ true)) where
  abbrev there : List RowIn
  there = rows_on arch new

  abbrev marks : List Bool
  marks = are_installable (packages there)

  among : Contains there r
  among = to_filter (is_row_on arch) new r stands (watched_on arch r watched)

  pub place : ℕ
  unfolding among
  place = among.0

  pub at : slice_get there place ≡ Some r
  unfolding place
  at = at_place there r among

  answer : slice_get (judged_on arch new) place ≡ Some (record { row = r; is_installable = marked marks place })
  answer = answer_at there marks place r (length-are (packages there) ∙ length-map there (λ (q : RowIn). q.binary)) at

  -- so it is installable after the change
  pub works : marked marks place ≡ true
  works =
      let j : RowAnswer = record { row = r; is_installable = marked marks place } in
      let fails = fails_none old new group arch (none_on (offender_on old new group) 0 (length archs) allowed arch (omega arith) (omega (arith, listed))) in
      let here = each_at (λ j. fails_on arch group (judged_on arch old) j ≡ false) (judged_on arch new) place j answer fails in
      unbroken (is_watched_on arch r) (marked marks place) (is_row_of group r) (was_installable (judged_on arch old) r) here watched before

  pub still_works : was_installable (judged_on arch new) r ≡ true
  still_works =
      let j : RowAnswer = record { row = r; is_installable = marked marks place } in
      any_of (λ j. j.is_installable && is_same_key j.row r) (judged_on arch new) j (contains_at (judged_on arch new) place j answer)
      (both_so (marked marks place) (is_same_key r r) works (same_key_itself r))
