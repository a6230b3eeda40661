-- A change without an offender, in the words of its rows.
use Rattle.std.specs.Prelude.{ℕ, zero, suc, ◌+◌, ◌<◌, ◌≤◌, ◌↔◌, ◌⊎◌, Bool, true, false, ◌&&◌, ◌||◌, not, List, [], ◌∷◌, Option, None, map, filter, length, option_map}
use Rattle.std.specs.List.{AllByRecursion, filter_map, cons_option, range_with_len}
use Rattle.std.proofs.Common.{◌≡◌, refl, sym, ap, ◌∙◌, arith, ⊎_elim, inl, inr}
use Rattle.std.proofs.lemmas.Bool.{false≢true}
use Rattle.testing_rules_model.specs.declared.suite.RowIn.{RowIn}
use Rattle.testing_rules_model.specs.declared.update.Offender.{Offender}
use Rattle.testing_rules_items.specs.Words.{Text, byte_cmp, least}
use Rattle.testing_rules_model.specs.Moves.{RowAnswer, is_row_of, is_watched_on, was_installable, judged_on, fails_on, offender_on, first_of, offender_of}
use Rattle.testing_rules_laws.specs.MoveLaws.{IsUnbroken}
use Rattle.testing_rules_items.proofs.Each.{each-weaker}
use Rattle.testing_rules_model.proofs.Watching.{none_on, fails_none}

-- a row that doesn't fail is unbroken, and the other way round
unbroken : (w i r h : Bool) → (w && not i && (r || h)) ≡ false → w ≡ true → (r ≡ true) ⊎ (h ≡ true) → i ≡ true
unbroken true true r h e k f = refl
unbroken true false true h e k f = absurd (false≢true (sym e))
unbroken true false false true e k f = absurd (false≢true (sym e))
unbroken true false false false e k f = ⊎_elim (λ l. absurd (false≢true l)) (λ l. absurd (false≢true l)) f
unbroken false i r h e k f = absurd (false≢true k)

unfailing : (w i r h : Bool) → (w ≡ true → (r ≡ true) ⊎ (h ≡ true) → i ≡ true) → (w && not i && (r || h)) ≡ false
unfailing true true r h f = refl
unfailing true false true h f = absurd (false≢true (f refl (inl refl)))
unfailing true false false true f = absurd (false≢true (f refl (inr refl)))
unfailing true false false false f = refl
unfailing false i r h f = refl

-- nothing comes of a list of which nothing passes
filter_none : {A : Type 0} (test : A → Bool) (xs : List A) → AllByRecursion (λ x. test x ≡ false) xs → filter test xs ≡ []
filter_none test [] h = refl
filter_none test (x ∷ xs) h = rw (h.0) (filter_none test xs h.1)

first_none : (f : ℕ → Option Offender) (a n : ℕ) → ((k : ℕ) → a ≤ k → k < a + n → f k ≡ None) → first_of (filter_map f (range_with_len a n)) ≡ None
first_none f a zero h = refl
first_none f a (suc n) h =
    ap (λ m. first_of (cons_option m (filter_map f (range_with_len (a + 1) n)))) (h a (omega arith) (omega arith))
    ∙ first_none f (a + 1) n (λ k above below. h k (omega (arith, above)) (omega (arith, below)))

none_fails : (old new : List RowIn) (group : List Text) (arch : ℕ) → AllByRecursion (λ j. fails_on arch group (judged_on arch old) j ≡ false) (judged_on arch new)
    → offender_on old new group arch ≡ None
none_fails old new group arch h =
    let as_offender : Text → Offender = λ n. record { arch = arch; «package» = n } in
    ap (λ (js : List RowAnswer). option_map as_offender (least byte_cmp (map (λ j. j.row.binary.name) js))) (filter_none (fails_on arch group (judged_on arch old)) (judged_on arch new) h)

module _ (archs : List Text) (old new : List RowIn) (group : List Text) where
  pub allowed_rows : offender_of archs old new group ≡ None → (arch : ℕ) → arch < length archs → AllByRecursion (IsUnbroken arch group (judged_on arch old)) (judged_on arch new)
  allowed_rows e arch below =
      each-weaker (λ j. fails_on arch group (judged_on arch old) j ≡ false) (IsUnbroken arch group (judged_on arch old))
      (λ j. unbroken (is_watched_on arch j.row) j.is_installable (is_row_of group j.row) (was_installable (judged_on arch old) j.row))
      (judged_on arch new)
      (fails_none old new group arch (none_on (offender_on old new group) 0 (length archs) e arch (omega arith) (omega (arith, below))))

  pub rows_allowed : ((arch : ℕ) → arch < length archs → AllByRecursion (IsUnbroken arch group (judged_on arch old)) (judged_on arch new)) → offender_of archs old new group ≡ None
  rows_allowed h =
      first_none (offender_on old new group) 0 (length archs)
      (λ arch above below. none_fails old new group arch (each-weaker (IsUnbroken arch group (judged_on arch old)) (λ j. fails_on arch group (judged_on arch old) j ≡ false)
      (λ j. unfailing (is_watched_on arch j.row) j.is_installable (is_row_of group j.row) (was_installable (judged_on arch old) j.row))
      (judged_on arch new) (h arch (omega (arith, below)))))
