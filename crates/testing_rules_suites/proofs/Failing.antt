-- Steps of the loops that look for an offender.
use Rattle.std.specs.Prelude.{ℕ, suc, ◌+◌, ◌<◌, ◌≤◌, Bool, true, false, cond, List, [], ◌∷◌, ◌++◌, Option, Some, None, map, filter, length, take, drop, get_or, option_map}
use Rattle.std.proofs.Common.{◌≡◌, refl, sym, ap, ◌∙◌, arith, add-one, min, append-nil, inl, inr, ◌-◌}
use Rattle.std.proofs.lemmas.List.{take_more, drop_all, map-append}
use Rattle.std.proofs.lemmas.List.Elements.{filter-append}
use Rattle.std.proofs.lemmas.Bool.{cases_lt}
use Rattle.std.proofs.Math.Seq.{drop-cons}
use Rattle.std.specs.List.{filter_map, range_with_len}
use Rattle.std.specs.declared.cmp.Ordering.{Ordering}
use Rattle.std.specs.Cmp.{IsTotalOrder}
use Rattle.testing_rules_model.specs.declared.suite.LentRow.{LentRow}
use Rattle.testing_rules_model.specs.declared.suite.RowIn.{RowIn}
use Rattle.testing_rules_suites.specs.declared.offender.RowAnswer.{RowAnswer}
use Rattle.testing_rules_model.specs.declared.update.Offender.{Offender}
use Rattle.testing_rules_items.specs.Words.{Text, byte_cmp, least}
use Rattle.testing_rules_items.specs.steps.Words.{first_of_two}
use Rattle.testing_rules_model.specs.Moves.{with_answers, first_failing, fails_on, first_of, judged_on, offender_on, RowAnswer as Answer}
use Rattle.testing_rules_suites.specs.steps.JudgedRows.{answer, answers}
use Rattle.testing_rules_model.specs.JudgedRows.{lent, row_of}
use Rattle.testing_rules_model.proofs.Orders.{least-push, text_order}

-- a list of rows and their answers, from a place on
pub with_answers-drop : (rows : List (LentRow)) (marks : List Bool) (k : ℕ) (d : LentRow) → k < length rows → k < length marks
    → with_answers (lent (drop k rows)) (drop k marks) ≡ record { row = row_of (get_or rows k d); is_installable = get_or marks k false } ∷ with_answers (lent (drop (k + 1) rows)) (drop (k + 1) marks)
with_answers-drop rows marks k d h g = rw (drop-cons rows k d h, drop-cons marks k false g, add-one) refl

with_answers-nil : (rows : List RowIn) → with_answers rows [] ≡ []
with_answers-nil [] = refl
with_answers-nil (r ∷ rows) = refl

-- nothing is left where either list ends
pub with_answers-end : (rows : List (LentRow)) (marks : List Bool) (k : ℕ) → min (length rows) (length marks) ≤ k → with_answers (lent (drop k rows)) (drop k marks) ≡ []
with_answers-end rows marks k h =
    elim (cases_lt (length marks) (length rows)) [
      | inl m ↦ rw (drop_all k marks (omega arith)) (with_answers-nil (lent (drop k rows)))
      | inr m ↦ rw (drop_all k rows (omega arith)) refl
    ]

module _ {A : Type 0} {cmp : Text → Text → Ordering} (o : IsTotalOrder cmp) (test : A → Bool) (name : A → Text) where
  pub one_more : (b : Bool) (xs : List A) (x : A) → test x ≡ b
      → least cmp (map name (filter test (xs ++ x ∷ []))) ≡ cond b (Some (first_of_two cmp (least cmp (map name (filter test xs))) (name x))) (least cmp (map name (filter test xs)))
  one_more true xs x e = rw (filter-append test xs (x ∷ []), e, map-append) (least-push o (map name (filter test xs)) (name x))
  one_more false xs x e = rw (filter-append test xs (x ∷ []), e, append-nil) refl

-- the first failing row of one more
pub first_failing-more : (arch : ℕ) (group : List Text) (before : List Answer) (after : List RowAnswer) (i : ℕ) (d : RowAnswer) (b : Bool)
    → i < length after → fails_on arch group before (answer (get_or after i d)) ≡ b
    → first_failing arch group before (answers (take (i + 1) after))
    ≡ cond b (Some (first_of_two byte_cmp (first_failing arch group before (answers (take i after))) (get_or after i d).row.binary.now.name)) (first_failing arch group before (answers (take i after)))
first_failing-more arch group before after i d b h e =
    rw (take_more after i d h, map-append) (one_more text_order (fails_on arch group before) (λ (j : Answer). j.row.binary.name) b (answers (take i after)) (answer (get_or after i d)) e)

-- the first of the places from i on, at one of them
pub first_of-found : (f : ℕ → Option Offender) (n i : ℕ) (o : Offender) → i < n → f i ≡ Some o → first_of (filter_map f (range_with_len i (n - i))) ≡ Some o
first_of-found f n i o h e = rw (more n i h) (rw e refl)
  where
    more : (n i : ℕ) → i < n → n - i ≡ suc (n - (i + 1))
    more n i h = omega arith

pub first_of-next : (f : ℕ → Option Offender) (n i : ℕ) → i < n → f i ≡ None → first_of (filter_map f (range_with_len (i + 1) (n - (i + 1)))) ≡ first_of (filter_map f (range_with_len i (n - i)))
first_of-next f n i h e = sym (rw (more n i h) (rw e refl))
  where
    more : (n i : ℕ) → i < n → n - i ≡ suc (n - (i + 1))
    more n i h = omega arith

-- where no row fails on an architecture, there is no offender on it
pub offender_on-none : (arch : ℕ) (group : List Text) (old new : List RowIn) (before after : List Answer) → before ≡ judged_on arch old → after ≡ judged_on arch new
    → first_failing arch group before after ≡ None → offender_on old new group arch ≡ None
offender_on-none arch group old new before after b a h =
    let as_offender : Text → Offender = λ n. record { arch = arch; «package» = n } in
    ap (λ x. option_map as_offender (first_failing arch group x (judged_on arch new))) (sym b)
    ∙ ap (λ y. option_map as_offender (first_failing arch group before y)) (sym a) ∙ ap (option_map as_offender) h

-- and where one does, the first by name is the offender
pub offender_on-some : (arch : ℕ) (group : List Text) (old new : List RowIn) (before after : List Answer) (name : Text) → before ≡ judged_on arch old → after ≡ judged_on arch new
    → first_failing arch group before after ≡ Some name → offender_on old new group arch ≡ Some (record { arch = arch; «package» = name })
offender_on-some arch group old new before after name b a h =
    let as_offender : Text → Offender = λ n. record { arch = arch; «package» = n } in
    ap (λ x. option_map as_offender (first_failing arch group x (judged_on arch new))) (sym b)
    ∙ ap (λ y. option_map as_offender (first_failing arch group before y)) (sym a) ∙ ap (option_map as_offender) h
