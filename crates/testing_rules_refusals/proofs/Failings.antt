-- The place of a row that fails.
use Rattle.std.proofs.Common.{◌≡◌, ℕ, ◌+◌, ◌<◌, ◌≤◌, ◌&&◌, Bool, true, false, List, length, Option, Some, None, IfNone, refl, sym, ap, ◌∙◌, inl, inr, arith}
use Rattle.std.specs.Prelude.{map, filter, get_or, option_map, Contains}
use Rattle.std.specs.List.{slice_get}
use Rattle.std.specs.Str.{bytes_eq}
use Rattle.std.proofs.lemmas.Bool.{cases_lt, false≢true}
use Rattle.std.proofs.lemmas.Option.{same_Some, slice_get_within, slice_get-get_or, slice_get-map, slice_get_read}
use Rattle.std.proofs.lemmas.Slice.Eq.{bytes_eq-Decides}
use Rattle.testing_rules_items.specs.Words.{Text}
use Rattle.testing_rules_model.specs.Moves.{RowAnswer, fails_on, first_failing}
use Rattle.testing_rules_model.proofs.Least.{from_filter, least_from}
use Rattle.testing_rules_model.proofs.Orders.{text_order}
use Rattle.testing_rules_model.proofs.Sets.{mapped_from}
use Rattle.testing_rules_suites.specs.declared.offender.RowAnswer.{RowAnswer as Judged}
use Rattle.testing_rules_suites.specs.steps.JudgedRows.{answer, answers}
use Rattle.testing_rules_refusals.specs.steps.Refusals.{IsFailing, HasFailing, is_failing}

-- no row of the name fails at a place below the number
pub record NoneFailing (arch : ℕ) (group : List Text) (before after : List RowAnswer) (name : Text) (n : ℕ) : Type 0 where
  pub each : (m : ℕ) → m < n → IsFailing arch group before after name m → ⊥

pub none_yet : (arch : ℕ) (group : List Text) (before after : List RowAnswer) (name : Text) → NoneFailing arch group before after name 0
none_yet arch group before after name = record { each = λ m h. absurd (omega (arith, h)) }

pub none_more : (arch : ℕ) (group : List Text) (before after : List RowAnswer) (name : Text) (n : ℕ) (j : RowAnswer) → slice_get after n ≡ Some j
    → is_failing arch group before name j ≡ false → NoneFailing arch group before after name n → NoneFailing arch group before after name (n + 1)
none_more arch group before after name n j at off none = record {
  each = λ m h f. elim (cases_lt m n) [
    | inl less ↦ none.each m less f
    | inr not ↦ (
        let one : m ≡ n = omega (arith, h, not) in
        let alike : f.answer ≡ j = same_Some f.answer j (sym f.stands ∙ ap (slice_get after) one ∙ at) in
        absurd (false≢true (sym off ∙ ap (is_failing arch group before name) (sym alike) ∙ f.is)))
  ];
}

pub none_at_all : (arch : ℕ) (group : List Text) (before after : List RowAnswer) (name : Text) (n : ℕ) → length after ≤ n → NoneFailing arch group before after name n
    → HasFailing arch group before after name → ⊥
none_at_all arch group before after name n h none has =
    none.each has.place (omega (arith, h, slice_get_within after has.place has.is.answer has.is.stands)) has.is

pub first_of_both : (a b : Bool) → (a && b) ≡ true → a ≡ true
first_of_both true b h = refl
first_of_both false b h = absurd (false≢true h)

pub second_of_both : (a b : Bool) → (a && b) ≡ true → b ≡ true
second_of_both true b h = h
second_of_both false b h = absurd (false≢true h)

both : (a b : Bool) → a ≡ true → b ≡ true → (a && b) ≡ true
both a b h k = ap (λ x. x && b) h ∙ k

-- the first name is that of a row that fails
pub failing_there : (arch : ℕ) (group : List Text) (before after : List RowAnswer) (name : Text) → first_failing arch group before after ≡ Some name
    → HasFailing arch group before after name
failing_there arch group before after name e =
    let fails : RowAnswer → Bool = fails_on arch group before in
    let named : RowAnswer → Text = λ j. j.row.binary.name in
    let among : Contains (map named (filter fails after)) name = least_from text_order (map named (filter fails after)) name e in
    let found = mapped_from named (filter fails after) name among in
    let from = from_filter fails after found.0 found.1 in
    record {
      place = from.0.0;
      is = record {
        answer = found.0;
        stands = slice_get-get_or after from.0.0 found.0 from.0.1 ∙ ap Some from.0.2;
        is = both (bytes_eq (named found.0) name) (fails found.0) ((bytes_eq-Decides (named found.0) name).1 found.2) from.1;
      };
    }

-- the answer at a place
pub answer_at : (after : List Judged) (i : ℕ) (j : Judged) → i < length after → j ≡ get_or after i j → slice_get (answers after) i ≡ Some (answer j)
answer_at after i j h e = slice_get-map answer after i ∙ ap (option_map answer) (slice_get_read after (length after) i j refl h e)

-- what is found to be missing makes something else so
pub none_then : {A : Type 0} (o : Option A) (P Q : Type 0) → (P → Q) → IfNone o P → IfNone o Q
none_then None P Q f p = f p
none_then (Some x) P Q f p = p
