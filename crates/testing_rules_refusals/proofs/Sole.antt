-- The row of an offender, where it is the only one of its name.
use Rattle.std.proofs.Common.{◌≡◌, ℕ, zero, suc, ◌+◌, ◌<◌, ◌≤◌, List, length, Some, None, refl, sym, ap, ◌∙◌, subst, inl, inr, arith}
use Rattle.std.specs.Prelude.{Option, option_map, get_or}
use Rattle.std.specs.List.{slice_get, filter_map, cons_option, range_with_len}
use Rattle.std.proofs.lemmas.Bool.{cases_lt}
use Rattle.std.proofs.lemmas.List.{length-map}
use Rattle.std.proofs.lemmas.Option.{same_Some, slice_get_within, slice_get-map, slice_get_read}
use Rattle.testing_rules_items.specs.Words.{Text}
use Rattle.testing_rules_model.specs.declared.suite.LentRow.{LentRow}
use Rattle.testing_rules_model.specs.declared.suite.RowIn.{RowIn}
use Rattle.testing_rules_model.specs.declared.update.Offender.{Offender}
use Rattle.testing_rules_model.specs.JudgedRows.{lent, row_of}
use Rattle.testing_rules_model.specs.Moves.{rows_on, judged_on, first_failing, first_of, offender_on, offender_of}
use Rattle.testing_install_why.specs.declared.Step.{Step}
use Rattle.testing_rules_refusals.specs.Refusals.{IsShownRow}
use Rattle.testing_rules_refusals.specs.steps.Refusals.{HasFailing, IsFirstFailing}
use Rattle.testing_rules_refusals.specs.steps.Shown.{AreOnlyAt, IsOf, IsOnlyOf, IsShownOf}
use Rattle.testing_rules_refusals.proofs.Failings.{failing_there}
use Rattle.testing_rules_refusals.proofs.Refusing.{judged, named, stands, fails_so}

-- the row at a place of a list that is lent
pub lent_at : (rows : List LentRow) (i : ℕ) (r : LentRow) → i < length rows → r ≡ get_or rows i r → slice_get (lent rows) i ≡ Some (row_of r)
lent_at rows i r h e = slice_get-map row_of rows i ∙ ap (option_map row_of) (slice_get_read rows (length rows) i r refl h e)

pub only_none : (rows : List RowIn) (name : Text) (only : ℕ) → AreOnlyAt rows name only 0
only_none rows name only = record { each = λ k row h. absurd (omega (arith, h)) }

pub only_more : (rows : List RowIn) (name : Text) (only n : ℕ) (row : RowIn) → slice_get rows n ≡ Some row → (row.binary.name ≡ name → n ≡ only)
    → AreOnlyAt rows name only n → AreOnlyAt rows name only (n + 1)
only_more rows name only n row at is below = record {
  each = λ k other h stands named. elim (cases_lt k n) [
    | inl less ↦ below.each k other less stands named
    | inr not ↦ (
        let one : k ≡ n = omega (arith, h, not) in
        let alike : other ≡ row = same_Some other row (sym stands ∙ ap (slice_get rows) one ∙ at) in
        one ∙ is (ap (λ (r : RowIn). r.binary.name) (sym alike) ∙ named))
  ];
}

pub only_all : (rows : List RowIn) (name : Text) (only n m : ℕ) → AreOnlyAt rows name only n → m ≤ n → AreOnlyAt rows name only m
only_all rows name only n m below h = record { each = λ k row low. below.each k row (omega (arith, h, low)) }

pub only_of : (rows : List LentRow) (name : Text) (place : ℕ) → IsOf (lent rows) name place → AreOnlyAt (lent rows) name place (length rows) → IsOnlyOf (lent rows) name place
only_of rows name place is only = record { is = is; only = only_all (lent rows) name place (length rows) (length (lent rows)) only (omega (arith, length-map rows row_of)) }

-- the first of those that the places have is one that a place has
pub first_from : (f : ℕ → Option Offender) (a n : ℕ) (o : Offender) → first_of (filter_map f (range_with_len a n)) ≡ Some o → (k : ℕ) × f k ≡ Some o
first_from f a zero o e = let no : None ≡ Some o = e in cc
first_from f a (suc n) o e = first_here f a n o (λ h. first_from f (a + 1) n o h) (f a) refl e
  where
    first_here : (f : ℕ → Option Offender) (a n : ℕ) (o : Offender) → (first_of (filter_map f (range_with_len (a + 1) n)) ≡ Some o → (k : ℕ) × f k ≡ Some o) → (m : Option Offender) → f a ≡ m
        → first_of (filter_map f (range_with_len a (suc n))) ≡ Some o → (k : ℕ) × f k ≡ Some o
    first_here f a n o next None is e = next (subst (λ m. first_of (cons_option m (filter_map f (range_with_len (a + 1) n))) ≡ Some o) is e)
    first_here f a n o next (Some p) is e = (a, is ∙ subst (λ m. first_of (cons_option m (filter_map f (range_with_len (a + 1) n))) ≡ Some o) is e)

-- an offender on an architecture has that one, and the name of the first row that fails there
named_there : (arch : ℕ) (m : Option Text) (o : Offender) → option_map (λ n. record { arch = arch; «package» = n }) m ≡ Some o → (arch ≡ o.arch) × m ≡ Some o.«package»
named_there arch None o e = let no : None ≡ Some o = e in cc
named_there arch (Some name) o e =
    let same = same_Some (record { arch = arch; «package» = name }) o e in
    (ap (λ (p : Offender). p.arch) same, ap (λ (p : Offender). Some p.«package») same)

pub fails_there : (archs : List Text) (old new : List RowIn) (group : List Text) (o : Offender) → offender_of archs old new group ≡ Some o
    → first_failing o.arch group (judged_on o.arch old) (judged_on o.arch new) ≡ Some o.«package»
fails_there archs old new group o e =
    let from = first_from (offender_on old new group) 0 (length archs) o e in
    let there = named_there from.0 (first_failing from.0 group (judged_on from.0 old) (judged_on from.0 new)) o from.1 in
    subst (λ a. first_failing a group (judged_on a old) (judged_on a new) ≡ Some o.«package») there.0 there.1

-- so the only row of the offender's name is the one that fails
pub shown_row : (archs : List Text) (old new : List RowIn) (group : List Text) (offender o : Offender) (rows : List RowIn) (steps : List Step)
    → offender_of archs old new group ≡ Some offender → IsShownOf new offender o rows steps → IsShownRow old new group o rows steps
shown_row archs old new group offender o rows steps broken s =
    let first = fails_there archs old new group o (broken ∙ ap Some (sym s.same)) in
    let before = judged_on o.arch old in
    let has : HasFailing o.arch group before (judged (rows_on o.arch new)) o.«package» = failing_there o.arch group before (judged (rows_on o.arch new)) o.«package» first in
    let now : HasFailing o.arch group before (judged rows) o.«package» = subst (λ rs. HasFailing o.arch group before (judged rs) o.«package») (sym s.rows_are) has in
    let f : IsFirstFailing o.arch group before (judged rows) now.place = record {
      name = o.«package»;
      first = ap (λ rs. first_failing o.arch group before (judged rs)) s.rows_are ∙ first;
      is = now.is;
    } in
    let row = now.is.answer.row in
    let at : slice_get rows now.place ≡ Some row = stands o.arch group before rows now.place f in
    let of_name : row.binary.name ≡ o.«package» = named o.arch group before rows now.place f in
    let same : now.place ≡ s.place = s.only.only.each now.place row (slice_get_within rows now.place row at) at of_name in
    record {
      place = s.place;
      row = row;
      rows_are = s.rows_are;
      stands = ap (slice_get rows) (sym same) ∙ at;
      named = of_name;
      fails = fails_so o.arch group before rows now.place f;
      shown = s.shown;
    }
