-- What is found on one architecture is what the change breaks there, and what shows it.
use Rattle.std.proofs.Common.{◌≡◌, ℕ, zero, suc, ◌<◌, ◌&&◌, ◌||◌, not, Bool, true, false, List, [], ◌∷◌, length, Some, None, refl, sym, ap, ◌∙◌, subst, arith}
use Rattle.std.specs.Prelude.{Option, IfSome, get_or, option_map}
use Rattle.std.specs.List.{slice_get}
use Rattle.std.specs.Str.{bytes_eq}
use Rattle.std.proofs.lemmas.Bool.{false≢true}
use Rattle.std.proofs.lemmas.List.{length-map}
use Rattle.std.proofs.lemmas.Option.{same_Some, slice_get_within, slice_get-map, slice_get_read}
use Rattle.std.proofs.lemmas.Slice.Eq.{bytes_eq-Decides}
use Rattle.testing_install.specs.Among.{IsInstallableAmong}
use Rattle.testing_install.specs.Closed.{IsInstallable, marked}
use Rattle.testing_install.specs.Installable.{are_installable}
use Rattle.testing_install.specs.Suite.{SuiteState}
use Rattle.testing_install.proofs.Choosing.{are_exact}
use Rattle.testing_rules_items.specs.Words.{Text}
use Rattle.testing_rules_model.specs.declared.suite.RowIn.{RowIn}
use Rattle.testing_rules_model.specs.declared.suite.LentRow.{LentRow}
use Rattle.testing_rules_model.specs.JudgedRows.{lent, row_of}
use Rattle.testing_rules_model.specs.Moves.{RowAnswer, with_answers, rows_on, judged_on, fails_on, is_watched_on, is_row_of, was_installable, first_failing, offender_on}
use Rattle.testing_rules_suites.proofs.Failing.{offender_on-some, offender_on-none}
use Rattle.testing_rules_refusals.proofs.Failings.{first_of_both, second_of_both}
use Rattle.testing_install_why.specs.Certificate.{IsShownBy, everywhere}
use Rattle.testing_install_why.specs.declared.Step.{Step}
use Rattle.testing_rules_refusals.specs.Needs.{packages}
use Rattle.testing_rules_refusals.specs.steps.Refusals.{AreAllThere, IsFirstFailing, IsRefusalOn}
use Rattle.testing_rules_refusals.proofs.Everywhere.{shown_everywhere, installable_anyway}

of_answer : (rows : List RowIn) (marks : List Bool) (i : ℕ) (j : RowAnswer) → slice_get (with_answers rows marks) i ≡ Some j → (slice_get rows i ≡ Some j.row) × (marked marks i ≡ j.is_installable)
of_answer [] marks i j e = let no : None ≡ Some j = e in cc
of_answer (x ∷ rows) [] i j e = let no : None ≡ Some j = e in cc
of_answer (x ∷ rows) (b ∷ marks) zero j e =
    let same = same_Some (record { row = x; is_installable = b }) j e in
    (ap (λ (a : RowAnswer). Some a.row) same, ap (λ (a : RowAnswer). a.is_installable) same)
of_answer (x ∷ rows) (b ∷ marks) (suc i) j e = of_answer rows marks i j e

not_true : (b : Bool) → not b ≡ true → b ≡ false
not_true true h = absurd (false≢true h)
not_true false h = refl

-- the rows with their answers
abbrev pub judged : List RowIn → List RowAnswer
judged rows = with_answers rows (are_installable (packages rows))

module _ (arch : ℕ) (group : List Text) (before : List RowAnswer) (rows : List RowIn) (place : ℕ) (f : IsFirstFailing arch group before (judged rows) place) where
  abbrev answer : RowAnswer
  answer = f.is.answer

  parts : (bytes_eq answer.row.binary.name f.name && fails_on arch group before answer) ≡ true
  parts = f.is.is

  pub named : answer.row.binary.name ≡ f.name
  named = (bytes_eq-Decides answer.row.binary.name f.name).0 (first_of_both (bytes_eq answer.row.binary.name f.name) (fails_on arch group before answer) parts)

  fails : fails_on arch group before answer ≡ true
  fails = second_of_both (bytes_eq answer.row.binary.name f.name) (fails_on arch group before answer) parts

  pub stands : slice_get rows place ≡ Some answer.row
  stands = (of_answer rows (are_installable (packages rows)) place answer f.is.stands).0

  off : answer.is_installable ≡ false
  off = not_true answer.is_installable
      (second_of_both (is_watched_on arch answer.row) (not answer.is_installable)
      (first_of_both (is_watched_on arch answer.row && not answer.is_installable) (is_row_of group answer.row || was_installable before answer.row) fails))

  pub fails_so : fails_on arch group before (record { row = answer.row; is_installable = false }) ≡ true
  fails_so = ap (λ b. fails_on arch group before (record { row = answer.row; is_installable = b })) (sym off) ∙ fails

  within : place < length (packages rows)
  within = omega (arith, slice_get_within rows place answer.row stands, length-map rows (λ (r : RowIn). r.binary))

  -- the row at the place isn't installable
  pub isnt_installable : IsInstallable (packages rows) place → ⊥
  isnt_installable i =
      false≢true (sym off ∙ sym (of_answer rows (are_installable (packages rows)) place answer f.is.stands).1 ∙ (are_exact (packages rows) place within).1 i)

  -- so something shows it
  pub isnt_unshown : (suite : SuiteState) → AreAllThere (packages rows) suite
      → (place < length suite.rows → marked suite.there place ≡ true → IsInstallableAmong suite.rows (marked suite.there) place) → ⊥
  isnt_unshown suite a none =
      let low : place < length suite.rows = omega (arith, within, ap length a.same) in
      isnt_installable (subst (λ rs. IsInstallable rs place) a.same (installable_anyway suite.rows (marked suite.there) place (none low (a.there place low))))

  pub shown_row : (old new : List RowIn) (name : Text) (steps : List Step) (suite : SuiteState) → before ≡ judged_on arch old → rows ≡ rows_on arch new
      → AreAllThere (packages rows) suite → name ≡ answer.row.binary.name → IsShownBy suite.rows (marked suite.there) place steps
      → IsRefusalOn arch old new group (record { arch = arch; «package» = name }) rows steps
  shown_row old new name steps suite b e a p s =
      let first_new : first_failing arch group before (judged_on arch new) ≡ Some f.name = ap (λ rs. first_failing arch group before (judged rs)) (sym e) ∙ f.first in
      record {
        first =
            offender_on-some arch group old new before (judged_on arch new) f.name b refl first_new
            ∙ ap (λ n. Some (record { arch = arch; «package» = n })) (sym (p ∙ named));
        shows = record {
          place = place;
          row = answer.row;
          rows_are = e;
          stands = stands;
          named = sym p;
          fails = ap (λ x. fails_on arch group x (record { row = answer.row; is_installable = false })) (sym b) ∙ fails_so;
          shown = subst (λ rs. IsShownBy rs everywhere place steps) a.same (shown_everywhere suite.rows (marked suite.there) place steps a.there s);
        };
      }

-- the row that is found, of a list that is lent
pub found_now : (arch : ℕ) (group : List Text) (before : List RowAnswer) (rows read : List LentRow) (o : Option ℕ) (place : ℕ) → read ≡ rows → o ≡ Some place
    → IfSome o (λ p. IsFirstFailing arch group before (judged (lent read)) p) → IsFirstFailing arch group before (judged (lent rows)) place
found_now arch group before rows read o place same is found =
    subst (λ rs. IsFirstFailing arch group before (judged (lent rs)) place) same (subst (λ q. IfSome q (λ p. IsFirstFailing arch group before (judged (lent read)) p)) is found)

-- the row at a place of a list that is lent
pub row_at : (rows : List LentRow) (i : ℕ) (r : LentRow) (q : RowIn) → i < length rows → r ≡ get_or rows i r → slice_get (lent rows) i ≡ Some q → row_of r ≡ q
row_at rows i r q h e at = same_Some (row_of r) q (sym (slice_get-map row_of rows i ∙ ap (option_map row_of) (slice_get_read rows (length rows) i r refl h e)) ∙ at)

-- where no row fails, nothing is broken there
pub none_broken : (arch : ℕ) (group : List Text) (old new rows : List RowIn) → rows ≡ rows_on arch new
    → first_failing arch group (judged_on arch old) (judged rows) ≡ None → offender_on old new group arch ≡ None
none_broken arch group old new rows e none =
    offender_on-none arch group old new (judged_on arch old) (judged_on arch new) refl refl (ap (λ rs. first_failing arch group (judged_on arch old) (judged rs)) (sym e) ∙ none)
