-- Each paragraph that is read is well formed.
use Rattle.std.proofs.Common.{◌≡◌, ℕ, Bool, true, false, cond, not, List, [], ◌∷◌, ◌++◌, Option, Some, None, refl, sym, ◌∙◌, ⊎_elim}
use Rattle.std.specs.List.{filter, slice_split, take_while, AllByRecursion}
use Rattle.std.specs.Str.{is_utf8}
use Rattle.std.proofs.lemmas.Bool.{cases_Bool, cond-true, cond-false}
use Rattle.std.specs.Option.{option_or}
use Rattle.deb_control.specs.Text.{lines, is_blank_line, continues}
use Rattle.deb_control.specs.steps.ReaderSteps.{has_colon, unless_bad}
use Rattle.deb_control.specs.Paragraphs.{Field, Reading, not_empty, is_field_name, has_name, name_in, field_of, fields, line_fault, first_fault, paragraph_lines, reading_of, reading_of_text, reading}
use Rattle.deb_control.specs.WellFormed.{AreWellNamed, IsWellFormed}
use Rattle.deb_control.specs.declared.fault.ParagraphFault.{ParagraphFault}
use Rattle.deb_control.specs.declared.fault.ParagraphFault.TheVariants.{NoColon, BadName, RepeatedField, FirstLineContinues}

-- a line without a fault has a good name that is new
good_line : (names : List (List ℕ)) (line : List ℕ) → line_fault names line ≡ None → (is_field_name (name_in line) ≡ true) × (has_name names (name_in line) ≡ false)
unfolding line_fault
good_line names line e = from_tests (has_colon line) (is_field_name (name_in line)) (has_name names (name_in line)) e
  where
    from_tests : (a b r : Bool) → cond (not a) (Some NoColon) (cond (not b) (Some BadName) (cond r (Some RepeatedField) None)) ≡ None → (b ≡ true) × (r ≡ false)
    from_tests true true false q = (refl, refl)
    from_tests true true true q = cc
    from_tests true false r q = cc
    from_tests false b r q = cc

both_none : (a b : Option ParagraphFault) → option_or a b ≡ None → (a ≡ None) × (b ≡ None)
both_none None b e = (refl, e)
both_none (Some f) b e = cc

field_has_name : (line : List ℕ) (cs : List (List ℕ)) → (field_of line cs).0 ≡ name_in line
unfolding field_of
field_has_name line cs = refl

well_named : (names : List (List ℕ)) (ls : List (List ℕ)) → first_fault names ls ≡ None → AreWellNamed names (fields ls)
unfolding first_fault fields
well_named names [] e = tt
well_named names (line ∷ after) e = ⊎_elim
    (λ (yes : continues line ≡ true).
    let kept : cond (not_empty names) (first_fault names after) (Some FirstLineContinues) ≡ None = sym (cond-true (continues line) _ _ yes) ∙ e in
    ⊎_elim
    (λ (some : not_empty names ≡ true). rw yes (well_named names after (sym (cond-true (not_empty names) _ _ some) ∙ kept)))
    (λ (none : not_empty names ≡ false). let bad = sym (cond-false (not_empty names) _ _ none) ∙ kept in absurd cc)
    (cases_Bool (not_empty names)))
    (λ (no : continues line ≡ false).
    let both = both_none (line_fault names line) (first_fault (names ++ name_in line ∷ []) after) (sym (cond-false (continues line) _ _ no) ∙ e) in
    let good = good_line names line both.0 in
    rw (no, field_has_name line (take_while continues after)) (good.0, good.1, well_named (names ++ name_in line ∷ []) after both.1))
    (cases_Bool (continues line))

first_line_begins : (line : List ℕ) (after : List (List ℕ)) → first_fault [] (line ∷ after) ≡ None → continues line ≡ false
unfolding first_fault
first_line_begins line after e = ⊎_elim
    (λ (yes : continues line ≡ true). let bad : Some FirstLineContinues ≡ None = sym (cond-true (continues line) _ _ yes) ∙ e in absurd cc)
    (λ (no : continues line ≡ false). no)
    (cases_Bool (continues line))

well_formed : (line : List ℕ) (after : List (List ℕ)) → first_fault [] (line ∷ after) ≡ None → IsWellFormed (fields (line ∷ after))
unfolding fields
well_formed line after e =
    let no = first_line_begins line after e in
    let named : AreWellNamed [] (cond (continues line) (fields after) (field_of line (take_while continues after) ∷ fields after)) = well_named [] (line ∷ after) e in
    rw no (rw no at named)

unless_bad_keeps : (o : Option ParagraphFault) (p : List Field) (r : Reading) → (o ≡ None → IsWellFormed p) → AllByRecursion IsWellFormed r.paragraphs → AllByRecursion IsWellFormed (unless_bad o p r).paragraphs
unless_bad_keeps None p r h a = (h refl, a)
unless_bad_keeps (Some f) p r h a = tt

runs_well_formed : (qs : List (List (List ℕ))) → AllByRecursion IsWellFormed (reading_of (filter not_empty qs)).paragraphs
unfolding reading_of
runs_well_formed [] = tt
runs_well_formed ([] ∷ qs) = runs_well_formed qs
runs_well_formed ((line ∷ after) ∷ qs) = unless_bad_keeps (first_fault [] (line ∷ after)) (fields (line ∷ after)) (reading_of (filter not_empty qs)) (well_formed line after) (runs_well_formed qs)

text_well_formed : (text : List ℕ) → AllByRecursion IsWellFormed (reading_of_text text).paragraphs
unfolding reading_of_text paragraph_lines
text_well_formed text = runs_well_formed (slice_split is_blank_line (lines text))

pub reads_well_formed : (bytes : List ℕ) → AllByRecursion IsWellFormed (reading bytes).paragraphs
unfolding reading
reads_well_formed bytes = ⊎_elim
    (λ (yes : is_utf8 bytes ≡ true). rw yes (text_well_formed bytes))
    (λ (no : is_utf8 bytes ≡ false). rw no tt)
    (cases_Bool (is_utf8 bytes))
