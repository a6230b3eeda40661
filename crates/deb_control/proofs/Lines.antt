-- Lines, fields and paragraphs, one step at a time.
use Rattle.std.proofs.Common.{◌≡◌, ℕ, ◌<◌, true, false, not, ◌⊎◌, inl, inr, List, [], ◌∷◌, ◌++◌, length, take, drop, map, Option, Some, None, refl, sym, ap, ◌∙◌, subst, ⊎_elim, arith}
use Rattle.std.specs.List.{slice_split, after_first, position_or_len, take_while, list_all, filter, join_with_byte}
use Rattle.std.proofs.lemmas.Bool.{cases_Bool, cond-true, cond-false, and_parts, not-true, not_from_false, not_from_true, false≢true, true≢false}
use Rattle.std.proofs.lemmas.List.{append-nil, append_assoc, take_all, length-append, map_push}
use Rattle.std.proofs.lemmas.List.Splits.{slice_split-cons_yes, slice_split_first, join_with_byte-slice_split}
use Rattle.deb_version.specs.Text.{is_colon}
use Rattle.std.specs.Option.{option_or}
use Rattle.deb_control.specs.Text.{is_line_feed, lines, is_blank_line, continues, trim_white}
use Rattle.std.specs.Borrow.{Bor}
use Rattle.deb_control.specs.Paragraphs.{Field, shown, Reading, not_empty, fields, field_of, first_fault, line_fault, name_in, paragraph_lines, reading_of, reading_of_text, then_read, refusing, ended}
use Rattle.deb_control.specs.steps.ReaderSteps.{line_in_front, front_run, after_run, IsFieldCut, unless_bad}
use Rattle.deb_control.specs.declared.fault.ParagraphFault.{ParagraphFault}
use Rattle.deb_control.specs.declared.fault.ParagraphFault.TheVariants.{FirstLineContinues}
use Rattle.deb_control.proofs.Split.{split_head, split_append, split_before_first, first_run, take_while_yes, take_while_no, take_while-append, take_while_all, left_after-append, left_after_all, left_after_no}

-- a line that continues isn't blank
pub continues_not_blank : (line : List ℕ) → continues line ≡ true → is_blank_line line ≡ false
unfolding continues
continues_not_blank [] h = absurd (false≢true h)
continues_not_blank (c ∷ cs) h = not-true _ (and_parts _ _ h).1

pub continuing_not_blank : (ls : List (List ℕ)) → list_all continues ls ≡ true → list_all (λ l. not (is_blank_line l)) ls ≡ true
continuing_not_blank [] h = refl
continuing_not_blank (l ∷ ls) h =
    let both = and_parts (continues l) (list_all continues ls) h in
    rw (continues_not_blank l both.0, continuing_not_blank ls both.1) refl

pub empty_is_blank : is_blank_line [] ≡ true
unfolding is_blank_line
empty_is_blank = refl

pub empty_continues_nothing : continues [] ≡ false
unfolding continues
empty_continues_nothing = refl

-- the lines of a text
pub lines_head : (text : List ℕ) → lines text ≡ line_in_front text ∷ drop 1 (lines text)
unfolding lines
lines_head text = split_head is_line_feed text

pub lines_cut : (front back : List ℕ) → lines (front ++ 10 ∷ back) ≡ lines front ++ lines back
unfolding lines
lines_cut front back = split_append is_line_feed front 10 back refl

pub lines_of_line : (text : List ℕ) → lines (line_in_front text) ≡ line_in_front text ∷ []
unfolding lines
lines_of_line text = split_before_first is_line_feed text

pub lines_nil : lines [] ≡ [] ∷ []
unfolding lines
lines_nil = refl

pub lines_joined : (text : List ℕ) → join_with_byte 10 (lines text) ≡ text
unfolding lines
lines_joined text = join_with_byte-slice_split 10 text

-- a blank line in front holds no paragraph
pub paragraphs_past_blank : (line : List ℕ) (ls : List (List ℕ)) → is_blank_line line ≡ true → paragraph_lines (line ∷ ls) ≡ paragraph_lines ls
unfolding paragraph_lines
paragraphs_past_blank line ls h = ap (filter not_empty) (slice_split-cons_yes is_blank_line line ls h)

pub paragraphs_nil : paragraph_lines [] ≡ []
unfolding paragraph_lines
paragraphs_nil = refl

-- the first paragraph, where the first line isn't blank
pub front_run_head : (line : List ℕ) (ls : List (List ℕ)) → is_blank_line line ≡ false → front_run (line ∷ ls) ≡ line ∷ front_run ls
front_run_head line ls h = take_while_yes (λ l. not (is_blank_line l)) line ls (not_from_false _ h)

pub first_paragraph : (line : List ℕ) (ls : List (List ℕ)) → is_blank_line line ≡ false → paragraph_lines (line ∷ ls) ≡ front_run (line ∷ ls) ∷ paragraph_lines (after_run (line ∷ ls))
unfolding paragraph_lines
first_paragraph line ls h = first_run is_blank_line (line ∷ ls) (ap not_empty (front_run_head line ls h))

-- where the first line is blank, the run in front is empty
pub front_run_blank : (line : List ℕ) (ls : List (List ℕ)) → is_blank_line line ≡ true → front_run (line ∷ ls) ≡ []
front_run_blank line ls h = take_while_no (λ l. not (is_blank_line l)) line ls (not_from_true _ h)

pub after_run_blank : (line : List ℕ) (ls : List (List ℕ)) → is_blank_line line ≡ true → after_run (line ∷ ls) ≡ line ∷ ls
after_run_blank line ls h = left_after_no (λ l. not (is_blank_line l)) line ls (not_from_true _ h)

-- continuing lines are never bad below a field, and begin none
pub fault_past_continuing : (names : List (List ℕ)) (cs more : List (List ℕ)) → not_empty names ≡ true → list_all continues cs ≡ true → first_fault names (cs ++ more) ≡ first_fault names more
unfolding first_fault
fault_past_continuing names [] more h all = refl
fault_past_continuing names (c ∷ cs) more h all =
    let both = and_parts (continues c) (list_all continues cs) all in
    cond-true (continues c) _ _ both.0 ∙ cond-true (not_empty names) _ _ h ∙ fault_past_continuing names cs more h both.1

pub fields_past_continuing : (cs more : List (List ℕ)) → list_all continues cs ≡ true → fields (cs ++ more) ≡ fields more
unfolding fields
fields_past_continuing [] more all = refl
fields_past_continuing (c ∷ cs) more all =
    let both = and_parts (continues c) (list_all continues cs) all in
    cond-true (continues c) _ _ both.0 ∙ fields_past_continuing cs more both.1

-- the field of a line that doesn't continue, with the lines that continue it
pub fault_step : (names : List (List ℕ)) (line : List ℕ) (cs more : List (List ℕ)) → continues line ≡ false → list_all continues cs ≡ true → first_fault names (line ∷ (cs ++ more)) ≡ option_or (line_fault names line) (first_fault (names ++ name_in line ∷ []) more)
unfolding first_fault
fault_step names line cs more h all =
    cond-false (continues line) _ _ h ∙ ap (option_or (line_fault names line)) (fault_past_continuing (names ++ name_in line ∷ []) cs more (ends_in_name names (name_in line)) all)
  where
    ends_in_name : (xs : List (List ℕ)) (x : List ℕ) → not_empty (xs ++ x ∷ []) ≡ true
    ends_in_name [] x = refl
    ends_in_name (y ∷ ys) x = refl

pub fields_step : (line : List ℕ) (cs more : List (List ℕ)) → continues line ≡ false → list_all continues cs ≡ true → take_while continues more ≡ [] → fields (line ∷ (cs ++ more)) ≡ field_of line cs ∷ fields more
unfolding fields
fields_step line cs more h all none =
    cond-false (continues line) _ _ h ∙ ap (λ (zs : List (List ℕ)). field_of line zs ∷ fields (cs ++ more)) (take_while-append continues cs more all ∙ ap (λ (zs : List (List ℕ)). cs ++ zs) none ∙ append-nil cs) ∙ ap (λ zs. field_of line cs ∷ zs) (fields_past_continuing cs more all)

-- the lines of a field, and what follows it, as the parts of the text
pub record FieldLines (text whole after : List ℕ) : Type 0 where
  pub run : front_run (lines text) ≡ lines whole ++ front_run (lines after)
  pub rest : paragraph_lines (after_run (lines text)) ≡ paragraph_lines (after_run (lines after))
  pub head : line_in_front text ≡ line_in_front whole

lines_of_cut : (text whole after : List ℕ) → IsFieldCut text whole after → is_blank_line (line_in_front whole) ≡ false → list_all (λ l. not (is_blank_line l)) (lines whole) ≡ true
lines_of_cut text whole after cut h =
    subst (λ ls. list_all (λ l. not (is_blank_line l)) ls ≡ true) (sym (lines_head whole)) (rw (h, continuing_not_blank (drop 1 (lines whole)) cut.continued) refl)

-- at the end of a text there is one empty line, which changes nothing
nothing_after : (after : List ℕ) → after ≡ [] → (front_run (lines after) ≡ []) × (paragraph_lines (after_run (lines after)) ≡ [])
nothing_after after e =
    let one : lines after ≡ [] ∷ [] = ap lines e ∙ lines_nil in (
      ap front_run one ∙ front_run_blank [] [] empty_is_blank,
      ap (λ ls. paragraph_lines (after_run ls)) one ∙ ap paragraph_lines (after_run_blank [] [] empty_is_blank) ∙ paragraphs_past_blank [] [] empty_is_blank ∙ paragraphs_nil,
    )

heads_same : (text whole after : List ℕ) → (text ≡ whole ++ 10 ∷ after) ⊎ ((text ≡ whole) × (after ≡ [])) → line_in_front text ≡ line_in_front whole
heads_same text whole after (inl e) =
    let by_text : lines text ≡ line_in_front text ∷ drop 1 (lines text) = lines_head text in
    let by_parts : lines text ≡ (line_in_front whole ∷ drop 1 (lines whole)) ++ lines after = ap lines e ∙ lines_cut whole after ∙ ap (λ ls. ls ++ lines after) (lines_head whole) in
    cc
heads_same text whole after (inr e) = ap line_in_front e.0

pub field_lines : (text whole after : List ℕ) → IsFieldCut text whole after → is_blank_line (line_in_front text) ≡ false → FieldLines text whole after
field_lines text whole after cut h =
    let head = heads_same text whole after cut.joined in
    let pass = lines_of_cut text whole after cut (ap is_blank_line (sym head) ∙ h) in
    ⊎_elim
    (λ (e : text ≡ whole ++ 10 ∷ after).
    let cut_lines : lines text ≡ lines whole ++ lines after = ap lines e ∙ lines_cut whole after in
    record {
      run = ap front_run cut_lines ∙ take_while-append (λ l. not (is_blank_line l)) (lines whole) (lines after) pass;
      rest = ap paragraph_lines (ap after_run cut_lines ∙ left_after-append (λ l. not (is_blank_line l)) (lines whole) (lines after) pass);
      head = head;
    })
    (λ (e : (text ≡ whole) × (after ≡ [])).
    let none = nothing_after after e.1 in
    record {
      run = ap (λ t. front_run (lines t)) e.0 ∙ take_while_all (λ l. not (is_blank_line l)) (lines whole) pass ∙ sym (ap (λ (zs : List (List ℕ)). lines whole ++ zs) none.0 ∙ append-nil (lines whole));
      rest = ap (λ t. paragraph_lines (after_run (lines t))) e.0 ∙ ap paragraph_lines (left_after_all (λ l. not (is_blank_line l)) (lines whole) pass) ∙ paragraphs_nil ∙ sym none.1;
      head = head;
    })
    cut.joined

-- what follows a field in its paragraph doesn't continue it
none_continue : (after : List ℕ) → continues (line_in_front after) ≡ false → take_while continues (front_run (lines after)) ≡ []
none_continue after h = ⊎_elim
    (λ (yes : is_blank_line (line_in_front after) ≡ true). ap (take_while continues) (ap front_run (lines_head after) ∙ front_run_blank _ _ yes))
    (λ (no : is_blank_line (line_in_front after) ≡ false). ap (take_while continues) (ap front_run (lines_head after) ∙ front_run_head _ _ no) ∙ take_while_no continues _ _ h)
    (cases_Bool (is_blank_line (line_in_front after)))

-- one field more of a paragraph
pub record FieldStep (text whole after : List ℕ) (names : List (List ℕ)) : Type 0 where
  pub fault : first_fault names (front_run (lines text)) ≡ option_or (line_fault names (line_in_front whole)) (first_fault (names ++ name_in (line_in_front whole) ∷ []) (front_run (lines after)))
  pub value : fields (front_run (lines text)) ≡ (name_in (line_in_front whole), trim_white (after_first is_colon whole)) ∷ fields (front_run (lines after))
  pub rest : paragraph_lines (after_run (lines text)) ≡ paragraph_lines (after_run (lines after))

field_of_whole : (whole : List ℕ) → field_of (line_in_front whole) (drop 1 (lines whole)) ≡ (name_in (line_in_front whole), trim_white (after_first is_colon whole))
unfolding field_of
field_of_whole whole = ap (λ (t : List ℕ). (name_in (line_in_front whole), trim_white (after_first is_colon t))) (ap (join_with_byte 10) (sym (lines_head whole)) ∙ lines_joined whole)

pub field_step : (text whole after : List ℕ) (names : List (List ℕ)) → IsFieldCut text whole after → is_blank_line (line_in_front text) ≡ false → continues (line_in_front text) ≡ false → FieldStep text whole after names
field_step text whole after names cut full begins =
    let parts = field_lines text whole after cut full in
    let begins' : continues (line_in_front whole) ≡ false = ap continues (sym parts.head) ∙ begins in
    let run : front_run (lines text) ≡ line_in_front whole ∷ (drop 1 (lines whole) ++ front_run (lines after)) = parts.run ∙ ap (λ ls. ls ++ front_run (lines after)) (lines_head whole) in
    record {
      fault = ap (first_fault names) run ∙ fault_step names (line_in_front whole) (drop 1 (lines whole)) (front_run (lines after)) begins' cut.continued;
      value = ap fields run ∙ fields_step (line_in_front whole) (drop 1 (lines whole)) (front_run (lines after)) begins' cut.continued (none_continue after cut.ends) ∙ ap (λ f. f ∷ fields (front_run (lines after))) (field_of_whole whole);
      rest = parts.rest;
    }

-- past a blank line in front there are the same paragraphs
pub reading_past_blank : (text : List ℕ) → is_blank_line (line_in_front text) ≡ true → position_or_len is_line_feed text < length text → reading_of_text (after_first is_line_feed text) ≡ reading_of_text text
unfolding reading_of_text lines
reading_past_blank text h within =
    let cut = slice_split_first is_line_feed text 0 within in
    sym (ap reading_of (ap paragraph_lines cut ∙ paragraphs_past_blank (line_in_front text) (lines (after_first is_line_feed text)) h))

-- a text of one blank line has no paragraph, and the empty text is one
pub reading_of_blank : (text : List ℕ) → is_blank_line (line_in_front text) ≡ true → position_or_len is_line_feed text ≡ length text → reading_of_text text ≡ ended
unfolding reading_of_text reading_of lines
reading_of_blank text h whole =
    let all : line_in_front text ≡ text = ap (λ (n : ℕ). take n text) whole ∙ take_all (length text) text (omega arith) in
    let one : slice_split is_line_feed text ≡ text ∷ [] = subst (λ (t : List ℕ). slice_split is_line_feed t ≡ t ∷ []) all (split_before_first is_line_feed text) in
    ap reading_of (ap paragraph_lines one ∙ paragraphs_past_blank text [] (ap is_blank_line (sym all) ∙ h) ∙ paragraphs_nil)

pub reading_of_nothing : reading_of_text [] ≡ ended
reading_of_nothing = reading_of_blank [] empty_is_blank refl

-- a text whose first line isn't blank begins with a paragraph
pub reading_begins : (text : List ℕ) → is_blank_line (line_in_front text) ≡ false → reading_of_text text ≡ unless_bad (first_fault [] (front_run (lines text))) (fields (front_run (lines text))) (reading_of (paragraph_lines (after_run (lines text))))
unfolding reading_of_text reading_of
reading_begins text h =
    let head = lines_head text in
    ap (λ ls. reading_of (paragraph_lines ls)) head ∙ ap reading_of (first_paragraph (line_in_front text) (drop 1 (lines text)) h) ∙ ap (λ ls. unless_bad (first_fault [] (front_run ls)) (fields (front_run ls)) (reading_of (paragraph_lines (after_run ls)))) (sym head)

-- and so isn't at its end
pub reading_not_ended : (text : List ℕ) → is_blank_line (line_in_front text) ≡ false → reading_of_text text ≡ ended → ⊥
reading_not_ended text h e = not_ended (first_fault [] (front_run (lines text))) _ _ (sym (reading_begins text h) ∙ e)
  where
    not_ended : (f : Option ParagraphFault) (p : List Field) (r : Reading) → unless_bad f p r ≡ ended → ⊥
    not_ended None p r q = let e' = ap (λ (x : Reading). x.paragraphs) q in cc
    not_ended (Some f) p r q = let e' = ap (λ (x : Reading). x.refusal) q in cc

-- the paragraph in front ends at a blank line
pub at_blank_line : (text : List ℕ) (names : List (List ℕ)) → is_blank_line (line_in_front text) ≡ true → (first_fault names (front_run (lines text)) ≡ None) × (fields (front_run (lines text)) ≡ []) × (reading_of (paragraph_lines (after_run (lines text))) ≡ reading_of_text text)
unfolding first_fault fields reading_of_text
at_blank_line text names h =
    let head = lines_head text in
    let none = ap front_run head ∙ front_run_blank (line_in_front text) (drop 1 (lines text)) h in (
      ap (first_fault names) none,
      ap fields none,
      ap (λ ls. reading_of (paragraph_lines (after_run ls))) head ∙ ap (λ ls. reading_of (paragraph_lines ls)) (after_run_blank (line_in_front text) (drop 1 (lines text)) h ∙ sym head),
    )

-- a paragraph whose first line continues
pub first_continues : (text : List ℕ) → is_blank_line (line_in_front text) ≡ false → continues (line_in_front text) ≡ true → first_fault [] (front_run (lines text)) ≡ Some FirstLineContinues
unfolding first_fault
first_continues text full h =
    ap (first_fault []) (ap front_run (lines_head text) ∙ front_run_head (line_in_front text) (drop 1 (lines text)) full) ∙ cond-true (continues (line_in_front text)) _ _ h

-- the first bad line of the first paragraph is what the text is refused for
pub refused : (text : List ℕ) (f : ParagraphFault) → is_blank_line (line_in_front text) ≡ false → first_fault [] (front_run (lines text)) ≡ Some f → reading_of_text text ≡ refusing f
refused text f full e = reading_begins text full ∙ ap (λ o. unless_bad o (fields (front_run (lines text))) (reading_of (paragraph_lines (after_run (lines text))))) e

-- a paragraph without a bad line is read, and what follows it is left
pub was_read : (text rest : List ℕ) (p : List Field) → is_blank_line (line_in_front text) ≡ false → first_fault [] (front_run (lines text)) ≡ None → fields (front_run (lines text)) ≡ p → reading_of (paragraph_lines (after_run (lines text))) ≡ reading_of_text rest → reading_of_text text ≡ then_read p (reading_of_text rest)
was_read text rest p full fault value left =
    reading_begins text full ∙ ap (λ o. unless_bad o (fields (front_run (lines text))) (reading_of (paragraph_lines (after_run (lines text))))) fault
    ∙ ap (λ q. then_read q (reading_of (paragraph_lines (after_run (lines text))))) value ∙ ap (then_read p) left

-- what follows a field is shorter than the text
pub shorter : (text whole after : List ℕ) → IsFieldCut text whole after → is_blank_line (line_in_front text) ≡ false → length after < length text
shorter [] whole after cut full = absurd (true≢false (sym empty_is_blank ∙ full))
shorter (c ∷ cs) whole after cut full = ⊎_elim
    (λ (e : c ∷ cs ≡ whole ++ 10 ∷ after). omega (arith, ap (λ (t : List ℕ). length t) e, length-append whole (10 ∷ after)))
    (λ (e : (c ∷ cs ≡ whole) × (after ≡ [])). omega (arith, ap (λ (t : List ℕ). length t) e.1))
    cut.joined

-- a field more among those that were read, by its name and as a whole
pub names_with : (items new : List (Bor (List ℕ) × Bor (List ℕ))) (f : Bor (List ℕ) × Bor (List ℕ)) (name : List ℕ) → new ≡ items ++ f ∷ [] → f.0.now ≡ name → map (λ f. f.0.now) items ++ name ∷ [] ≡ map (λ f. f.0.now) new
names_with items new f name e n =
    sym (ap (map (λ (f : Bor (List ℕ) × Bor (List ℕ)). f.0.now)) e ∙ map_push (λ (f : Bor (List ℕ) × Bor (List ℕ)). f.0.now) items f ∙ ap (λ (x : List ℕ). map (λ (f : Bor (List ℕ) × Bor (List ℕ)). f.0.now) items ++ x ∷ []) n)

pub fields_with : (items new : List (Bor (List ℕ) × Bor (List ℕ))) (f : Bor (List ℕ) × Bor (List ℕ)) (name value : List ℕ) (more : List Field) → new ≡ items ++ f ∷ [] → f.0.now ≡ name → f.1.now ≡ value → map shown items ++ (name, value) ∷ more ≡ map shown new ++ more
fields_with items new f name value more e n v =
    let pair : shown f ≡ (name, value) = ap (λ (x : List ℕ). (x, f.1.now)) n ∙ ap (λ (y : List ℕ). (name, y)) v in
    let pushed : map shown new ≡ map shown items ++ (name, value) ∷ [] = ap (map shown) e ∙ map_push shown items f ∙ ap (λ (x : Field). map shown items ++ x ∷ []) pair in
    sym (ap (λ (xs : List Field). xs ++ more) pushed ∙ append_assoc (map shown items) ((name, value) ∷ []) more)
