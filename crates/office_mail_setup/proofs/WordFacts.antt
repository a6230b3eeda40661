-- Words, one after the other.
use Rattle.std.proofs.Common.{◌≡◌, ℕ, ◌+◌, ◌-◌, ◌<◌, ◌≤◌, Bool, true, false, not, cond, List, [], ◌∷◌, ◌++◌, length, drop, refl, sym, ap, ◌∙◌, arith, ◌==◌}
use Rattle.std.specs.List.{filter, slice_split, onto_first, prefix_len, position_or_len, before_first, take_while}
use Rattle.std.specs.Borrow.{Bor}
use Rattle.std.proofs.lemmas.Bool.Decides.{nat_tests}
use Rattle.std.proofs.lemmas.List.{append-nil, append_assoc, map_push, nil_from_length, length-drop}
use Rattle.office_mail_setup.proofs.Each.{texts}
use Rattle.deb_control.specs.Text.{is_white}
use Rattle.deb_control.specs.Paragraphs.{not_empty}
use Rattle.deb_control.proofs.Split.{left_after_yes, left_after_no, take_while_yes, first_run}
use Rattle.office_mail_setup.specs.Values.{words}

pub words_none : words [] ≡ []
unfolding words
words_none = refl

words_white : (b : Bool) (c : ℕ) (cs : List ℕ) → is_white c ≡ b → words (drop (prefix_len is_white cs) cs) ≡ words cs → words (drop (prefix_len is_white (c ∷ cs)) (c ∷ cs)) ≡ words (c ∷ cs)
unfolding words
words_white true c cs e more = ap words (left_after_yes is_white c cs e) ∙ more ∙ sym (ap (λ b. filter not_empty (cond b ([] ∷ slice_split is_white cs) (onto_first c (slice_split is_white cs)))) e)
words_white false c cs e more = ap words (left_after_no is_white c cs e)

-- white in front makes no word
pub words_skip : (text : List ℕ) → words (drop (prefix_len is_white text) text) ≡ words text
words_skip [] = refl
words_skip (c ∷ cs) = words_white (is_white c) c cs refl (words_skip cs)

begins_by : (b : Bool) (c : ℕ) (cs : List ℕ) → is_white c ≡ b → prefix_len is_white (drop (prefix_len is_white cs) cs) ≡ 0 → prefix_len is_white (drop (prefix_len is_white (c ∷ cs)) (c ∷ cs)) ≡ 0
begins_by true c cs e more = ap (prefix_len is_white) (left_after_yes is_white c cs e) ∙ more
begins_by false c cs e more = ap (prefix_len is_white) (left_after_no is_white c cs e) ∙ ap (λ b. cond b (1 + prefix_len is_white cs) 0) e

-- what follows white begins with none
pub begins_word : (text : List ℕ) → prefix_len is_white (drop (prefix_len is_white text) text) ≡ 0
begins_word [] = refl
begins_word (c ∷ cs) = begins_by (is_white c) c cs refl (begins_word cs)

not_white_first : (c : ℕ) (cs : List ℕ) → prefix_len is_white (c ∷ cs) ≡ 0 → is_white c ≡ false
not_white_first c cs h = elim (is_white c) as (λ b. cond b (1 + prefix_len is_white cs) 0 ≡ 0 → b ≡ false) [ true ↦ λ k. absurd (omega arith) | false ↦ λ k. refl ] h

run_by : (b : Bool) (c : ℕ) (cs : List ℕ) → is_white c ≡ b → b ≡ false → not_empty (take_while (λ x. not (is_white x)) (c ∷ cs)) ≡ true
run_by true c cs e h = absurd (cc)
run_by false c cs e h = ap not_empty (take_while_yes (λ x. not (is_white x)) c cs (ap not e))

-- a text that begins with no white begins with a word
pub words_next : (text : List ℕ) → 0 < length text → prefix_len is_white text ≡ 0 → words text ≡ before_first is_white text ∷ words (drop (position_or_len is_white text) text)
unfolding words
words_next [] some h = absurd (omega arith)
words_next (c ∷ cs) some h = first_run is_white (c ∷ cs) (run_by (is_white c) c cs refl (not_white_first c cs h))

one_at_least : (b : Bool) (c : ℕ) (cs : List ℕ) → is_white c ≡ b → b ≡ false → 1 ≤ position_or_len is_white (c ∷ cs)
one_at_least true c cs e h = absurd (cc)
one_at_least false c cs e h = let n : position_or_len is_white (c ∷ cs) ≡ 1 + position_or_len is_white cs = ap (λ b. cond (not b) (1 + prefix_len (λ x. not (is_white x)) cs) 0) e in omega (arith, n)

-- and what follows that is shorter
pub shorter : (text : List ℕ) → 0 < length text → prefix_len is_white text ≡ 0 → length (drop (prefix_len is_white (drop (position_or_len is_white text) text)) (drop (position_or_len is_white text) text)) < length text
shorter [] some h = absurd (omega arith)
shorter (c ∷ cs) some h =
    let one = one_at_least (is_white c) c cs refl (not_white_first c cs h) in
    let rest = drop (position_or_len is_white (c ∷ cs)) (c ∷ cs) in
    let a : length rest ≡ length (c ∷ cs) - position_or_len is_white (c ∷ cs) = length-drop (position_or_len is_white (c ∷ cs)) (c ∷ cs) in
    let b : length (drop (prefix_len is_white rest) rest) ≡ length rest - prefix_len is_white rest = length-drop (prefix_len is_white rest) rest in
    omega (arith, a, b, one, some)

-- one word more
pub one_more : (text : List ℕ) (done : List (Bor (List ℕ))) (w : Bor (List ℕ)) (rest after next : List ℕ) → words text ≡ texts done ++ words rest → 0 < length rest → prefix_len is_white rest ≡ 0 → w.now ≡ before_first is_white rest → after ≡ drop (position_or_len is_white rest) rest → next ≡ drop (prefix_len is_white after) after → words text ≡ texts (done ++ w ∷ []) ++ words next
one_more text done w rest after next whole some begins front a n =
    whole
    ∙ ap (λ ws. texts done ++ ws) (words_next rest some begins ∙ ap (λ x. x ∷ words (drop (position_or_len is_white rest) rest)) (sym front) ∙ ap (λ ws. w.now ∷ ws) (sym (ap words n ∙ words_skip after ∙ ap words a)))
    ∙ sym (append_assoc (texts done) (w.now ∷ []) (words next))
    ∙ ap (λ ts. ts ++ words next) (sym (map_push (λ (x : Bor (List ℕ)). x.now) done w))

pub some_left : (n : ℕ) (b : Bool) → b ≡ (n == 0) → b ≡ false → 0 < n
some_left n b e h = grind (arith, nat_tests)

pub none_left : (text : List ℕ) (done : List (Bor (List ℕ))) (rest : List ℕ) (b : Bool) → words text ≡ texts done ++ words rest → b ≡ (length rest == 0) → b ≡ true → texts done ≡ words text
none_left text done rest b whole e h =
    let zero : length rest ≡ 0 = grind (arith, nat_tests) in
    sym (whole ∙ ap (λ r. texts done ++ words r) (nil_from_length rest zero) ∙ ap (λ ws. texts done ++ ws) words_none ∙ append-nil (texts done))
