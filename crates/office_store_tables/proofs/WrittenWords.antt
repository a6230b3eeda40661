-- Words written one after the other, as they are read back.
use Rattle.std.proofs.Common.{◌≡◌, ℕ, ◌+◌, ◌-◌, ◌<◌, Bool, true, false, cond, not, List, [], ◌∷◌, ◌++◌, length, take, drop, reverse, refl, ap, ◌∙◌, arith}
use Rattle.std.specs.List.{slice_split, onto_first, prefix_len, suffix_len, list_all, filter, flat_map}
use Rattle.std.proofs.lemmas.Bool.{and_parts}
use Rattle.std.proofs.lemmas.Bool.Decides.{nat_tests}
use Rattle.std.proofs.lemmas.List.{append-nil, reverse-append, length-reverse, take_all}
use Rattle.std.proofs.lemmas.List.Splits.{slice_split-cons_no}
use Rattle.deb_control.specs.Text.{is_white, is_line_feed, trim_white}
use Rattle.deb_control.specs.Paragraphs.{not_empty}
use Rattle.deb_control.specs.Relations.{is_qualifier_char}
use Rattle.deb_control.proofs.Split.{split_append, left_after_yes, left_after_no}
use Rattle.office_mail.specs.Values.{words}
use Rattle.office_store_tables.specs.SetupText.{spaced}

-- a word: one character at least, all of them lower case letters, digits and hyphens
pub record IsWord (t : List ℕ) : Type 0 where
  pub some : not_empty t ≡ true
  pub all : list_all is_qualifier_char t ≡ true

pub word_not_white : (c : ℕ) → is_qualifier_char c ≡ true → is_white c ≡ false
word_not_white c h = grind (arith, nat_tests)

pub word_not_feed : (c : ℕ) → is_qualifier_char c ≡ true → is_line_feed c ≡ false
word_not_feed c h = grind (arith, nat_tests)

-- where no character cuts, there is one part
pub uncut : (p q : ℕ → Bool) → ((c : ℕ) → q c ≡ true → p c ≡ false) → (t : List ℕ) → list_all q t ≡ true → slice_split p t ≡ t ∷ []
uncut p q apart [] h = refl
uncut p q apart (c ∷ cs) h =
    let both = and_parts (q c) (list_all q cs) h in
    slice_split-cons_no p c cs (apart c both.0) ∙ ap (onto_first c) (uncut p q apart cs both.1)

-- ---- a text that ends in no white

abbrev pub ends_well : List ℕ → Bool
ends_well [] = false
ends_well (c ∷ []) = not (is_white c)
ends_well (c ∷ d ∷ t) = ends_well (d ∷ t)

ends_append : (xs ys : List ℕ) → ends_well ys ≡ true → ends_well (xs ++ ys) ≡ true
ends_append [] ys h = h
ends_append (c ∷ []) [] h = absurd (cc)
ends_append (c ∷ []) (d ∷ t) h = h
ends_append (c ∷ d ∷ t) ys h = ends_append (d ∷ t) ys h

ends_word : (t : List ℕ) → IsWord t → ends_well t ≡ true
ends_word [] h = absurd (let e = h.some in cc)
ends_word (c ∷ []) h = ap not (word_not_white c (and_parts (is_qualifier_char c) true h.all).0)
ends_word (c ∷ d ∷ t) h = ends_word (d ∷ t) (record { some = refl; all = (and_parts (is_qualifier_char c) (list_all is_qualifier_char (d ∷ t)) h.all).1 })

reversed : (c : ℕ) (t : List ℕ) → reverse (c ∷ t) ≡ reverse t ++ c ∷ []
reversed c t = reverse-append (c ∷ []) t

none_by : (p : ℕ → Bool) (r s : List ℕ) → 0 < length r → prefix_len p r ≡ 0 → prefix_len p (r ++ s) ≡ 0
none_by p [] s some h = absurd (omega (arith, some))
none_by p (c ∷ r) s some h = none_head (p c) (prefix_len p r) (prefix_len p (r ++ s)) h
  where
    none_head : (b : Bool) (n m : ℕ) → cond b (1 + n) 0 ≡ 0 → cond b (1 + m) 0 ≡ 0
    none_head true n m e = absurd (omega (arith, e))
    none_head false n m e = refl

suffix_none : (t : List ℕ) → ends_well t ≡ true → suffix_len is_white t ≡ 0
suffix_none [] h = absurd (cc)
suffix_none (c ∷ []) h = one (is_white c) h
  where
    one : (b : Bool) → not b ≡ true → cond b (1 + 0) 0 ≡ 0
    one true e = absurd (cc)
    one false e = refl
suffix_none (c ∷ d ∷ t) h =
    let n : length (reverse (d ∷ t)) ≡ length (d ∷ t) = length-reverse (d ∷ t) in
    ap (prefix_len is_white) (reversed c (d ∷ t)) ∙ none_by is_white (reverse (d ∷ t)) (c ∷ []) (omega (arith, n)) (suffix_none (d ∷ t) h)

-- a space in front is no part of a value
pub trim_space : (c : ℕ) (t : List ℕ) → is_white c ≡ false → ends_well (c ∷ t) ≡ true → trim_white (32 ∷ c ∷ t) ≡ c ∷ t
unfolding trim_white
trim_space c t black ends =
    let front : drop (prefix_len is_white (32 ∷ c ∷ t)) (32 ∷ c ∷ t) ≡ c ∷ t = left_after_yes is_white 32 (c ∷ t) refl ∙ left_after_no is_white c t black in
    ap (λ x. take (length x - suffix_len is_white x) x) front
    ∙ ap (λ n. take (length (c ∷ t) - n) (c ∷ t)) (suffix_none (c ∷ t) ends)
    ∙ take_all (length (c ∷ t) - 0) (c ∷ t) (omega arith)

pub trim_word : (t : List ℕ) → IsWord t → trim_white (32 ∷ t) ≡ t
trim_word [] h = absurd (let e = h.some in cc)
trim_word (c ∷ t) h = trim_space c t (word_not_white c (and_parts (is_qualifier_char c) (list_all is_qualifier_char t) h.all).0) (ends_word (c ∷ t) h)

-- ---- words

abbrev pub AreWords : List (List ℕ) → Type 0
AreWords [] = Unit {0}
AreWords (w ∷ ws) = IsWord w × AreWords ws

kept_word : (w : List ℕ) (more : List (List ℕ)) → not_empty w ≡ true → filter not_empty (w ∷ more) ≡ w ∷ filter not_empty more
kept_word w more h = ap (λ b. cond b (w ∷ filter not_empty more) (filter not_empty more)) h

pub words_written : (w : List ℕ) (ws : List (List ℕ)) → IsWord w → AreWords ws → words (w ++ flat_map spaced ws) ≡ w ∷ ws
unfolding words
words_written w [] h hs =
    ap (λ t. filter not_empty (slice_split is_white t)) (append-nil w) ∙ ap (filter not_empty) (uncut is_white is_qualifier_char word_not_white w h.all) ∙ kept_word w [] h.some
words_written w (v ∷ vs) h hs =
    ap (filter not_empty) (split_append is_white w 32 (v ++ flat_map spaced vs) refl)
    ∙ ap (λ parts. filter not_empty (parts ++ slice_split is_white (v ++ flat_map spaced vs))) (uncut is_white is_qualifier_char word_not_white w h.all)
    ∙ kept_word w (slice_split is_white (v ++ flat_map spaced vs)) h.some
    ∙ ap (λ x. w ∷ x) (words_written v vs hs.0 hs.1)

ends_written : (w : List ℕ) (ws : List (List ℕ)) → IsWord w → AreWords ws → ends_well (w ++ flat_map spaced ws) ≡ true
ends_written w [] h hs = ap ends_well (append-nil w) ∙ ends_word w h
ends_written w (v ∷ vs) h hs = ends_append w (32 ∷ (v ++ flat_map spaced vs)) (ends_append (32 ∷ []) (v ++ flat_map spaced vs) (ends_written v vs hs.0 hs.1))

trim_written : (w : List ℕ) (ws : List (List ℕ)) → IsWord w → AreWords ws → trim_white (32 ∷ (w ++ flat_map spaced ws)) ≡ w ++ flat_map spaced ws
trim_written [] ws h hs = absurd (let e = h.some in cc)
trim_written (c ∷ t) ws h hs =
    trim_space c (t ++ flat_map spaced ws) (word_not_white c (and_parts (is_qualifier_char c) (list_all is_qualifier_char t) h.all).0) (ends_written (c ∷ t) ws h hs)

-- words with a space in front of each are read as these words
pub words_spaced : (w : List ℕ) (ws : List (List ℕ)) → AreWords (w ∷ ws) → words (trim_white (flat_map spaced (w ∷ ws))) ≡ w ∷ ws
words_spaced w ws h = ap words (trim_written w ws h.0 h.1) ∙ words_written w ws h.0 h.1
