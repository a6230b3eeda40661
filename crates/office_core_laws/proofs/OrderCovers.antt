-- What an order covers, as it is listed and read.
use Rattle.std.proofs.Common.{◌≡◌, ℕ, ◌+◌, ◌^◌, ◌<◌, ◌≤◌, ◌&&◌, true, false, not, cond, List, [], ◌∷◌, ◌++◌, length, map, Result, Ok, refl, sym, ap, ◌∙◌, subst, arith, codes}
use Rattle.std.specs.Cmp.{first_so}
use Rattle.std.specs.Fmt.{decimal}
use Rattle.std.specs.List.{AllByRecursion, filter, flat_map, list_all, slice_split}
use Rattle.std.proofs.lemmas.Bool.{not-true}
use Rattle.std.proofs.lemmas.List.{append-nil, append_assoc}
use Rattle.std.proofs.lemmas.List.Splits.{slice_split_at, slice_split_none}
use Rattle.deb_control.specs.Relations.{◌>>=◌, items, is_qualifier_char}
use Rattle.deb_control.specs.steps.ClauseSteps.{is_comma}
use Rattle.deb_control.specs.Text.{is_white, trim_white}
use Rattle.office_mail_setup.specs.Lists.{Lists}
use Rattle.office_mail_setup.specs.WholeText.{each_of, needs}
use Rattle.office_mail.specs.Covers.{BadCovers, cover_in, cover_of_words, covers_in, may_cover, numbers_by_sender}
use Rattle.office_mail.specs.declared.message.MailFault.{MailFault}
use Rattle.testing_rules_items.specs.Distinct.{is_distinct}
use Rattle.office_core_laws.proofs.OrderWords.{IsWord, EndsFull, all_weaker, both_all, ends_behind, no_comma, no_white, none_of, number_back, number_is_word, trimmed, trimmed_nothing, two_after_white, two_words, word_ends}

abbrev pub Pair : Type 0
Pair = List ℕ × ℕ

-- a name and a number, as an order lists them
abbrev pub pair_words : Pair → List ℕ
pair_words p = p.0 ++ 32 ∷ decimal p.1

abbrev pub next_words : Pair → List ℕ
next_words p = codes ", " ++ pair_words p

abbrev pub listing : List Pair → List ℕ
listing [] = []
listing (p ∷ ps) = 32 ∷ pair_words p ++ flat_map next_words ps

-- a pair that an order may list
pub record IsPair (p : Pair) : Type 0 where
  pub name : IsWord p.0
  pub short : length p.0 ≤ 32
  pub number : p.1 ≤ 999_999_999

pub low_number : (p : Pair) → IsPair p → p.1 < 2 ^ 32
low_number p is = omega (arith, is.number)

pub number_word : (p : Pair) → IsPair p → IsWord (decimal p.1)
number_word p is = number_is_word p.1 (low_number p is)

-- Without the white in front.

without_comma : (p : Pair) → IsPair p → list_all (λ c. not (is_comma c)) (pair_words p) ≡ true
without_comma p is =
    both_all (λ c. not (is_comma c)) p.0 (32 ∷ decimal p.1)
    (all_weaker is_qualifier_char (λ c. not (is_comma c)) no_comma p.0 is.name.chars)
    (all_weaker is_qualifier_char (λ c. not (is_comma c)) no_comma (decimal p.1) (number_word p is).chars)

pair_ends : (p : Pair) → IsPair p → EndsFull (pair_words p)
pair_ends p is = ends_behind p.0 (32 ∷ decimal p.1) (ends_behind (32 ∷ []) (decimal p.1) (word_ends (decimal p.1) (number_word p is)))

more_ends : (w : List ℕ) (ps : List Pair) → EndsFull w → AllByRecursion IsPair ps → EndsFull (w ++ flat_map next_words ps)
more_ends w [] e h = subst EndsFull (sym (append-nil w)) e
more_ends w (p ∷ ps) e h =
    subst EndsFull (append_assoc w (next_words p) (flat_map next_words ps))
    (more_ends (w ++ next_words p) ps (ends_behind w (next_words p) (ends_behind (codes ", ") (pair_words p) (pair_ends p h.0))) h.1)

front_at : (name rest : List ℕ) → IsWord name → EndsFull (name ++ rest) → trim_white (32 ∷ (name ++ rest)) ≡ name ++ rest
front_at [] rest w e = let no : 0 < 0 = w.some in absurd (omega (arith, no))
front_at (c ∷ cs) rest w e = trimmed c (cs ++ rest) (not-true (is_white c) (no_white c (first_so _ _ w.chars))) e

-- the value of the field
abbrev pub listed_value : List Pair → List ℕ
listed_value [] = []
listed_value (p ∷ ps) = pair_words p ++ flat_map next_words ps

pub listing_trimmed : (ps : List Pair) → AllByRecursion IsPair ps → trim_white (listing ps) ≡ listed_value ps
listing_trimmed [] h = trimmed_nothing
listing_trimmed (p ∷ ps) h =
    let same : pair_words p ++ flat_map next_words ps ≡ p.0 ++ (32 ∷ decimal p.1 ++ flat_map next_words ps) = append_assoc p.0 (32 ∷ decimal p.1) (flat_map next_words ps) in
    let ends : EndsFull (pair_words p ++ flat_map next_words ps) = more_ends (pair_words p) ps (pair_ends p h.0) h.1 in
    ap (λ (t : List ℕ). trim_white (32 ∷ t)) same ∙ front_at p.0 (32 ∷ decimal p.1 ++ flat_map next_words ps) h.0.name (subst EndsFull same ends) ∙ sym same

-- Its items.

abbrev after_white : Pair → List ℕ
after_white p = 32 ∷ pair_words p

split_from : (w : List ℕ) (ps : List Pair) → list_all (λ c. not (is_comma c)) w ≡ true → AllByRecursion IsPair ps → slice_split is_comma (w ++ flat_map next_words ps) ≡ w ∷ map after_white ps
split_from w [] h all = ap (slice_split is_comma) (append-nil w) ∙ slice_split_none is_comma w (none_of is_comma w h)
split_from w (p ∷ ps) h all =
    slice_split_at is_comma w 44 (after_white p ++ flat_map next_words ps) (none_of is_comma w h) refl
    ∙ ap (λ (ws : List (List ℕ)). w ∷ ws) (split_from (after_white p) ps (without_comma p all.0) all.1)

not_white_at : (name rest : List ℕ) → IsWord name → list_all is_white (name ++ rest) ≡ false
not_white_at [] rest w = let no : 0 < 0 = w.some in absurd (omega (arith, no))
not_white_at (c ∷ cs) rest w = ap (λ b. b && list_all is_white (cs ++ rest)) (not-true (is_white c) (no_white c (first_so _ _ w.chars)))

all_items : (ps : List Pair) → AllByRecursion IsPair ps → filter (λ item. not (list_all is_white item)) (map after_white ps) ≡ map after_white ps
all_items [] h = refl
all_items (p ∷ ps) h =
    ap (λ b. cond (not b) (after_white p ∷ filter (λ item. not (list_all is_white item)) (map after_white ps)) (filter (λ item. not (list_all is_white item)) (map after_white ps))) (not_white_at p.0 (32 ∷ decimal p.1) h.0.name)
    ∙ ap (λ (xs : List (List ℕ)). after_white p ∷ xs) (all_items ps h.1)

-- the items of the value
abbrev item_list : List Pair → List (List ℕ)
item_list [] = []
item_list (p ∷ ps) = pair_words p ∷ map after_white ps

no_items : items [] ≡ []
unfolding items
no_items = refl

items_are : (ps : List Pair) → AllByRecursion IsPair ps → items (listed_value ps) ≡ item_list ps
unfolding items
items_are [] h = no_items
items_are (p ∷ ps) h =
    ap (filter (λ item. not (list_all is_white item))) (split_from (pair_words p) ps (without_comma p h.0) h.1)
    ∙ ap (λ b. cond (not b) (pair_words p ∷ filter (λ item. not (list_all is_white item)) (map after_white ps)) (filter (λ item. not (list_all is_white item)) (map after_white ps))) (not_white_at p.0 (32 ∷ decimal p.1) h.0.name)
    ∙ ap (λ (xs : List (List ℕ)). pair_words p ∷ xs) (all_items ps h.1)

-- What they say.

module _ (setup : Lists) where
  -- the order may cover the sender of the pair
  abbrev pub MayList : Pair → Type 0
  MayList p = IsPair p × (may_cover setup p.0 ≡ true)

  by_words : (p : Pair) → MayList p → cover_of_words setup (p.0 ∷ decimal p.1 ∷ []) ≡ Ok p
  by_words p m = rw (m.1, number_back 0 999_999_999 p.1 (low_number p m.0) (omega arith) m.0.number) refl

  first_said : (p : Pair) → MayList p → cover_in setup (pair_words p) ≡ Ok p
  unfolding cover_in
  first_said p m = ap (cover_of_words setup) (two_words p.0 (decimal p.1) m.0.name (number_word p m.0)) ∙ by_words p m

  later_said : (p : Pair) → MayList p → cover_in setup (after_white p) ≡ Ok p
  unfolding cover_in
  later_said p m = ap (cover_of_words setup) (two_after_white p.0 (decimal p.1) m.0.name (number_word p m.0)) ∙ by_words p m

  later_all : (ps : List Pair) → AllByRecursion MayList ps → each_of (cover_in setup) (map after_white ps) ≡ Ok ps
  later_all [] h = refl
  later_all (p ∷ ps) h =
      ap (λ (r : Result Pair MailFault). r >>= λ y. each_of (cover_in setup) (map after_white ps) >>= λ ys. Ok (y ∷ ys)) (later_said p h.0)
      ∙ ap (λ (r : Result (List Pair) MailFault). r >>= λ ys. Ok (p ∷ ys)) (later_all ps h.1)

  said_all : (ps : List Pair) → AllByRecursion MayList ps → each_of (cover_in setup) (item_list ps) ≡ Ok ps
  said_all [] h = refl
  said_all (p ∷ ps) h =
      ap (λ (r : Result Pair MailFault). r >>= λ y. each_of (cover_in setup) (map after_white ps) >>= λ ys. Ok (y ∷ ys)) (first_said p h.0)
      ∙ ap (λ (r : Result (List Pair) MailFault). r >>= λ ys. Ok (p ∷ ys)) (later_all ps h.1)

  pub pairs_only : (ps : List Pair) → AllByRecursion MayList ps → AllByRecursion IsPair ps
  pairs_only [] h = tt
  pairs_only (p ∷ ps) h = (h.0.0, pairs_only ps h.1)

  -- the covers of a listing, without the white in front
  pub covers_back : (ps : List Pair) → AllByRecursion MayList ps → is_distinct (map (λ (p : Pair). p.0) ps) ≡ true → covers_in setup (trim_white (listing ps)) ≡ Ok (numbers_by_sender setup ps)
  unfolding covers_in
  covers_back ps h once =
      let at : items (trim_white (listing ps)) ≡ item_list ps = ap items (listing_trimmed ps (pairs_only ps h)) ∙ items_are ps (pairs_only ps h) in
      let said : each_of (cover_in setup) (items (trim_white (listing ps))) ≡ Ok ps = ap (each_of (cover_in setup)) at ∙ said_all ps h in
      ap (λ (r : Result (List Pair) MailFault). r >>= λ stated. needs (is_distinct (map (λ (c : Pair). c.0) stated)) BadCovers >>= λ each. Ok (numbers_by_sender setup stated)) said
      ∙ ap (λ b. needs b BadCovers >>= λ each. Ok (numbers_by_sender setup ps)) once
