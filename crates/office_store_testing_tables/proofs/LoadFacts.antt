-- Letters of a range of numbers, read at once and put in order.
use Rattle.std.proofs.Common.{◌≡◌, ◌≤◌, ◌<◌, ◌+◌, ◌-◌, inl, inr, ℕ, zero, suc, pos, List, [], ◌∷◌, map, filter, filter_map, Bool, true, false, ◌&&◌, nat_eq, nat_le, Option, Some, None, option_map, is_some, Result, Ok, Err, IfOk, refl, sym, ap, subst, ◌∙◌, arith}
use Rattle.std.proofs.lemmas.Bool.Decides.{nat_tests}
use Rattle.std.proofs.lemmas.List.Sorted.{IsPermutation-sym}
use Rattle.std.specs.List.{range_with_len, cons_option}
use Rattle.std.specs.List.Sorted.{IsPermutation}
use Rattle.std.specs.FinMap.{get, get-from_entries}
use Rattle.std.specs.Ordering.{is_ge, is_le}
use Rattle.sqlite.specs.declared.types.Value.TheVariants.{Int, Blob}
use Rattle.sqlite.specs.Order.{Row, column, value_cmp}
use Rattle.sqlite_value.proofs.OrderLemmas.{value_cmp-Int}
use Rattle.sqlite_rules.specs.Lists.{Has}
use Rattle.sqlite_rules.proofs.ListLemmas.{has_filtered, has_kept}
use Rattle.office_mail.specs.Kept.{Kept, Place}
use Rattle.office_mail.proofs.KeptFacts.{places_total, exact_places}
use Rattle.office_store_keeper.specs.declared.values.Letter.{Letter}
use Rattle.office_store_keeper.specs.Content.{letter_at, letters_within}
use Rattle.office_store_testing_tables.specs.Tables.{letter_in, kept_rows}
use Rattle.office_store_testing_tables.specs.steps.TableSteps.{letter_columns, is_between, shown_letter, letter_entry, rises_from}
use Rattle.office_store_testing_tables.proofs.LetterFacts.{letter_parts, int_is}
use Rattle.office_store_testing_tables.proofs.MailLemmas.{has_permuted}
use Rattle.office_store_testing_tables.proofs.EntryMaps.{from_first, has_first}
use Rattle.office_store_testing_tables.proofs.EntryValues.{read_has, has_read, has_map, map_has}

-- ---- letters whose numbers rise

pub both : (a b : Bool) → (a && b) ≡ true → (a ≡ true) × (b ≡ true)
both true b h = (refl, h)
both false b h = absurd (let e = h in cc)

pub reaches : (a b : ℕ) → nat_le a b ≡ true → a ≤ b
reaches a b h = grind (arith, nat_tests)

pub same_number : (a b : ℕ) → nat_eq a b ≡ true → a ≡ b
same_number a b h = grind (arith, nat_tests)

rises_more : (least : ℕ) (l : Letter) (letters : List Letter) → rises_from least (l ∷ letters) ≡ true → (least ≤ l.number) × (rises_from (l.number + 1) letters ≡ true)
rises_more least l letters h = let b = both (nat_le least l.number) (rises_from (l.number + 1) letters) h in (reaches least l.number b.0, b.1)

-- each letter's number is from there on
from_least : (least : ℕ) (letters : List Letter) → rises_from least letters ≡ true → (letter : Letter) → Has letters letter → least ≤ letter.number
from_least least [] rising letter there = absurd there
from_least least (l ∷ letters) rising letter (inl same) = subst (λ (x : Letter). least ≤ x.number) (sym same) (rises_more least l letters rising).0
from_least least (l ∷ letters) rising letter (inr there) = let b = rises_more least l letters rising in omega (arith, b.0, from_least (l.number + 1) letters b.1 letter there)

-- each number has one letter
one_letter : (least : ℕ) (letters : List Letter) → rises_from least letters ≡ true → (a b : Letter) → Has letters a → Has letters b → a.number ≡ b.number → a ≡ b
one_letter least [] rising a b p q same = absurd p
one_letter least (l ∷ letters) rising a b (inl p) (inl q) same = p ∙ sym q
one_letter least (l ∷ letters) rising a b (inl p) (inr q) same =
    absurd (omega (arith, ap (λ (x : Letter). x.number) p, from_least (l.number + 1) letters (rises_more least l letters rising).1 b q, same))
one_letter least (l ∷ letters) rising a b (inr p) (inl q) same =
    absurd (omega (arith, ap (λ (x : Letter). x.number) q, from_least (l.number + 1) letters (rises_more least l letters rising).1 a p, same))
one_letter least (l ∷ letters) rising a b (inr p) (inr q) same = one_letter (l.number + 1) letters (rises_more least l letters rising).1 a b p q same

-- ---- the kept letters of a range

module _ (kept : Kept) (sender : ℕ) where
  -- these are the kept letters of so many numbers from one on
  pub record AreKept (from count : ℕ) (letters : List Letter) : Type 0 where
    pub within : (letter : Letter) → Has letters letter → (from ≤ letter.number) × (letter.number < from + count) × (get kept (sender, letter.number) ≡ Some letter.text)
    pub all : (number : ℕ) (text : List ℕ) → from ≤ number → number < from + count → get kept (sender, number) ≡ Some text → Has letters (record { number = number; text = text })

  other : (from : ℕ) (letter : Letter) → get kept (sender, from) ≡ None → get kept (sender, letter.number) ≡ Some letter.text → from ≤ letter.number → from + 1 ≤ letter.number
  other from letter none stands above = go (nat_eq from letter.number) refl
    where
      go : (b : Bool) → nat_eq from letter.number ≡ b → from + 1 ≤ letter.number
      go true is = let same : from ≡ letter.number = grind (arith, nat_tests) in absurd (let e : Some letter.text ≡ None = sym stands ∙ ap (λ n. get kept (sender, n)) (sym same) ∙ none in cc)
      go false is = grind (arith, nat_tests)

  pub in_order : (count from least : ℕ) (letters : List Letter) → rises_from least letters ≡ true → AreKept from count letters → letters ≡ filter_map (letter_at kept sender) (range_with_len from count)
  in_order zero from least [] rising are = refl
  in_order zero from least (l ∷ letters) rising are = let w = are.within l (inl refl) in absurd (omega (arith, w.0, w.1))
  in_order (suc count) from least letters rising are = go (get kept (sender, from)) refl (in_order count (from + 1)) letters rising are
    where
      go : (o : Option (List ℕ)) → get kept (sender, from) ≡ o
          → ((low : ℕ) (more : List Letter) → rises_from low more ≡ true → AreKept (from + 1) count more → more ≡ filter_map (letter_at kept sender) (range_with_len (from + 1) count))
          → (letters : List Letter) → rises_from least letters ≡ true → AreKept from (suc count) letters
          → letters ≡ cons_option (option_map (λ text. record { number = from; text = text }) o) (filter_map (letter_at kept sender) (range_with_len (from + 1) count))
      go None is later letters rising are = later least letters rising (record {
        within = λ letter there. let w = are.within letter there in (other from letter is w.2 w.0, omega (arith, w.1), w.2);
        all = λ number text low high stands. are.all number text (omega (arith, low)) (omega (arith, high)) stands;
      })
      go (Some text) is later [] rising are = absurd (are.all from text (omega arith) (omega arith) is)
      go (Some text) is later (l ∷ letters) rising are =
          let b = rises_more least l letters rising in
          let above = from_least (l.number + 1) letters b.1 in
          let w = are.within l (inl refl) in
          let first : l ≡ record { number = from; text = text } = elim (are.all from text (omega arith) (omega arith) is) [
            | inl same ↦ sym same
            | inr there ↦ absurd (omega (arith, above (record { number = from; text = text }) there, w.0))
          ] in
          let at : l.number ≡ from = ap (λ (x : Letter). x.number) first in
          let rest : letters ≡ filter_map (letter_at kept sender) (range_with_len (from + 1) count) = later (l.number + 1) letters b.1 (record {
            within = λ letter there. let v = are.within letter (inr there) in (omega (arith, above letter there, at), omega (arith, v.1), v.2);
            all = λ number more low high stands. elim (are.all number more (omega (arith, low)) (omega (arith, high)) stands) [
              | inl same ↦ absurd (omega (arith, ap (λ (x : Letter). x.number) same, at, low))
              | inr there ↦ there
            ];
          }) in
          λ i. first i ∷ rest i

-- ---- rows that are shown

-- a shown row says what the row of the table says
shows_letter : (row : Row) → shown_letter (letter_columns row) ≡ letter_in row
unfolding shown_letter letter_in
shows_letter row = refl

pub letter_says : (row : Row) (sender : ℕ) (letter : Letter) → column row 0 ≡ Int (pos sender) → column row 1 ≡ Int (pos letter.number) → column row 2 ≡ Blob letter.text → shown_letter row ≡ Some (letter_entry sender letter)
unfolding shown_letter
letter_says row sender letter a b c = rw (a, b, c) refl

all_read : {A B : Type 0} (f : A → Option B) (xs : List A) (ys : List B) → map f xs ≡ map Some ys → filter_map f xs ≡ ys
all_read f [] [] h = refl
all_read f [] (y ∷ ys) h = absurd (let e = h in cc)
all_read f (x ∷ xs) [] h = absurd (let e = h in cc)
all_read f (x ∷ xs) (y ∷ ys) h =
    let a : f x ≡ Some y = cc in
    let b : map f xs ≡ map Some ys = cc in
    ap (λ o. cons_option o (filter_map f xs)) a ∙ ap (λ l. y ∷ l) (all_read f xs ys b)

pub int_from : (a b : ℕ) → is_ge (value_cmp (Int (pos a)) (Int (pos b))) ≡ nat_le b a
int_from a b = ap is_ge (value_cmp-Int (pos a) (pos b)) ∙ grind (arith, nat_tests)

int_to : (a b : ℕ) → is_le (value_cmp (Int (pos a)) (Int (pos b))) ≡ nat_le a b
int_to a b = ap is_le (value_cmp-Int (pos a) (pos b)) ∙ grind (arith, nat_tests)

-- SQL's comparisons at a row of mail are those of numbers
pub between_is : (sender from to : ℕ) (row : Row) (p : Place) (text : List ℕ) → letter_in row ≡ Some (p, text) → is_between sender from to row ≡ (nat_eq p.0 sender && (nat_le from p.1 && nat_le p.1 to))
between_is sender from to row p text h =
    let e = letter_parts row p text h in
    rw (e.0, e.1) (rw (int_is p.0 sender, int_from p.1 from, int_to p.1 to) refl)

within_is : (sender from n to : ℕ) → from ≤ n → n ≤ to → (nat_eq sender sender && (nat_le from n && nat_le n to)) ≡ true
within_is sender from n to low high = grind (arith, nat_tests)

module _ (table : List Row) (sender from to : ℕ) (rows : List Row) (letters : List Letter) (same : IsPermutation (map letter_columns (filter (is_between sender from to) table)) rows)
    (named : map shown_letter rows ≡ map Some (map (letter_entry sender) letters)) where
  said : filter_map shown_letter rows ≡ map (letter_entry sender) letters
  said = all_read shown_letter rows (map (letter_entry sender) letters) named

  -- a letter is in the table
  in_table : (letter : Letter) → Has letters letter → (row : Row) × Has table row × (letter_in row ≡ Some (letter_entry sender letter)) × (is_between sender from to row ≡ true)
  in_table letter there =
      let r = read_has shown_letter rows (letter_entry sender letter) (subst (λ l. Has l (letter_entry sender letter)) (sym said) (map_has (letter_entry sender) letters letter there)) in
      let c = has_map letter_columns (filter (is_between sender from to) table) r.0 (has_permuted _ rows r.0 same r.1) in
      let f = has_filtered (is_between sender from to) table c.0 c.1 in
      (c.0, f.0, sym (shows_letter c.0) ∙ ap shown_letter (sym c.2) ∙ r.2, f.1)

  bounds : (n : ℕ) (row : Row) (text : List ℕ) → letter_in row ≡ Some ((sender, n), text) → is_between sender from to row ≡ true → (from ≤ n) × (n ≤ to)
  bounds n row text is passes =
      let a = both (nat_eq sender sender) (nat_le from n && nat_le n to) (sym (between_is sender from to row (sender, n) text is) ∙ passes) in
      let b = both (nat_le from n) (nat_le n to) a.1 in
      (reaches from n b.0, reaches n to b.1)

  -- what the table says of the range is among the letters
  among : (n : ℕ) (text : List ℕ) (row : Row) → Has table row → letter_in row ≡ Some ((sender, n), text) → from ≤ n → n ≤ to → Has letters (record { number = n; text = text })
  among n text row there is low high =
      let passes : is_between sender from to row ≡ true = between_is sender from to row (sender, n) text is ∙ within_is sender from n to low high in
      let f = has_kept (is_between sender from to) table row there passes in
      let shown = has_permuted rows _ (letter_columns row) (IsPermutation-sym _ rows same) (map_has letter_columns _ row f) in
      let e = has_read shown_letter rows (letter_columns row) ((sender, n), text) shown (shows_letter row ∙ is) in
      let m = has_map (letter_entry sender) letters ((sender, n), text) (subst (λ l. Has l ((sender, n), text)) said e) in
      let number : n ≡ m.0.number = ap (λ (x : Place × List ℕ). x.0.1) m.2 in
      let body : text ≡ m.0.text = ap (λ (x : Place × List ℕ). x.1) m.2 in
      subst (Has letters) (λ i. record { number = sym number i; text = sym body i }) m.1

  found_among : (n : ℕ) (text : List ℕ) → get (kept_rows table) (sender, n) ≡ Some text → from ≤ n → n ≤ to → Has letters (record { number = n; text = text })
  found_among n text stands low high =
      let has = from_first places_total exact_places (filter_map letter_in table) (sender, n) text (sym (get-from_entries places_total (filter_map letter_in table) (sender, n)) ∙ stands) in
      let r = read_has letter_in table ((sender, n), text) has in
      among n text r.0 r.1 r.2 low high

  some_text : (o : Option (List ℕ)) → is_some o ≡ true → (text : List ℕ) × (o ≡ Some text)
  some_text None h = absurd (let e = h in cc)
  some_text (Some text) h = (text, refl)

  module _ (sorted : List Letter) (order : IsPermutation letters sorted) (rising : rises_from 0 sorted ≡ true) where
    sorted_among : (n : ℕ) (text : List ℕ) → get (kept_rows table) (sender, n) ≡ Some text → from ≤ n → n ≤ to → Has sorted (record { number = n; text = text })
    sorted_among n text stands low high = has_permuted sorted letters (record { number = n; text = text }) (IsPermutation-sym letters sorted order) (found_among n text stands low high)

    stands_for : (letter : Letter) → Has sorted letter → (from ≤ letter.number) × (letter.number < from + (to + 1 - from)) × (get (kept_rows table) (sender, letter.number) ≡ Some letter.text)
    stands_for letter there =
        let t = in_table letter (has_permuted letters sorted letter order there) in
        let b = bounds letter.number t.0 letter.text t.2 t.3 in
        let entry = has_read letter_in table t.0 ((sender, letter.number), letter.text) t.1 t.2 in
        let is = get-from_entries places_total (filter_map letter_in table) (sender, letter.number) in
        let v = some_text (get (kept_rows table) (sender, letter.number)) (ap is_some is ∙ has_first places_total exact_places (filter_map letter_in table) (sender, letter.number) letter.text entry) in
        let one : record { number = letter.number; text = v.0 } ≡ letter = one_letter 0 sorted rising _ letter (sorted_among letter.number v.0 v.1 b.0 b.1) there refl in
        (b.0, omega (arith, b.0, b.1), v.1 ∙ ap (λ (x : Letter). Some x.text) one)

    -- letters that rise, and say what the shown rows say, are those of the range
    pub all_within : sorted ≡ letters_within (kept_rows table) sender from to
    unfolding letters_within
    all_within = in_order (kept_rows table) sender (to + 1 - from) from 0 sorted rising (record {
      within = stands_for;
      all = λ number text low high stands. sorted_among number text stands low (omega (arith, low, high));
    })

pub loaded_on : {V F : Type 0} (items : V → List Letter) (table : List Row) (sender from to : ℕ) (rows : List Row) (letters : List Letter) (result : Result V F) → IsPermutation (map letter_columns (filter (is_between sender from to) table)) rows
    → map shown_letter rows ≡ map Some (map (letter_entry sender) letters) → IfOk result (λ v. IsPermutation letters (items v)) → IfOk result (λ v. rises_from 0 (items v) ≡ true) → IfOk result (λ v. items v ≡ letters_within (kept_rows table) sender from to)
loaded_on items table sender from to rows letters (Ok v) same named order rising = all_within table sender from to rows letters same named (items v) order rising
loaded_on items table sender from to rows letters (Err e) same named order rising = tt
