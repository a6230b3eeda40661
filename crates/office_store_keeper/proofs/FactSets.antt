-- Sets of rows, row by row.
use Rattle.std.proofs.Common.{◌≡◌, ◌≤◌, ◌<◌, ◌+◌, ◌==◌, ◌⊎◌, inl, inr, ℕ, zero, suc, Bool, true, false, cond, not, ◌&&◌, ◌||◌, Option, Some, None, List, [], ◌∷◌, ◌++◌, map, refl, sym, ap, subst, ◌∙◌, arith}
use Rattle.std.specs.Prelude.{⊤, is_some, is_ok, ◌↔◌, nat_lt, length, get_or, Result, Ok, Err}
use lib.Dec.{T}
use Rattle.std.specs.Cmp.{IsTotalOrder}
use Rattle.std.specs.FinMap.{IsAntisymmetric, put, get, entries, insert, remove, get-empty, get-insert, get-remove, len-entries, len-empty, entries_sorted, entries-insert, contains_key-keys, is_sorted, same_map}
use Rattle.std.specs.FinMap.Entries.{below_all}
use Rattle.std.specs.List.{list_any, AllByRecursion, dedup, dedup_from}
use Rattle.std.specs.List.Sorted.{IsSorted, IsStrictlySortedBy, IsBinarySearchResult, IsSearchInRange}
use Rattle.std.specs.declared.cmp.Ordering.{Ordering}
use Rattle.std.specs.declared.cmp.Ordering.TheVariants.{Less, Equal, Greater}
use Rattle.std.specs.Ordering.{nat_cmp, is_eq, is_lt, eq_by_cmp, ordering_then}
use Rattle.std.proofs.lemmas.Bool.{false≢true}
use Rattle.std.proofs.lemmas.Bool.Decides.{nat_tests}
use Rattle.std.proofs.lemmas.Cmp.{nat_cmp_total, on_total, then_total, eq_by_cmp_equiv}
use Rattle.std.proofs.lemmas.List.Folds.{list_any-append, list_any_none, list_any_at}
use Rattle.std.proofs.lemmas.List.Kept.{IsStrictlySortedBy-dedup}
use Rattle.std.proofs.lemmas.List.Sorted.{searchable_from_sorted}
use Rattle.std.proofs.lemmas.List.Sums.{sum_by-cons}
use Rattle.testing_rules_model.specs.declared.fact_row.FactRow.{FactRow}
use Rattle.testing_rules_model.specs.declared.fact_row.FactChanges.{FactChanges}
use Rattle.testing_rules_model.proofs.FactKinds.{kind_is}
use Rattle.testing_rules_model.specs.FactRows.{number_of, is_kind, is_row, row_order, times}
use Rattle.office_store_keeper.specs.FactSet.{FactSet, HasRow, count_in, rows_in, set_of_rows, without_rows, with_rows, facts_after}
use Rattle.office_store_keeper.specs.steps.FactSet.{is_among}
use Rattle.office_store_keeper.specs.steps.MemoryState.{rows_left}

-- The order of rows.

pub row_total : IsTotalOrder row_order
row_total =
    then_total (on_total (λ (r : FactRow). number_of r.kind) nat_cmp_total)
    (then_total (on_total (λ (r : FactRow). r.sender) nat_cmp_total) (then_total (on_total (λ (r : FactRow). r.number) nat_cmp_total) (on_total (λ (r : FactRow). r.place) nat_cmp_total)))

both_are : (a b : Bool) → (a && b) ≡ true → (a ≡ true) × (b ≡ true)
both_are true b h = (refl, h)
both_are false b h = absurd (false≢true h)

same_nat : (a b : ℕ) → (a == b) ≡ true → a ≡ b
same_nat a b e = grind (arith, nat_tests)

pub row_same : (r x : FactRow) → is_row r x ≡ true → x ≡ r
row_same r x h =
    let a = both_are (is_kind x.kind r.kind) _ h in
    let b = both_are (x.sender == r.sender) _ a.1 in
    let c = both_are (x.number == r.number) (x.place == r.place) b.1 in
    let kinds : ◌≡◌ {A = FactRow} x (record { kind = r.kind; sender = x.sender; number = x.number; place = x.place }) =
    ap (λ k. record { kind = k; sender = x.sender; number = x.number; place = x.place }) (kind_is x.kind r.kind a.0) in
    kinds
    ∙ ap (λ k. record { kind = r.kind; sender = k; number = x.number; place = x.place }) (same_nat x.sender r.sender b.0)
    ∙ ap (λ k. record { kind = r.kind; sender = r.sender; number = k; place = x.place }) (same_nat x.number r.number c.0)
    ∙ ap (λ k. record { kind = r.kind; sender = r.sender; number = r.number; place = k }) (same_nat x.place r.place c.1)

nat_tie : (a b : ℕ) → is_eq (nat_cmp a b) ≡ (b == a)
nat_tie a b = grind (arith, nat_tests)

then_tie : (o p : Ordering) → is_eq (ordering_then o p) ≡ (is_eq o && is_eq p)
then_tie Less p = refl
then_tie Equal p = refl
then_tie Greater p = refl

-- a row ties with itself alone
pub row_is : (r x : FactRow) → eq_by_cmp row_order r x ≡ is_row r x
row_is r x =
    let sender = nat_cmp r.sender x.sender in
    let number = nat_cmp r.number x.number in
    let place = nat_cmp r.place x.place in
    then_tie (nat_cmp (number_of r.kind) (number_of x.kind)) (ordering_then sender (ordering_then number place))
    ∙ ap (λ b. is_eq (nat_cmp (number_of r.kind) (number_of x.kind)) && b) (then_tie sender (ordering_then number place) ∙ ap (λ b. is_eq sender && b) (then_tie number place))
    ∙ rw (nat_tie (number_of r.kind) (number_of x.kind), nat_tie r.sender x.sender, nat_tie r.number x.number, nat_tie r.place x.place) refl

pub exact_rows : IsAntisymmetric row_order
exact_rows x y e = sym (row_same x y (sym (row_is x y) ∙ ap is_eq e))

-- What a set has.

abbrev pub has : FactSet → FactRow → Bool
has facts r = is_some (get facts r)

one_value : (o : Option ⊤) → o ≡ cond (is_some o) (Some tt) None
one_value None = refl
one_value (Some u) = refl

-- sets that have the same rows are the same
pub same_sets : (a b : FactSet) → ((r : FactRow) → has a r ≡ has b r) → a ≡ b
same_sets a b is = same_map row_total exact_rows a b (λ r. one_value (get a r) ∙ ap (λ b. cond b (Some tt) None) (is r) ∙ sym (one_value (get b r)))

some_or : (b : Bool) (o : Option ⊤) → is_some (cond b (Some tt) o) ≡ (b || is_some o)
some_or true o = refl
some_or false o = refl

none_or : (b : Bool) (o : Option ⊤) → is_some (cond b None o) ≡ (not b && is_some o)
none_or true o = refl
none_or false o = refl

pub has-insert : (facts : FactSet) (x r : FactRow) → has (insert facts x tt) r ≡ (is_row r x || has facts r)
has-insert facts x r =
    ap is_some (get-insert row_total facts x tt r) ∙ some_or (eq_by_cmp row_order r x) (get facts r) ∙ ap (λ b. b || has facts r) (row_is r x)

pub has-remove : (facts : FactSet) (x r : FactRow) → has (remove facts x) r ≡ (not (is_row r x) && has facts r)
has-remove facts x r =
    ap is_some (get-remove row_total facts x r) ∙ none_or (eq_by_cmp row_order r x) (get facts r) ∙ ap (λ b. not b && has facts r) (row_is r x)

pub has-set_of_rows : (rows : List FactRow) (r : FactRow) → has (set_of_rows rows) r ≡ is_among r rows
has-set_of_rows [] r = ap is_some (get-empty row_order r)
has-set_of_rows (x ∷ rows) r = has-insert (set_of_rows rows) x r ∙ ap (λ b. is_row r x || b) (has-set_of_rows rows r)

both_gone : (a b h : Bool) → (not b && (not a && h)) ≡ (not (a || b) && h)
both_gone true true h = refl
both_gone true false h = refl
both_gone false true h = refl
both_gone false false h = refl

pub has-without_rows : (rows : List FactRow) (facts : FactSet) (r : FactRow) → has (without_rows rows facts) r ≡ (not (is_among r rows) && has facts r)
has-without_rows [] facts r = refl
has-without_rows (x ∷ rows) facts r =
    has-without_rows rows (remove facts x) r ∙ ap (λ b. not (is_among r rows) && b) (has-remove facts x r) ∙ both_gone (is_row r x) (is_among r rows) (has facts r)

either_put : (a b h : Bool) → (b || (a || h)) ≡ ((a || b) || h)
either_put true true h = refl
either_put true false h = refl
either_put false true h = refl
either_put false false h = refl

pub has-with_rows : (rows : List FactRow) (facts : FactSet) (r : FactRow) → has (with_rows rows facts) r ≡ (is_among r rows || has facts r)
has-with_rows [] facts r = refl
has-with_rows (x ∷ rows) facts r =
    has-with_rows rows (insert facts x tt) r ∙ ap (λ b. is_among r rows || b) (has-insert facts x r) ∙ either_put (is_row r x) (is_among r rows) (has facts r)

-- a row is put, or it was there and isn't gone
pub has-after : (changes : FactChanges) (facts : FactSet) (r : FactRow) → has (facts_after changes facts) r ≡ (is_among r changes.put || (not (is_among r changes.gone) && has facts r))
has-after changes facts r = has-with_rows changes.put (without_rows changes.gone facts) r ∙ ap (λ b. is_among r changes.put || b) (has-without_rows changes.gone facts r)

pub get-after : (changes : FactChanges) (facts : FactSet) (r : FactRow) → get (facts_after changes facts) r ≡ cond (is_among r changes.put || (not (is_among r changes.gone) && has facts r)) (Some tt) None
get-after changes facts r = one_value (get (facts_after changes facts) r) ∙ ap (λ b. cond b (Some tt) None) (has-after changes facts r)

-- How often a row stands in a list.

any_counts : (b : Bool) (a : Bool) (n t : ℕ) → a ≡ nat_lt 0 n → t ≡ cond b 1 0 + n → (b || a) ≡ nat_lt 0 t
any_counts true a n t e is = grind (arith, nat_tests)
any_counts false a n t e is = grind (arith, nat_tests)

pub among-times : (rows : List FactRow) (r : FactRow) → is_among r rows ≡ nat_lt 0 (times r rows)
among-times [] r = refl
among-times (x ∷ rows) r = any_counts (is_row r x) (is_among r rows) (times r rows) _ (among-times rows r) (sum_by-cons (λ y. cond (is_row r y) 1 0) x rows)

above : (n : ℕ) → nat_lt 0 n ≡ true → 0 < n
above n h = grind (arith, nat_tests)

above_too : (n : ℕ) → 0 < n → nat_lt 0 n ≡ true
above_too n h = grind (arith, nat_tests)

pub HasRow-set_of_rows : (rows : List FactRow) (r : FactRow) → HasRow (set_of_rows rows) r ↔ (0 < times r rows)
HasRow-set_of_rows rows r =
    let is : has (set_of_rows rows) r ≡ nat_lt 0 (times r rows) = has-set_of_rows rows r ∙ among-times rows r in
    (λ h. above (times r rows) (sym is ∙ h), λ more. is ∙ above_too (times r rows) more)

after_parts : (p g h : Bool) → (p || (not g && h)) ≡ true → (p ≡ true) ⊎ ((g ≡ false) × (h ≡ true))
after_parts true g h e = inl refl
after_parts false true h e = absurd (false≢true e)
after_parts false false h e = inr (refl, e)

not_above : (n : ℕ) → nat_lt 0 n ≡ false → n ≡ 0
not_above n h = grind (arith, nat_tests)

-- a row of the set after the changes is put, or it was there and isn't gone
pub HasRow-after : (changes : FactChanges) (facts : FactSet) (r : FactRow) → HasRow (facts_after changes facts) r → (0 < times r changes.put) ⊎ ((times r changes.gone ≡ 0) × HasRow facts r)
HasRow-after changes facts r h = elim (after_parts (is_among r changes.put) (is_among r changes.gone) (has facts r) (sym (has-after changes facts r) ∙ h)) [
  | inl put ↦ inl (above (times r changes.put) (sym (among-times changes.put r) ∙ put))
  | inr kept ↦ inr (not_above (times r changes.gone) (sym (among-times changes.gone r) ∙ kept.0), kept.1)
]

pub count-set_of_rows : (rows : List FactRow) (r : FactRow) → times r rows ≤ 1 → count_in (set_of_rows rows) r ≡ times r rows
count-set_of_rows rows r few = ap (λ b. cond b 1 0) (has-set_of_rows rows r ∙ among-times rows r) ∙ counted (times r rows) few
  where
    counted : (n : ℕ) → n ≤ 1 → cond (nat_lt 0 n) 1 0 ≡ n
    counted n h = grind (arith, nat_tests)

abbrev bit : Bool → ℕ
bit b = cond b 1 0

counted_alike : (a b : Bool) → bit a ≡ bit b → a ≡ b
counted_alike true true e = refl
counted_alike true false e = absurd (let no : bit true ≡ bit false = e in omega (arith, no))
counted_alike false true e = absurd (let no : bit false ≡ bit true = e in omega (arith, no))
counted_alike false false e = refl

-- sets that count each row alike are the same
pub same_counts : (a b : FactSet) → ((r : FactRow) → count_in a r ≡ count_in b r) → a ≡ b
same_counts a b is = same_sets a b (λ r. counted_alike (has a r) (has b r) (is r))

-- A row that stands at most once, and isn't both put and gone, is in the set after the changes as often as it stands.
after_counts : (h : Bool) (p g n : ℕ) → n ≤ 1 → n + g ≡ bit h + p → (p ≡ 0) ⊎ (g ≡ 0) → bit (nat_lt 0 p || (not (nat_lt 0 g) && h)) ≡ n
after_counts true zero zero n few balance apart = grind (arith, nat_tests)
after_counts true zero (suc g) n few balance apart = grind (arith, nat_tests)
after_counts true (suc p) zero n few balance apart = grind (arith, nat_tests)
after_counts false zero zero n few balance apart = grind (arith, nat_tests)
after_counts false zero (suc g) n few balance apart = grind (arith, nat_tests)
after_counts false (suc p) zero n few balance apart = grind (arith, nat_tests)
after_counts h (suc p) (suc g) n few balance apart = absurd (elim apart [ inl none ↦ omega (arith, none) | inr none ↦ omega (arith, none) ])

pub count-after : (changes : FactChanges) (facts : FactSet) (now : List FactRow) (r : FactRow) → times r now ≤ 1 → times r now + times r changes.gone ≡ count_in facts r + times r changes.put
    → (times r changes.put ≡ 0) ⊎ (times r changes.gone ≡ 0) → count_in (facts_after changes facts) r ≡ times r now
count-after changes facts now r few balance apart =
    ap (λ b. cond b 1 0) (has-after changes facts r)
    ∙ rw (among-times changes.put r, among-times changes.gone r) (after_counts (has facts r) (times r changes.put) (times r changes.gone) (times r now) few balance apart)

-- and so the set is that of the rows that stand now
pub facts_after-is : (changes : FactChanges) (facts : FactSet) (now : List FactRow) → ((r : FactRow) → times r now ≤ 1)
    → ((r : FactRow) → times r now + times r changes.gone ≡ count_in facts r + times r changes.put) → ((r : FactRow) → (times r changes.put ≡ 0) ⊎ (times r changes.gone ≡ 0))
    → facts_after changes facts ≡ set_of_rows now
facts_after-is changes facts now few balance apart =
    same_counts (facts_after changes facts) (set_of_rows now) (λ r. count-after changes facts now r (few r) (balance r) (apart r) ∙ sym (count-set_of_rows now r (few r)))

-- Changes of a list of rows.

any_cond : (p : FactRow → Bool) (t : Bool) (x : FactRow) (xs : List FactRow) → list_any p (cond t (x ∷ xs) xs) ≡ ((t && p x) || list_any p xs)
any_cond p true x xs = refl
any_cond p false x xs = refl

none_left : (g : Bool) → false ≡ (not g && false)
none_left true = refl
none_left false = refl

left_step : (g h b a : Bool) → (b ≡ true → g ≡ h) → ((not g && b) || (not h && a)) ≡ (not h && (b || a))
left_step true true true a same = refl
left_step false false true a same = refl
left_step true false true a same = absurd (false≢true (sym (same refl)))
left_step false true true a same = absurd (false≢true (same refl))
left_step true h false a same = refl
left_step false h false a same = refl

pub among-left : (gone rows : List FactRow) (r : FactRow) → is_among r (rows_left gone rows) ≡ (not (is_among r gone) && is_among r rows)
among-left gone [] r = none_left (is_among r gone)
among-left gone (x ∷ rows) r =
    any_cond (is_row r) (not (is_among x gone)) x (rows_left gone rows) ∙ ap (λ b. (not (is_among x gone) && is_row r x) || b) (among-left gone rows r)
    ∙ left_step (is_among x gone) (is_among r gone) (is_row r x) (is_among r rows) (λ e. ap (λ y. is_among y gone) (row_same r x e))

-- the rows that are left, and then those that are put
pub rows_after-is : (changes : FactChanges) (rows gone left new : List FactRow) → ((r : FactRow) → is_among r gone ≡ is_among r changes.gone) → left ≡ rows_left gone rows → new ≡ left ++ changes.put
    → set_of_rows new ≡ facts_after changes (set_of_rows rows)
rows_after-is changes rows gone left new same is pushed = same_sets (set_of_rows new) (facts_after changes (set_of_rows rows)) (λ r.
    has-set_of_rows new r ∙ ap (is_among r) pushed ∙ list_any-append (is_row r) left changes.put ∙ either_first (is_among r left) (is_among r changes.put)
    ∙ ap (λ b. is_among r changes.put || b) (ap (is_among r) is ∙ among-left gone rows r ∙ rw (same r, sym (has-set_of_rows rows r)) refl)
    ∙ sym (has-after changes (set_of_rows rows) r))
  where
    either_first : (a b : Bool) → (a || b) ≡ (b || a)
    either_first true true = refl
    either_first true false = refl
    either_first false true = refl
    either_first false false = refl

-- a search by halves among rows in order
other_row : (x y : FactRow) → is_eq (row_order y x) ≡ false → is_row x y ≡ false
other_row x y e = sym (row_is x y) ∙ (eq_by_cmp_equiv row_total).symm x y ∙ e

below_or_from : (k i : ℕ) → (k < i) ⊎ (i ≤ k)
below_or_from k zero = inr (omega arith)
below_or_from zero (suc i) = inl (omega arith)
below_or_from (suc k) (suc i) = elim (below_or_from k i) [ inl low ↦ inl (omega (arith, low)) | inr high ↦ inr (omega (arith, high)) ]

pub found_among : (x : FactRow) (rows : List FactRow) (found : Result ℕ ℕ) → IsSorted row_order rows → IsSearchInRange found (length rows) → IsBinarySearchResult (λ y. row_order y x) rows found → is_ok found ≡ is_among x rows
found_among x rows (Ok i) order bound found =
    sym (list_any_at (is_row x) rows i x bound (sym (row_is x (get_or rows i x)) ∙ (eq_by_cmp_equiv row_total).symm x (get_or rows i x) ∙ ap is_eq (found x)))
found_among x rows (Err i) order bound found =
    let parts = found (searchable_from_sorted row_total (λ (r : FactRow). r) rows x order) in
    sym (list_any_none (is_row x) rows (λ k d within. elim (below_or_from k i) [
      | inl low ↦ other_row x (get_or rows k d) (ap is_eq (parts.0 k d (omega arith) low))
      | inr high ↦ other_row x (get_or rows k d) (ap is_eq (parts.1 k d high within))
    ]))

-- Rows in order.

abbrev row_entry : FactRow → FactRow × ⊤
row_entry r = (r, tt)

put_first : (x : FactRow) (xs : List FactRow) → AllByRecursion (λ y. row_order x y ≡ Less) xs → put row_order x tt (map row_entry xs) ≡ map row_entry (x ∷ xs)
put_first x [] h = refl
put_first x (y ∷ ys) h = rw (put, h.0) refl

no_length : {A : Type 0} (es : List A) → length es ≡ 0 → es ≡ []
no_length [] e = refl
no_length (e ∷ es) is = absurd (omega (arith, is))

entries-sorted : (xs : List FactRow) → IsStrictlySortedBy row_order xs → entries (set_of_rows xs) ≡ map row_entry xs
unfolding IsStrictlySortedBy
entries-sorted [] h = no_length (entries (set_of_rows [])) (sym (len-entries (set_of_rows [])) ∙ len-empty row_order ⊤)
entries-sorted (x ∷ xs) h = entries-insert row_total (set_of_rows xs) x tt ∙ ap (put row_order x tt) (entries-sorted xs h.1) ∙ put_first x xs h.0

same_keys : (xs : List FactRow) → map (λ (e : FactRow × ⊤). e.0) (map row_entry xs) ≡ xs
same_keys [] = refl
same_keys (x ∷ xs) = ap (λ ys. x ∷ ys) (same_keys xs)

-- rows that strictly rise are those that their set gives
pub rows_in-sorted : (xs : List FactRow) → IsStrictlySortedBy row_order xs → rows_in (set_of_rows xs) ≡ xs
rows_in-sorted xs h = ap (map (λ (e : FactRow × ⊤). e.0)) (entries-sorted xs h) ∙ same_keys xs

-- rows without repeats
or_again : (b a : Bool) → (b || a) ≡ (b || (b || a))
or_again true a = refl
or_again false a = refl

module _ (same : FactRow → FactRow → Bool) (is : (x y : FactRow) → same x y ≡ is_row y x) where
  dedup_step : (b : Bool) (x y r : FactRow) (xs : List FactRow) → same y x ≡ b → is_among r (dedup_from same x xs) ≡ (is_row r x || is_among r xs) → is_among r (dedup_from same y xs) ≡ (is_row r y || is_among r xs)
      → is_among r (cond b (dedup_from same x xs) (x ∷ dedup_from same y xs)) ≡ (is_row r x || (is_row r y || is_among r xs))
  dedup_step true x y r xs e first next =
      let tied : y ≡ x = row_same x y (sym (is y x) ∙ e) in
      first ∙ or_again (is_row r x) (is_among r xs) ∙ ap (λ z. is_row r x || (is_row r z || is_among r xs)) (sym tied)
  dedup_step false x y r xs e first next = ap (λ b. is_row r x || b) next

  among-dedup_from : (x r : FactRow) (xs : List FactRow) → is_among r (dedup_from same x xs) ≡ (is_row r x || is_among r xs)
  among-dedup_from x r [] = refl
  among-dedup_from x r (y ∷ xs) = dedup_step (same y x) x y r xs refl (among-dedup_from x r xs) (among-dedup_from y r xs)

  pub among-dedup : (r : FactRow) (xs : List FactRow) → is_among r (dedup same xs) ≡ is_among r xs
  among-dedup r [] = refl
  among-dedup r (x ∷ xs) = among-dedup_from x r xs

  -- a sorted list without its repeats has the rows of the set
  pub rows_in-dedup : (rows sorted once : List FactRow) → ((r : FactRow) → is_among r sorted ≡ is_among r rows) → IsSorted row_order sorted → once ≡ dedup same sorted → once ≡ rows_in (set_of_rows rows)
  rows_in-dedup rows sorted once moved order deduped =
      let rising : IsStrictlySortedBy row_order once =
      subst (IsStrictlySortedBy row_order) (sym deduped) (IsStrictlySortedBy-dedup row_total (λ x y. is x y ∙ sym (row_is y x) ∙ (eq_by_cmp_equiv row_total).symm y x) sorted order) in
      let all : set_of_rows once ≡ set_of_rows rows = same_sets (set_of_rows once) (set_of_rows rows) (λ r.
      has-set_of_rows once r ∙ ap (is_among r) deduped ∙ among-dedup r sorted ∙ moved r ∙ sym (has-set_of_rows rows r)) in
      sym (rows_in-sorted once rising) ∙ ap rows_in all

-- The rows of a set.

keys_among : (ks : List FactRow) (r : FactRow) → list_any (eq_by_cmp row_order r) ks ≡ is_among r ks
keys_among [] r = refl
keys_among (x ∷ ks) r = rw (row_is r x, keys_among ks r) refl

pub among-rows_in : (facts : FactSet) (r : FactRow) → is_among r (rows_in facts) ≡ has facts r
among-rows_in facts r = sym (contains_key-keys facts r ∙ keys_among (rows_in facts) r)

pub set_of_rows-rows_in : (facts : FactSet) → set_of_rows (rows_in facts) ≡ facts
set_of_rows-rows_in facts = same_sets (set_of_rows (rows_in facts)) facts (λ r. has-set_of_rows (rows_in facts) r ∙ among-rows_in facts r)

halves : (a b : Bool) → T (a && b) → T a × T b
halves true b h = (tt, h)
halves false b h = absurd h

abbrev keys_of : List (FactRow × ⊤) → List FactRow
keys_of es = map (λ e. e.0) es

one_key_more : (r : FactRow) (e : FactRow × ⊤) (es : List (FactRow × ⊤)) (b : Bool) → is_row r e.0 ≡ b → times r (keys_of (e ∷ es)) ≡ bit b + times r (keys_of es)
one_key_more r e es b is = sum_by-cons (λ y. cond (is_row r y) 1 0) e.0 (keys_of es) ∙ ap (λ c. bit c + times r (keys_of es)) is

other_above : (x y : FactRow) (o : Ordering) → row_order x y ≡ o → T (is_lt o) → is_row x y ≡ false
other_above x y Less at h = sym (row_is x y) ∙ ap is_eq at
other_above x y Equal at h = absurd h
other_above x y Greater at h = absurd h

none_above : (x : FactRow) (es : List (FactRow × ⊤)) → T (below_all row_order x es) → times x (keys_of es) ≡ 0
none_above x [] h = refl
none_above x (e ∷ es) h =
    let both = halves (is_lt (row_order x e.0)) (below_all row_order x es) h in
    omega (arith, one_key_more x e es false (other_above x e.0 (row_order x e.0) refl both.0), none_above x es both.1)

key_times : (r : FactRow) (es : List (FactRow × ⊤)) → T (is_sorted row_order es) → times r (keys_of es) ≤ 1
key_times r [] h = omega arith
key_times r (e ∷ es) h =
    let both = halves (below_all row_order e.0 es) (is_sorted row_order es) h in
    at (is_row r e.0) refl both.0 (key_times r es both.1)
  where
    at : (b : Bool) → is_row r e.0 ≡ b → T (below_all row_order e.0 es) → times r (keys_of es) ≤ 1 → times r (keys_of (e ∷ es)) ≤ 1
    at true is low few = omega (arith, one_key_more r e es true is, subst (λ y. times y (keys_of es) ≡ 0) (row_same r e.0 is) (none_above e.0 es low))
    at false is low few = omega (arith, one_key_more r e es false is, few)

-- a set gives each of its rows once
pub times-rows_in : (facts : FactSet) (r : FactRow) → times r (rows_in facts) ≡ count_in facts r
times-rows_in facts r =
    let few : times r (rows_in facts) ≤ 1 = key_times r (entries facts) (entries_sorted facts) in
    sym (count-set_of_rows (rows_in facts) r few) ∙ ap (λ (s : FactSet). count_in s r) (set_of_rows-rows_in facts)
