-- What the statement on the least number of a sender shows, and what its row says.
use Rattle.std.proofs.Common.{◌≡◌, ◌≤◌, ◌<◌, inl, inr, ℕ, ℤ, pos, List, [], ◌∷◌, map, filter, filter_map, take, Bool, true, false, ◌&&◌, nat_eq, nat_le, nat_lt, is_some, None, Some, Option, Ok, Err, Result, IfOk, codes, refl, sym, ap, subst, ◌∙◌, arith}
use Rattle.std.proofs.lemmas.Bool.Decides.{nat_tests}
use Rattle.std.proofs.lemmas.Cmp.{tied_itself}
use Rattle.std.proofs.lemmas.List.Sorted.{searchable_from_sorted, IsPermutation-sym}
use Rattle.std.specs.Cmp.{IsTotalOrder}
use Rattle.std.specs.List.Sorted.{IsPermutation, IsSorted}
use Rattle.std.specs.FinMap.{get, get-from_entries}
use Rattle.std.specs.declared.cmp.Ordering.{Ordering}
use Rattle.std.specs.declared.cmp.Ordering.TheVariants.{Less, Equal, Greater}
use Rattle.std.specs.Ordering.{is_eq, is_ge, is_lt, ordering_index}
use Rattle.sqlite_tied.specs.Compute.{everything}
use Rattle.sqlite_tied.proofs.RuleLemmas.{and_true}
use Rattle.sqlite.specs.declared.types.Value.{Value}
use Rattle.sqlite.specs.declared.types.Value.TheVariants.{Null, Int, Real, Text, Blob}
use Rattle.sqlite.specs.Order.{Row, column, value_cmp}
use Rattle.sqlite_value.proofs.OrderLemmas.{value_cmp-Int, then-Equal}
use Rattle.sqlite_value.specs.Keys.{ascending}
use Rattle.sqlite_sql.specs.declared.ops.BinaryOp.TheVariants.{Compare}
use Rattle.sqlite_sql.specs.declared.ops.CompareOp.TheVariants.{Ge}
use Rattle.sqlite_sql.proofs.QueryLemmas.{output_cmp_total}
use Rattle.sqlite.specs.Collation.TheVariants.{Binary}
use Rattle.sqlite.specs.Ops.{binary, is_true}
use Rattle.sqlite.specs.Term.{lit, col, op2}
use Rattle.sqlite.specs.Query.{Query, Output, output, output_cmp, IsAnswer}
use Rattle.sqlite.specs.Command.TheVariants.{Select}
use Rattle.sqlite.specs.Program.{overlay}
use Rattle.sqlite.specs.State.{State, Shown}
use Rattle.sqlite.specs.Effect.{Answers}
use Rattle.sqlite.specs.Listing.{understood, reads_listing}
use Rattle.sqlite.proofs.Callers.{IsPlain, command_of, reads_as}
use Rattle.sqlite_rules.specs.Lists.{Has}
use Rattle.sqlite_rules.proofs.ListLemmas.{has_filtered, has_kept, contains_had}
use Rattle.office_mail.specs.Kept.{Place}
use Rattle.office_mail.proofs.KeptFacts.{places_total, exact_places}
use Rattle.office_store_keeper.specs.Content.{IsNextNumber}
use Rattle.office_store_testing_tables.specs.Layout.{office_schema}
use Rattle.office_store_testing_tables.specs.steps.Texts.{next_text}
use Rattle.office_store_testing_tables.specs.Tables.{letter_in, kept_rows}
use Rattle.office_store_testing_tables.specs.steps.TableSteps.{AreSmall, IsCrowded, IsOnlyNumber, ShowsLeast, is_from, letter_columns}
use Rattle.office_store_testing_tables.proofs.Compiled.{plain_query, equals}
use Rattle.office_store_testing_tables.proofs.Answered.{passes, picked}
use Rattle.office_store_testing_tables.proofs.LetterFacts.{letter_parts, letter_of_parts, int_is}
use Rattle.office_store_testing_tables.proofs.MailLemmas.{equal_is, truth_is, filter_same, has_permuted, empty_of, as_many}
use Rattle.office_store_testing_tables.proofs.EntryMaps.{from_first, has_first}
use Rattle.office_store_testing_tables.proofs.EntryValues.{read_has, has_read, has_map, map_has}
use Rattle.office_store_testing_tables.proofs.LoadFacts.{both, reaches, same_number, int_from}

-- ---- the statement

abbrev pub next_query : Query
next_query =
    let plain = plain_query 1 (equals (col 1 1) (col 0 0) ∷ op2 (Compare Ge Binary) (col 1 2) (col 0 1) ∷ []) (col 1 1 ∷ col 1 2 ∷ col 1 3 ∷ []) in
    record plain { order = (col 1 2, ascending Binary) ∷ []; limit = lit (Int (pos 1)) }

next_is : command_of (understood office_schema next_text) ≡ Select (record { lets = []; body = next_query }) (codes "sender" ∷ codes "number" ∷ codes "body" ∷ [])
unfolding understood everything
next_is = refl

pub next_plain : IsPlain (understood office_schema next_text) × (reads_listing office_schema next_text ≡ false)
unfolding understood everything
next_plain = ((refl, refl), refl)

-- SQL's >= at an integer
from_is : (v : Value) (m : ℤ) → (is_true (binary (Compare Ge Binary) v (Int m)) && true) ≡ is_ge (value_cmp v (Int m))
unfolding binary value_cmp
from_is Null m = refl
from_is (Int k) m = and_true _ ∙ truth_is _
from_is (Real x) m = and_true _ ∙ truth_is _
from_is (Text t) m = and_true _ ∙ truth_is _
from_is (Blob b) m = and_true _ ∙ truth_is _

abbrev given : ℕ → ℕ → Row
given sender from = Int (pos sender) ∷ Int (pos from) ∷ []

from_passes : (sender from : ℕ) (row : Row) → passes next_query.filter (given sender from) row ≡ is_from sender from row
from_passes sender from row = rw (equal_is (column row 1) (pos sender)) (ap (λ b. is_eq (value_cmp (column row 1) (Int (pos sender))) && b) (from_is (column row 2) (pos from)))

-- ---- the first of what is sorted

not_below : (o : Ordering) → 1 ≤ ordering_index o → is_lt o ≡ false
not_below Less h = absurd (omega (arith, h))
not_below Equal h = refl
not_below Greater h = refl

-- nothing in a sorted list is below its first
first_is_least : {X : Type 0} (R : X → X → Ordering) → IsTotalOrder R → (x : X) (xs : List X) → IsSorted R (x ∷ xs) → (y : X) → Has (x ∷ xs) y → is_lt (R y x) ≡ false
first_is_least R total x xs up y there =
    let k = contains_had (x ∷ xs) y there in
    let level : ordering_index (R x x) ≡ 1 = ap ordering_index (tied_itself total x) in
    let above : ordering_index (R x x) ≤ ordering_index (R y x) =
    subst (λ z. ordering_index (R x x) ≤ ordering_index (R z x)) k.2 (searchable_from_sorted total (λ z. z) (x ∷ xs) x up 0 k.0 y (omega arith) k.1) in
    not_below (R y x) (omega (arith, level, above))

module _ (sender from : ℕ) (table : List Row) where
  abbrev those : List Row
  those = filter (is_from sender from) table

  abbrev out_of : Row → Output
  out_of row = output next_query (given sender from ∷ row ∷ [])

  none_passes : those ≡ [] → (row : Row) → Has table row → is_from sender from row ≡ false
  none_passes none row there = go (is_from sender from row) refl
    where
      go : (b : Bool) → is_from sender from row ≡ b → b ≡ false
      go false is = refl
      go true is = absurd (subst (λ (l : List Row). Has l row) none (has_kept (is_from sender from) table row there is))

  -- what ORDER BY compares
  numbers_compared : (a b : Row) → is_lt (output_cmp next_query (out_of a) (out_of b)) ≡ is_lt (value_cmp (column a 2) (column b 2))
  numbers_compared a b = ap is_lt (then-Equal _)

  least_shown : (ordered : List Output) (rows : List Row) → IsPermutation (map out_of those) ordered → IsSorted (output_cmp next_query) ordered → rows ≡ take 1 (map (λ (o : Output). o.1) ordered) → ShowsLeast sender from table rows
  least_shown [] rows same up is = inl (is, none_passes (empty_of those (as_many out_of those [] same)))
  least_shown (o ∷ os) rows same up is =
      let r = has_map out_of those o (has_permuted (map out_of those) (o ∷ os) o same (inl refl)) in
      let f = has_filtered (is_from sender from) table r.0 r.1 in
      inr (
        r.0,
        record {
          stands = f.0;
          passes = f.1;
          least = λ other there passes.
              let shown = has_permuted (o ∷ os) (map out_of those) (out_of other) (IsPermutation-sym _ _ same) (map_has out_of those other (has_kept (is_from sender from) table other there passes)) in
              sym (numbers_compared other r.0) ∙ ap (λ (x : Output). is_lt (output_cmp next_query (out_of other) x)) (sym r.2) ∙ first_is_least (output_cmp next_query) (output_cmp_total next_query) o os up (out_of other) shown;
        },
        is ∙ ap (λ (x : Output). x.1 ∷ []) r.2,
      )

pub shows_least : (sender from : ℕ) (old new : State) (rows : List Row) → old.now.schema ≡ office_schema → Shown next_text (Int (pos sender) ∷ Int (pos from) ∷ []) old new rows → ShowsLeast sender from (old.now.trees 1) rows
shows_least sender from old new rows has h =
    let params = given sender from in
    let got : Answers old.now (record { lets = []; body = next_query }) params rows = reads_as next_text params old new office_schema has _ next_is next_plain.0 next_plain.1 rows h in
    let answer : IsAnswer next_query (overlay old.now.trees []) params rows = got.answer Null in
    let table = old.now.trees 1 in
    let env = λ (r : Row). params ∷ r ∷ [] in
    let kept : answer.kept ≡ map (output next_query) (map env (filter (passes next_query.filter params) table)) =
    answer.distinct ∙ ap (map (output next_query)) answer.grouped ∙ ap (map (output next_query)) (picked (passes next_query.filter params) env table) in
    let outs : answer.kept ≡ map (out_of sender from table) (filter (is_from sender from) table) =
    kept ∙ mapped env (output next_query) (filter (passes next_query.filter params) table) ∙ ap (map (out_of sender from table)) (filter_same _ _ (from_passes sender from) table) in
    least_shown sender from table answer.ordered rows (subst (λ l. IsPermutation l answer.ordered) outs answer.same) answer.sorted answer.shown
  where
    mapped : {A B C : Type 0} (f : A → B) (g : B → C) (xs : List A) → map g (map f xs) ≡ map (λ x. g (f x)) xs
    mapped f g [] = refl
    mapped f g (x ∷ xs) = ap (λ l. g (f x) ∷ l) (mapped f g xs)

-- ---- what the row says

-- SQL's comparisons at a row of mail are those of numbers
pub from_of : (sender from : ℕ) (row : Row) (p : Place) (text : List ℕ) → letter_in row ≡ Some (p, text) → is_from sender from row ≡ (nat_eq p.0 sender && nat_le from p.1)
from_of sender from row p text h =
    let e = letter_parts row p text h in
    rw (e.0, e.1) (rw (int_is p.0 sender, int_from p.1 from) refl)

int_below : (a b : ℕ) → is_lt (value_cmp (Int (pos a)) (Int (pos b))) ≡ nat_lt a b
int_below a b = ap is_lt (value_cmp-Int (pos a) (pos b)) ∙ grind (arith, nat_tests)

reached : (sender from n : ℕ) → from ≤ n → (nat_eq sender sender && nat_le from n) ≡ true
reached sender from n low = grind (arith, nat_tests)

not_lower : (a b : ℕ) → nat_lt a b ≡ false → b ≤ a
not_lower a b h = grind (arith, nat_tests)

first_in : {X : Type 0} (x y : X) (xs : List X) → x ∷ xs ≡ y ∷ [] → x ≡ y
first_in x y xs h = cc

none_unless : {A : Type 0} (o : Option A) → ((x : A) → o ≡ Some x → ⊥) → o ≡ None
none_unless None never = refl
none_unless (Some x) never = absurd (never x refl)

module _ (table : List Row) (sender from : ℕ) where
  -- the row of what is kept passes
  kept_row : (n : ℕ) (text : List ℕ) → from ≤ n → get (kept_rows table) (sender, n) ≡ Some text → (row : Row) × Has table row × (letter_in row ≡ Some ((sender, n), text)) × (is_from sender from row ≡ true)
  kept_row n text low stands =
      let has = from_first places_total exact_places (filter_map letter_in table) (sender, n) text (sym (get-from_entries places_total (filter_map letter_in table) (sender, n)) ∙ stands) in
      let r = read_has letter_in table ((sender, n), text) has in
      (r.0, r.1, r.2, from_of sender from r.0 (sender, n) text r.2 ∙ reached sender from n low)

  pub row_kept : (row : Row) (p : Place) (text : List ℕ) → Has table row → letter_in row ≡ Some (p, text) → is_some (get (kept_rows table) p) ≡ true
  row_kept row p text there says =
      ap is_some (get-from_entries places_total (filter_map letter_in table) p) ∙ has_first places_total exact_places (filter_map letter_in table) p text (has_read letter_in table row (p, text) there says)

  next_from : (o : Option ℕ) (rows : List Row) → ShowsLeast sender from table rows → IsOnlyNumber sender o rows → IsNextNumber (kept_rows table) sender from o
  next_from None rows (inl shows) only = λ n low. none_unless (get (kept_rows table) (sender, n)) (λ text stands.
      let r = kept_row n text low stands in
      let fails : true ≡ false = sym r.3 ∙ shows.1 r.0 r.1 in
      cc)
  next_from None rows (inr shows) only = absurd (let e = sym only ∙ shows.2 in cc)
  next_from (Some n) rows (inl shows) only = absurd (let e = sym only.1.1 ∙ shows.0 in cc)
  next_from (Some n) rows (inr shows) only =
      let row = shows.0 in
      let same : only.1.0 ≡ letter_columns row = first_in only.1.0 (letter_columns row) [] (sym only.1.1 ∙ shows.2) in
      let says = letter_of_parts row sender n only.0 (ap (λ r. column r 0) (sym same) ∙ only.1.2) (ap (λ r. column r 1) (sym same) ∙ only.1.3) (ap (λ r. column r 2) (sym same) ∙ only.1.4) in
      let least = shows.1 in
      let parts = letter_parts row (sender, n) only.0 says in (
        reaches from n (both (nat_eq sender sender) (nat_le from n) (sym (from_of sender from row (sender, n) only.0 says) ∙ least.passes)).1,
        row_kept row (sender, n) only.0 least.stands says,
        λ m low high. none_unless (get (kept_rows table) (sender, m)) (λ text stands.
            let r = kept_row m text low stands in
            let other = letter_parts r.0 (sender, m) text r.2 in
            let lower : nat_lt m n ≡ false = sym (int_below m n) ∙ rw (← other.1, ← parts.1) (least.least r.0 r.1 r.3) in
            omega (arith, not_lower m n lower, high)),
      )

  pub next_found : {F : Type 0} (result : Result (Option ℕ) F) (rows : List Row) → ShowsLeast sender from table rows → IfOk result (λ o. IsOnlyNumber sender o rows) → IfOk result (λ o. IsNextNumber (kept_rows table) sender from o)
  next_found (Ok o) rows shows only = next_from o rows shows only
  next_found (Err e) rows shows only = tt

  -- where the row that is shown doesn't read, the mail isn't as an office keeps it
  pub next_crowded : (rows : List Row) → ShowsLeast sender from table rows → (rows ≡ [] → ⊥) → ((number : ℕ) (text : List ℕ) → number < 4_294_967_296 → rows ≡ (Int (pos sender) ∷ Int (pos number) ∷ Blob text ∷ []) ∷ [] → ⊥) → AreSmall (kept_rows table)
      → IsCrowded table
  next_crowded rows (inl shows) none one small letters apart = none shows.0
  next_crowded rows (inr shows) none one small letters apart =
      let row = shows.0 in
      let l = letters row shows.1.stands in
      let e = letter_parts row l.0.0 l.0.1 l.1 in
      let here = same_number l.0.0.0 sender (both (nat_eq l.0.0.0 sender) (nat_le from l.0.0.1) (sym (from_of sender from row l.0.0 l.0.1 l.1) ∙ shows.1.passes)).0 in
      one l.0.0.1 l.0.1 (small l.0.0 (row_kept row l.0.0 l.0.1 shows.1.stands l.1)) (shows.2 ∙ ap (λ x. x ∷ []) (rw (e.0, e.1, e.2, here) refl))
