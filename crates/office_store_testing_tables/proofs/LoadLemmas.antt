-- What the statement on a range of mail shows, and why it is never refused.
use Rattle.std.proofs.Common.{◌≡◌, ◌≤◌, ◌<◌, ◌+◌, inl, ℕ, suc, ℤ, pos, List, [], ◌∷◌, map, filter, length, Bool, true, false, cond, ◌&&◌, nat_eq, nat_le, Some, codes, refl, sym, ap, subst, ◌∙◌, arith}
use Rattle.std.proofs.lemmas.Bool.Decides.{nat_tests}
use Rattle.std.proofs.lemmas.List.{length-map}
use Rattle.std.proofs.lemmas.List.Sorted.{length_permutation}
use Rattle.std.specs.List.Sorted.{IsPermutation, IsNonDecreasingBy}
use Rattle.std.specs.Ordering.{is_eq, is_ge, is_le}
use Rattle.sqlite_tied.specs.Compute.{everything}
use Rattle.sqlite.specs.declared.types.Value.{Value}
use Rattle.sqlite.specs.declared.types.Value.TheVariants.{Null, Int, Real, Text, Blob}
use Rattle.sqlite.specs.Order.{Row, column, value_cmp}
use Rattle.sqlite_sql.specs.declared.ops.BinaryOp.TheVariants.{Compare}
use Rattle.sqlite_sql.specs.declared.ops.CompareOp.TheVariants.{Ge, Le}
use Rattle.sqlite.specs.Collation.TheVariants.{Binary}
use Rattle.sqlite.specs.Ops.{binary, is_true, from_truth}
use Rattle.sqlite.specs.Term.{col, op2}
use Rattle.sqlite.specs.Query.{Query}
use Rattle.sqlite.specs.Command.TheVariants.{Select}
use Rattle.sqlite.specs.Program.{overlay}
use Rattle.sqlite.specs.State.{State, Shown}
use Rattle.sqlite.specs.Effect.{Answers}
use Rattle.sqlite.specs.Listing.{understood, reads_listing}
use Rattle.sqlite.proofs.Callers.{IsPlain, command_of, reads_as}
use Rattle.sqlite_rules.specs.Lists.{Has}
use Rattle.sqlite_rules.proofs.ListLemmas.{has_filtered, has_kept, has_contained, contains_had}
use Rattle.sqlite_trees.proofs.ListLemmas.{filter-map, IsPermutation-filter}
use Rattle.office_store_keeper.specs.declared.values.Letter.{Letter}
use Rattle.office_store_testing_tables.specs.Layout.{office_schema}
use Rattle.office_store_testing_tables.specs.steps.Texts.{load_text}
use Rattle.office_store_testing_tables.specs.Tables.{number_in, bytes_in}
use Rattle.office_store_testing_tables.specs.steps.TableSteps.{AreLetters, AreApart, is_at, letter_columns, ShowsLetters, is_between, shown_letter, letter_entry, rises_from}
use Rattle.office_store_testing_tables.proofs.Compiled.{plain_query, equals}
use Rattle.office_store_testing_tables.proofs.Answered.{passes, plain_answer}
use Rattle.office_store_testing_tables.proofs.LetterFacts.{letter_parts, parts_by, number_is, int_is}
use Rattle.office_store_testing_tables.proofs.MailLemmas.{equal_is, filter_same, has_permuted}
use Rattle.office_store_testing_tables.proofs.EntryValues.{has_map}
use Rattle.office_store_testing_tables.proofs.LoadFacts.{both, reaches, same_number, between_is}

-- ---- the statement

abbrev pub load_query : Query
load_query = plain_query 1 (equals (col 1 1) (col 0 0) ∷ op2 (Compare Ge Binary) (col 1 2) (col 0 1) ∷ op2 (Compare Le Binary) (col 1 2) (col 0 2) ∷ []) (col 1 1 ∷ col 1 2 ∷ col 1 3 ∷ [])

load_is : command_of (understood office_schema load_text) ≡ Select (record { lets = []; body = load_query }) (codes "sender" ∷ codes "number" ∷ codes "body" ∷ [])
unfolding understood everything
load_is = refl

pub load_plain : IsPlain (understood office_schema load_text) × (reads_listing office_schema load_text ≡ false)
unfolding understood everything
load_plain = ((refl, refl), refl)

two_truths : (a b : Bool) → (is_true (from_truth (Some a)) && (is_true (from_truth (Some b)) && true)) ≡ (a && b)
two_truths true true = refl
two_truths true false = refl
two_truths false b = refl

-- SQL's >= and <= at integers
range_is : (v : Value) (m n : ℤ) → (is_true (binary (Compare Ge Binary) v (Int m)) && (is_true (binary (Compare Le Binary) v (Int n)) && true)) ≡ (is_ge (value_cmp v (Int m)) && is_le (value_cmp v (Int n)))
unfolding binary value_cmp
range_is Null m n = refl
range_is (Int k) m n = two_truths (is_ge (value_cmp (Int k) (Int m))) (is_le (value_cmp (Int k) (Int n)))
range_is (Real x) m n = two_truths (is_ge (value_cmp (Real x) (Int m))) (is_le (value_cmp (Real x) (Int n)))
range_is (Text t) m n = two_truths (is_ge (value_cmp (Text t) (Int m))) (is_le (value_cmp (Text t) (Int n)))
range_is (Blob b) m n = two_truths (is_ge (value_cmp (Blob b) (Int m))) (is_le (value_cmp (Blob b) (Int n)))

between_passes : (sender from to : ℕ) (row : Row) → passes load_query.filter (Int (pos sender) ∷ Int (pos from) ∷ Int (pos to) ∷ []) row ≡ is_between sender from to row
between_passes sender from to row = rw (equal_is (column row 1) (pos sender)) (ap (λ b. is_eq (value_cmp (column row 1) (Int (pos sender))) && b) (range_is (column row 2) (pos from) (pos to)))

pub shows_between : (sender from to : ℕ) (old new : State) (rows : List Row) → old.now.schema ≡ office_schema → Shown load_text (Int (pos sender) ∷ Int (pos from) ∷ Int (pos to) ∷ []) old new rows
    → IsPermutation (map letter_columns (filter (is_between sender from to) (old.now.trees 1))) rows
shows_between sender from to old new rows has h =
    let params = Int (pos sender) ∷ Int (pos from) ∷ Int (pos to) ∷ [] in
    let got : Answers old.now (record { lets = []; body = load_query }) params rows = reads_as load_text params old new office_schema has _ load_is load_plain.0 load_plain.1 rows h in
    let answer = plain_answer 1 load_query.filter load_query.project (overlay old.now.trees []) params rows (got.answer Null) in
    subst (λ l. IsPermutation (map letter_columns l) rows) (filter_same _ _ (between_passes sender from to) (old.now.trees 1)) answer

-- each row that is shown reads
pub shows_letters : (table : List Row) (sender from to : ℕ) (rows : List Row) → IsPermutation (map letter_columns (filter (is_between sender from to) table)) rows → AreLetters table → to < 4_294_967_296 → ShowsLetters sender rows
shows_letters table sender from to rows same letters fits row there =
    let c = has_map letter_columns (filter (is_between sender from to) table) row (has_permuted _ rows row same (has_contained rows row there)) in
    let f = has_filtered (is_between sender from to) table c.0 c.1 in
    let l = letters c.0 f.0 in
    let e = letter_parts c.0 l.0.0 l.0.1 l.1 in
    let b = both (nat_eq l.0.0.0 sender) (nat_le from l.0.0.1 && nat_le l.0.0.1 to) (sym (between_is sender from to c.0 l.0.0 l.0.1 l.1) ∙ f.1) in
    let within = reaches l.0.0.1 to (both (nat_le from l.0.0.1) (nat_le l.0.0.1 to) b.1).1 in
    (l.0.0.1, l.0.1, omega (arith, within, fits), c.2 ∙ rw (e.0, e.1, e.2, same_number l.0.0.0 sender b.0) refl)

-- ---- no number has two letters

fewer : {X : Type 0} (p q : X → Bool) (xs : List X) → length (filter p (filter q xs)) ≤ length (filter p xs)
fewer p q [] = omega arith
fewer {X} p q (x ∷ xs) = go (p x) (q x) refl (fewer p q xs)
  where
    go : (a b : Bool) → p x ≡ a → length (filter p (filter q xs)) ≤ length (filter p xs) → length (filter p (cond b (x ∷ filter q xs) (filter q xs))) ≤ length (cond a (x ∷ filter p xs) (filter p xs))
    go true true is h = rw is (omega (arith, h))
    go true false is h = omega (arith, h)
    go false true is h = rw is h
    go false false is h = h

-- a shown row of this sender and number
abbrev here : ℕ → ℕ → Row → Bool
here sender number row = is_eq (value_cmp (column row 0) (Int (pos sender))) && is_eq (value_cmp (column row 1) (Int (pos number)))

here_is : (sender number : ℕ) (row : Row) (letter : Letter) → shown_letter row ≡ Some (letter_entry sender letter) → nat_eq letter.number number ≡ here sender number row
unfolding shown_letter
here_is sender number row letter h =
    let e = parts_by (number_in (column row 0)) (number_in (column row 1)) (bytes_in (column row 2)) (sender, letter.number) letter.text h in
    let own : nat_eq sender sender ≡ true = grind (arith, nat_tests) in
    rw (number_is (column row 0) sender e.0, number_is (column row 1) letter.number e.1) (rw (int_is sender sender, int_is letter.number number, own) refl)

as_many_here : (sender number : ℕ) (rows : List Row) (letters : List Letter) → map shown_letter rows ≡ map Some (map (letter_entry sender) letters) → length (filter (λ (l : Letter). nat_eq l.number number) letters) ≡ length (filter (here sender number) rows)
as_many_here sender number [] [] h = refl
as_many_here sender number [] (l ∷ letters) h = absurd (let e = h in cc)
as_many_here sender number (r ∷ rows) [] h = absurd (let e = h in cc)
as_many_here sender number (r ∷ rows) (l ∷ letters) h =
    let first : shown_letter r ≡ Some (letter_entry sender l) = cc in
    let rest : map shown_letter rows ≡ map Some (map (letter_entry sender) letters) = cc in
    go (nat_eq l.number number) (here sender number r) (here_is sender number r l first) (as_many_here sender number rows letters rest)
  where
    go : (a b : Bool) → a ≡ b → length (filter (λ (x : Letter). nat_eq x.number number) letters) ≡ length (filter (here sender number) rows)
        → length (cond a (l ∷ filter (λ (x : Letter). nat_eq x.number number) letters) (filter (λ (x : Letter). nat_eq x.number number) letters)) ≡ length (cond b (r ∷ filter (here sender number) rows) (filter (here sender number) rows))
    go true true is more = omega (arith, more)
    go true false is more = absurd (let e = is in cc)
    go false true is more = absurd (let e = is in cc)
    go false false is more = more

pub few_letters : (table : List Row) (sender from to : ℕ) (rows : List Row) (letters : List Letter) → IsPermutation (map letter_columns (filter (is_between sender from to) table)) rows
    → map shown_letter rows ≡ map Some (map (letter_entry sender) letters) → AreApart table → (number : ℕ) → length (filter (λ (l : Letter). nat_eq l.number number) letters) ≤ 1
few_letters table sender from to rows letters same named apart number =
    let shown = filter (is_between sender from to) table in
    let moved = length_permutation _ _ (IsPermutation-filter (here sender number) (map letter_columns shown) rows same) in
    let back : length (filter (here sender number) (map letter_columns shown)) ≡ length (filter (is_at sender number) shown) = ap length (filter-map (here sender number) letter_columns shown) ∙ length-map _ _ in
    omega (arith, as_many_here sender number rows letters named, moved, back, fewer (is_at sender number) (is_between sender from to) table, apart sender number)

-- ---- letters in order

not_empty : {X : Type 0} (xs : List X) (x : X) → Has xs x → 1 ≤ length xs
not_empty [] x there = absurd there
not_empty (y ∷ xs) x there = omega arith

all_of : (a b : Bool) → a ≡ true → b ≡ true → (a && b) ≡ true
all_of a b p q = rw (p, q) refl

module _ (l : Letter) (letters : List Letter) (up : IsNonDecreasingBy (λ (x : Letter). x.number) (l ∷ letters)) (few : (number : ℕ) → length (filter (λ (x : Letter). nat_eq x.number number) (l ∷ letters)) ≤ 1) where
  abbrev Of : ℕ → Letter → Bool
  Of number x = nat_eq x.number number

  few_later : (number : ℕ) → length (filter (Of number) letters) ≤ 1
  few_later number = go (nat_eq l.number number) (few number)
    where
      go : (b : Bool) → length (cond b (l ∷ filter (Of number) letters) (filter (Of number) letters)) ≤ 1 → length (filter (Of number) letters) ≤ 1
      go true h = omega (arith, h)
      go false h = h

  later_above : (letter : Letter) → Has letters letter → l.number + 1 ≤ letter.number
  later_above letter there =
      let k = contains_had letters letter there in
      let at_least : l.number ≤ letter.number = subst (λ (x : Letter). l.number ≤ x.number) k.2 (up 0 (suc k.0) letter (omega arith) (omega (arith, k.1))) in
      go (nat_eq letter.number l.number) refl at_least
    where
      own : nat_eq l.number l.number ≡ true
      own = grind (arith, nat_tests)

      go : (b : Bool) → nat_eq letter.number l.number ≡ b → l.number ≤ letter.number → l.number + 1 ≤ letter.number
      go true is low =
          let both : length (l ∷ filter (Of l.number) letters) ≤ 1 = subst (λ b. length (cond b (l ∷ filter (Of l.number) letters) (filter (Of l.number) letters)) ≤ 1) own (few l.number) in
          absurd (omega (arith, both, not_empty (filter (Of l.number) letters) letter (has_kept (Of l.number) letters letter there is)))
      go false is low = grind (arith, nat_tests)

pub rises : (least : ℕ) (letters : List Letter) → IsNonDecreasingBy (λ (x : Letter). x.number) letters → ((number : ℕ) → length (filter (λ (x : Letter). nat_eq x.number number) letters) ≤ 1) → ((letter : Letter) → Has letters letter → least ≤ letter.number)
    → rises_from least letters ≡ true
rises least [] up few above = refl
rises least (l ∷ letters) up few above =
    let first : least ≤ l.number = above l (inl refl) in
    all_of (nat_le least l.number) (rises_from (l.number + 1) letters) (grind (arith, nat_tests))
    (rises (l.number + 1) letters (λ i j d low within. up (suc i) (suc j) d (omega (arith, low)) (omega (arith, within))) (few_later l letters up few) (later_above l letters up few))

-- sorted letters of which no two have one number rise
pub sorted_rises : (letters sorted : List Letter) → IsPermutation letters sorted → IsNonDecreasingBy (λ (x : Letter). x.number) sorted → ((number : ℕ) → length (filter (λ (x : Letter). nat_eq x.number number) letters) ≤ 1) → rises_from 0 sorted ≡ true
sorted_rises letters sorted order up few =
    rises 0 sorted up (λ number. omega (arith, few number, length_permutation _ _ (IsPermutation-filter (λ (x : Letter). nat_eq x.number number) letters sorted order))) (λ letter there. omega arith)
