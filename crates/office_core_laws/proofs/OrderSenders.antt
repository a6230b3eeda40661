-- What an order states for each sender of a setup.
use Rattle.std.proofs.Common.{◌≡◌, ℕ, zero, suc, ◌+◌, ◌<◌, ◌≤◌, ◌==◌, ◌&&◌, ◌||◌, Bool, true, false, not, cond, nat_le, List, [], ◌∷◌, length, map, Some, refl, sym, ap, ◌∙◌, subst, arith, eqb-true}
use Rattle.std.specs.Cmp.{first_so, second_so}
use Rattle.std.specs.Cmp.Derive.{both_true}
use Rattle.std.specs.List.{AllByRecursion, count_by, list_all, list_any, range_with_len, slice_index_or}
use Rattle.std.specs.Str.{bytes_eq}
use Rattle.std.proofs.lemmas.Bool.{false≢true}
use Rattle.std.proofs.lemmas.Bool.Decides.{nat_tests}
use Rattle.std.proofs.lemmas.List.Sums.{sum_by-cons}
use Rattle.std.proofs.lemmas.Slice.Eq.{bytes_eq-Decides}
use Rattle.deb_control.specs.Relations.{is_qualifier_char}
use Rattle.office_mail_setup.specs.declared.setup.Role.{Role}
use Rattle.office_mail_setup.specs.declared.setup.Role.TheVariants.{Upload, Build, Bugs, Release, Runs}
use Rattle.office_mail_setup.specs.declared.setup.Sender.{Sender}
use Rattle.office_mail_setup.specs.Lists.{Lists}
use Rattle.office_mail_setup.specs.Setup.{is_sender_name, names_of, place_of_role, same_role}
use Rattle.office_mail.specs.Covers.{is_named, may_cover, number_for}
use Rattle.office_mail.specs.Read.{sender_from}
use Rattle.testing_rules_items.specs.Distinct.{is_distinct}
use Rattle.office_core_laws.proofs.OrderWords.{IsWord}
use Rattle.office_core_laws.proofs.OrderCovers.{MayList, Pair}

-- Tests.

both_false : (a b : Bool) → (a || b) ≡ false → (a ≡ false) × (b ≡ false)
both_false true b h = absurd (false≢true (sym h))
both_false false b h = (refl, h)

or_first : (a b : Bool) → a ≡ true → (a || b) ≡ true
or_first a b h = ap (λ x. x || b) h

or_second : (a b : Bool) → b ≡ true → (a || b) ≡ true
or_second true b h = refl
or_second false b h = h

not_so : (b : Bool) → not b ≡ true → b ≡ false
not_so true h = absurd (false≢true h)
not_so false h = refl

same_text : (a : List ℕ) → bytes_eq a a ≡ true
same_text a = (bytes_eq-Decides a a).1 refl

turned_at : (b : Bool) (x y : List ℕ) → bytes_eq y x ≡ b → bytes_eq x y ≡ false → bytes_eq y x ≡ false
turned_at true x y e h = absurd (false≢true (sym h ∙ (bytes_eq-Decides x y).1 (sym ((bytes_eq-Decides y x).0 e))))
turned_at false x y e h = e

turned : (x y : List ℕ) → bytes_eq x y ≡ false → bytes_eq y x ≡ false
turned x y h = turned_at (bytes_eq y x) x y refl h

none_at : {A : Type 0} (test : A → Bool) (xs : List A) (i : ℕ) (d : A) → list_any test xs ≡ false → i < length xs → test (slice_index_or xs i d) ≡ false
none_at test [] i d h low = absurd (omega (arith, low))
none_at test (x ∷ xs) zero d h low = (both_false (test x) (list_any test xs) h).0
none_at test (x ∷ xs) (suc i) d h low = none_at test xs i d (both_false (test x) (list_any test xs) h).1 (omega (arith, low))

-- Names of senders.

letter_is : (c : ℕ) → nat_le 97 c ≡ true → nat_le c 122 ≡ true → is_qualifier_char c ≡ true
letter_is c l h = grind (arith, nat_tests)

upto : (n k : ℕ) → nat_le n k ≡ true → n ≤ k
upto n k h = grind (arith, nat_tests)

pub name_word : (name : List ℕ) → is_sender_name name ≡ true → IsWord name × (length name ≤ 32)
unfolding is_sender_name
name_word [] h = absurd (false≢true h)
name_word (c ∷ cs) h =
    let low : Bool = nat_le 97 c in
    let high : Bool = nat_le c 122 in
    let rest : Bool = list_all is_qualifier_char cs in
    let few : Bool = nat_le (length cs) 31 in
    let three : (low && high && rest) ≡ true = first_so (low && high && rest) few h in
    let two : (low && high) ≡ true = first_so (low && high) rest three in
    let above : nat_le 97 c ≡ true = first_so low high two in
    let below : nat_le c 122 ≡ true = second_so low high two in
    let first : is_qualifier_char c ≡ true = letter_is c above below in
    let short : length cs ≤ 31 = upto (length cs) 31 (second_so (low && high && rest) few h) in
    (record { chars = both_true first (second_so (low && high) rest three); some = omega arith }, omega (arith, short))

-- The sender of run orders.

of_runs : (r : Role) → same_role Runs r ≡ true → r ≡ Runs
of_runs Upload e = absurd (cc (e))
of_runs Build e = absurd (cc (e))
of_runs Bugs e = absurd (cc (e))
of_runs Release e = absurd (cc (e))
of_runs Runs e = refl

abbrev sends_runs : Sender → Bool
sends_runs s = same_role Runs s.role

count_by-cons : (test : Sender → Bool) (x : Sender) (xs : List Sender) → count_by test (x ∷ xs) ≡ cond (test x) 1 0 + count_by test xs
count_by-cons test = sum_by-cons (λ (s : Sender). cond (test s) 1 0)

abbrev runs_place : List Sender → ℕ
runs_place = place_of_role Runs

place_at : (b : Bool) (x : Sender) (xs : List Sender) → sends_runs x ≡ b → (1 ≤ count_by sends_runs xs → runs_place xs < length xs) → 1 ≤ cond b 1 0 + count_by sends_runs xs → cond b 0 (runs_place xs + 1) < length (x ∷ xs)
place_at true x xs e more h = omega arith
place_at false x xs e more h = let rest = more (omega (arith, h)) in omega (arith, rest)

pub place_within : (xs : List Sender) → 1 ≤ count_by sends_runs xs → runs_place xs < length xs
place_within [] h = absurd (omega (arith, h))
place_within (x ∷ xs) h = place_at (sends_runs x) x xs refl (place_within xs) (subst (λ (n : ℕ). 1 ≤ n) (count_by-cons sends_runs x xs) h)

abbrev name_in : List Sender → ℕ → List ℕ
name_in xs i = slice_index_or (names_of xs) i []

named_length : (xs : List Sender) → length (names_of xs) ≡ length xs
named_length [] = refl
named_length (x ∷ xs) = let e = named_length xs in omega (arith, e)

named_at : (b : Bool) (k : ℕ) (x : Sender) (xs : List Sender) → sends_runs x ≡ b → list_any (bytes_eq x.name) (names_of xs) ≡ false
    → (runs_place xs < length xs → sender_from (k + 1) (name_in xs (runs_place xs)) xs ≡ Some ((k + 1) + runs_place xs, Runs))
    → cond b 0 (runs_place xs + 1) < length (x ∷ xs)
    → sender_from k (name_in (x ∷ xs) (cond b 0 (runs_place xs + 1))) (x ∷ xs) ≡ Some (k + cond b 0 (runs_place xs + 1), Runs)
named_at true k x xs e once more low =
    let place : k ≡ k + 0 = omega arith in
    ap (λ b. cond b (Some (k, x.role)) (sender_from (k + 1) x.name xs)) (same_text x.name)
    ∙ ap (λ r. Some (k, r)) (of_runs x.role e)
    ∙ ap (λ (n : ℕ). Some (n, Runs)) place
named_at false k x xs e once more low =
    let p = runs_place xs in
    let next : p + 1 ≡ suc p = omega arith in
    let within : p < length xs = omega (arith, low) in
    let there : p < length (names_of xs) = omega (arith, within, named_length xs) in
    let name : name_in (x ∷ xs) (p + 1) ≡ name_in xs p = ap (λ n. name_in (x ∷ xs) n) next in
    let place : (k + 1) + p ≡ k + (p + 1) = omega arith in
    ap (λ n. sender_from k n (x ∷ xs)) name
    ∙ ap (λ b. cond b (Some (k, x.role)) (sender_from (k + 1) (name_in xs p) xs)) (none_at (bytes_eq x.name) (names_of xs) p [] once there)
    ∙ more within
    ∙ ap (λ (n : ℕ). Some (n, Runs)) place

-- the name at the place of the sender of runs names it
pub runs_named : (k : ℕ) (xs : List Sender) → is_distinct (names_of xs) ≡ true → runs_place xs < length xs → sender_from k (name_in xs (runs_place xs)) xs ≡ Some (k + runs_place xs, Runs)
unfolding is_distinct
runs_named k [] once low = absurd (omega (arith, low))
runs_named k (x ∷ xs) once low =
    named_at (sends_runs x) k x xs refl (not_so (list_any (bytes_eq x.name) (names_of xs)) (first_so _ _ once)) (runs_named (k + 1) xs (second_so _ _ once)) low

-- Which senders an order may name.

abbrev may : List Sender → ℕ → Bool
may xs i = list_any (is_named (name_in xs i)) xs

head_may : (x : Sender) (xs : List Sender) → sends_runs x ≡ false → may (x ∷ xs) 0 ≡ true
head_may x xs e = or_first (is_named x.name x) (list_any (is_named x.name) xs) (both_true (same_text x.name) (ap not e))

may_at : (b : Bool) (x : Sender) (xs : List Sender) (i : ℕ) → sends_runs x ≡ b → i < length (x ∷ xs) → cond b 1 0 + count_by sends_runs xs ≡ 0
    → ((j : ℕ) → j < length xs → count_by sends_runs xs ≡ 0 → may xs j ≡ true) → may (x ∷ xs) i ≡ true
may_at true x xs i e low none more = absurd (omega (arith, none))
may_at false x xs zero e low none more = head_may x xs e
may_at false x xs (suc i) e low none more =
    or_second (is_named (name_in xs i) x) (may xs i) (more i (omega (arith, low)) (omega (arith, none)))

may_none : (xs : List Sender) (i : ℕ) → i < length xs → count_by sends_runs xs ≡ 0 → may xs i ≡ true
may_none [] i low none = absurd (omega (arith, low))
may_none (x ∷ xs) i low none = may_at (sends_runs x) x xs i refl low (sym (count_by-cons sends_runs x xs) ∙ none) (may_none xs)

other_at : (b : Bool) (x : Sender) (xs : List Sender) (i : ℕ) → sends_runs x ≡ b → i < length (x ∷ xs) → cond b 1 0 + count_by sends_runs xs ≡ 1 → (i ≡ cond b 0 (runs_place xs + 1) → ⊥)
    → ((j : ℕ) → j < length xs → count_by sends_runs xs ≡ 1 → (j ≡ runs_place xs → ⊥) → may xs j ≡ true) → may (x ∷ xs) i ≡ true
other_at true x xs zero e low one other more = absurd (other refl)
other_at true x xs (suc i) e low one other more =
    or_second (is_named (name_in xs i) x) (may xs i) (may_none xs i (omega (arith, low)) (omega (arith, one)))
other_at false x xs zero e low one other more = head_may x xs e
other_at false x xs (suc i) e low one other more =
    or_second (is_named (name_in xs i) x) (may xs i) (more i (omega (arith, low)) (omega (arith, one)) (λ same. other (omega (arith, same))))

-- each but the sender of runs
pub others_may : (xs : List Sender) (i : ℕ) → i < length xs → count_by sends_runs xs ≡ 1 → (i ≡ runs_place xs → ⊥) → may xs i ≡ true
others_may [] i low one other = absurd (omega (arith, low))
others_may (x ∷ xs) i low one other = other_at (sends_runs x) x xs i refl low (sym (count_by-cons sends_runs x xs) ∙ one) other (others_may xs)

-- What is stated.

module _ (covers : ℕ → ℕ) where
  -- the senders for which a number is stated, from a place on
  abbrev pub pairs_from : ℕ → List Sender → List Pair
  pairs_from k [] = []
  pairs_from k (x ∷ xs) = cond (covers k == 0) (pairs_from (k + 1) xs) ((x.name, covers k) ∷ pairs_from (k + 1) xs)

  few_at : (b : Bool) (x : Pair) (ps : List Pair) (n : ℕ) → length ps ≤ n → length (cond b ps (x ∷ ps)) ≤ suc n
  few_at true x ps n h = omega (arith, h)
  few_at false x ps n h = omega (arith, h)

  pub pairs_few : (k : ℕ) (xs : List Sender) → length (pairs_from k xs) ≤ length xs
  pairs_few k [] = omega arith
  pairs_few k (x ∷ xs) = few_at (covers k == 0) (x.name, covers k) (pairs_from (k + 1) xs) (length xs) (pairs_few (k + 1) xs)

  -- their names
  abbrev names : List Pair → List (List ℕ)
  names ps = map (λ (p : Pair). p.0) ps

  absent_at : (b : Bool) (name : List ℕ) (x : Sender) (k : ℕ) (ps : List Pair) → bytes_eq name x.name ≡ false → list_any (bytes_eq name) (names ps) ≡ false
      → list_any (bytes_eq name) (names (cond b ps ((x.name, covers k) ∷ ps))) ≡ false
  absent_at true name x k ps e h = h
  absent_at false name x k ps e h = ap (λ b. b || list_any (bytes_eq name) (names ps)) e ∙ h

  absent : (name : List ℕ) (k : ℕ) (xs : List Sender) → list_any (bytes_eq name) (names_of xs) ≡ false → list_any (bytes_eq name) (names (pairs_from k xs)) ≡ false
  absent name k [] h = refl
  absent name k (x ∷ xs) h =
      let parts = both_false (bytes_eq name x.name) (list_any (bytes_eq name) (names_of xs)) h in
      absent_at (covers k == 0) name x k (pairs_from (k + 1) xs) parts.0 (absent name (k + 1) xs parts.1)

  once_at : (b : Bool) (x : Sender) (k : ℕ) (ps : List Pair) → list_any (bytes_eq x.name) (names ps) ≡ false → is_distinct (names ps) ≡ true → is_distinct (names (cond b ps ((x.name, covers k) ∷ ps))) ≡ true
  unfolding is_distinct
  once_at true x k ps e h = h
  once_at false x k ps e h = both_true (ap not e) h

  pub names_once : (k : ℕ) (xs : List Sender) → is_distinct (names_of xs) ≡ true → is_distinct (names (pairs_from k xs)) ≡ true
  unfolding is_distinct
  names_once k [] h = refl
  names_once k (x ∷ xs) h =
      let apart = not_so (list_any (bytes_eq x.name) (names_of xs)) (first_so _ _ h) in
      once_at (covers k == 0) x k (pairs_from (k + 1) xs) (absent x.name (k + 1) xs apart) (names_once (k + 1) xs (second_so _ _ h))

  -- Their numbers.

  none_stated : (name : List ℕ) (ps : List Pair) → list_any (bytes_eq name) (names ps) ≡ false → number_for name ps ≡ 0
  none_stated name [] h = refl
  none_stated name (p ∷ ps) h =
      let parts = both_false (bytes_eq name p.0) (list_any (bytes_eq name) (names ps)) h in
      ap (λ b. cond b p.1 (number_for name ps)) (turned name p.0 parts.0) ∙ none_stated name ps parts.1

  own_at : (b : Bool) (x : Sender) (k : ℕ) (ps : List Pair) → (covers k == 0) ≡ b → list_any (bytes_eq x.name) (names ps) ≡ false → number_for x.name (cond b ps ((x.name, covers k) ∷ ps)) ≡ covers k
  own_at true x k ps e h = none_stated x.name ps h ∙ sym (eqb-true (covers k) 0 e)
  own_at false x k ps e h = ap (λ b. cond b (covers k) (number_for x.name ps)) (same_text x.name)

  other_number : (b : Bool) (name : List ℕ) (x : Sender) (k : ℕ) (ps : List Pair) → bytes_eq x.name name ≡ false → number_for name (cond b ps ((x.name, covers k) ∷ ps)) ≡ number_for name ps
  other_number true name x k ps e = refl
  other_number false name x k ps e = ap (λ b. cond b (covers k) (number_for name ps)) e

  others_same : (x : Sender) (k : ℕ) (ps : List Pair) (zs : List Sender) → list_any (bytes_eq x.name) (names_of zs) ≡ false
      → map (λ (y : Sender). number_for y.name (cond (covers k == 0) ps ((x.name, covers k) ∷ ps))) zs ≡ map (λ (y : Sender). number_for y.name ps) zs
  others_same x k ps [] h = refl
  others_same x k ps (z ∷ zs) h =
      let parts = both_false (bytes_eq x.name z.name) (list_any (bytes_eq x.name) (names_of zs)) h in
      ap (λ (n : ℕ). n ∷ map (λ (y : Sender). number_for y.name (cond (covers k == 0) ps ((x.name, covers k) ∷ ps))) zs) (other_number (covers k == 0) z.name x k ps parts.0)
      ∙ ap (λ (ns : List ℕ). number_for z.name ps ∷ ns) (others_same x k ps zs parts.1)

  -- one number for each sender
  pub numbers_are : (k : ℕ) (xs : List Sender) → is_distinct (names_of xs) ≡ true → map (λ (y : Sender). number_for y.name (pairs_from k xs)) xs ≡ map covers (range_with_len k (length xs))
  unfolding is_distinct
  numbers_are k [] h = refl
  numbers_are k (x ∷ xs) h =
      let ps = pairs_from (k + 1) xs in
      let apart = not_so (list_any (bytes_eq x.name) (names_of xs)) (first_so _ _ h) in
      ap (λ (n : ℕ). n ∷ map (λ (y : Sender). number_for y.name (pairs_from k (x ∷ xs))) xs) (own_at (covers k == 0) x k ps refl (absent x.name (k + 1) xs apart))
      ∙ ap (λ (ns : List ℕ). covers k ∷ ns) (others_same x k ps xs apart ∙ numbers_are (k + 1) xs (second_so _ _ h))

  -- an order may list them
  module _ (setup : Lists) (small : (j : ℕ) → covers j ≤ 999_999_999) where
    listed_at : (b : Bool) (x : Sender) (k : ℕ) (ps : List Pair) → (covers k == 0) ≡ b → is_sender_name x.name ≡ true → ((covers k == 0) ≡ false → may_cover setup x.name ≡ true)
        → AllByRecursion (MayList setup) ps → AllByRecursion (MayList setup) (cond b ps ((x.name, covers k) ∷ ps))
    listed_at true x k ps e name m h = h
    listed_at false x k ps e name m h =
        let word = name_word x.name name in
        ((record { name = word.0; short = word.1; number = small k }, m e), h)

    pub all_listed : (k : ℕ) (xs : List Sender) → list_all is_sender_name (names_of xs) ≡ true
        → ((i : ℕ) → i < length xs → (covers (k + i) == 0) ≡ false → may_cover setup (name_in xs i) ≡ true) → AllByRecursion (MayList setup) (pairs_from k xs)
    all_listed k [] named m = tt
    all_listed k (x ∷ xs) named m =
        let here : k ≡ k + 0 = omega arith in
        listed_at (covers k == 0) x k (pairs_from (k + 1) xs) refl (first_so _ _ named)
        (λ some. m 0 (omega arith) (subst (λ n. (covers n == 0) ≡ false) here some))
        (all_listed (k + 1) xs (second_so _ _ named)
        (λ i low some. let next : (k + 1) + i ≡ k + suc i = omega arith in m (suc i) (omega (arith, low)) (subst (λ n. (covers n == 0) ≡ false) next some)))
