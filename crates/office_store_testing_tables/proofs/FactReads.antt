-- What is read in the tables of facts.
use Rattle.std.proofs.Common.{◌≡◌, ◌≢◌, ◌≤◌, ◌⊎◌, inl, inr, ℕ, ℤ, pos, List, [], ◌∷◌, ◌++◌, map, filter_map, length, Bool, true, false, cond, ◌&&◌, ◌==◌, nat_eq, Option, Some, None, IsSome, is_some, option_to_list, refl, sym, ap, subst, ◌∙◌, arith}
use Rattle.std.specs.Prelude.{⊤}
use Rattle.std.proofs.lemmas.Bool.{false≢true}
use Rattle.std.proofs.lemmas.Bool.Decides.{nat_tests}
use Rattle.std.specs.Ordering.{is_eq}
use Rattle.std.specs.List.Sorted.{IsPermutation}
use Rattle.std.proofs.lemmas.List.Sorted.{IsPermutation-sym}
use Rattle.sqlite.specs.declared.types.Value.{Value}
use Rattle.sqlite.specs.declared.types.Value.TheVariants.{Int}
use Rattle.sqlite.specs.Order.{Row, column, value_cmp}
use Rattle.sqlite_rules.specs.Lists.{Has}
use Rattle.sqlite_rules.proofs.ListLemmas.{has_contained}
use Rattle.testing_rules_model.specs.declared.fact_row.FactKind.{FactKind}
use Rattle.testing_rules_model.specs.declared.fact_row.FactRow.{FactRow}
use Rattle.testing_rules_model.specs.FactRows.{number_of}
use Rattle.testing_rules_model.proofs.FactKinds.{same_kind}
use Rattle.office_store_keeper.specs.FactSet.{set_of_rows}
use Rattle.office_store_testing_tables.specs.Tables.{number_in, small_in}
use Rattle.office_store_testing_tables.specs.steps.ReadingSteps.{small_of}
use Rattle.office_store_testing_tables.specs.steps.TableContent.{ReadsEach}
use Rattle.office_store_testing_tables.specs.Legible.{AreRead}
use Rattle.office_store_testing_tables.specs.Entries.{integer_in}
use Rattle.office_store_testing_tables.specs.FactTables.{fact_entry, kind_in, may_stand, fact_of, fact_by, fact_in, delays_of, delays_by, delays_in, facts_in}
use Rattle.office_store_testing_tables.specs.steps.FactSteps.{fact_columns, delays_columns, shown_delays, IsOnlyDelays, is_fact, is_delays}
use Rattle.office_store_testing_tables.proofs.EntrySays.{Fits32, small_is, integer_is}
use Rattle.office_store_testing_tables.proofs.EntryReads.{small_value}
use Rattle.office_store_testing_tables.proofs.EntryValues.{read_has, has_read, has_map, map_has}
use Rattle.office_store_testing_tables.proofs.KindReads.{kind_value, kind_says}
use Rattle.office_store_testing_tables.proofs.LetterFacts.{number_is, int_is}
use Rattle.office_store_testing_tables.proofs.LoadFacts.{both, same_number}
use Rattle.office_store_testing_tables.proofs.MailLemmas.{has_permuted, only_shown, single_of, empty_of, as_many}
use Rattle.office_store_testing_tables.proofs.FactSets.{AreSaid, same_entry, joined_has, has_joined, set_is}

-- ---- facts

-- the values of a row that says a fact
pub record IsFactShape (row : Row) (fact : FactRow) : Type 0 where
  pub id : ℤ
  pub rowid_is : column row 0 ≡ Int id
  pub kind : column row 1 ≡ Int (pos (number_of fact.kind))
  pub sender : column row 2 ≡ Int (pos fact.sender)
  pub number : column row 3 ≡ Int (pos fact.number)
  pub place : column row 4 ≡ Int (pos fact.place)
  pub small_sender : Fits32 fact.sender
  pub small_number : Fits32 fact.number
  pub small_place : Fits32 fact.place
  pub stands : may_stand fact.kind fact.place ≡ true

stands_of : (fact q : FactRow) → fact_of fact ≡ Some (fact_entry q) → (fact ≡ q) × (may_stand q.kind q.place ≡ true)
stands_of fact q h = go (may_stand fact.kind fact.place) refl h
  where
    go : (b : Bool) → may_stand fact.kind fact.place ≡ b → cond b (Some (fact_entry fact)) None ≡ Some (fact_entry q) → (fact ≡ q) × (may_stand q.kind q.place ≡ true)
    go true is e = let same = same_entry fact q e in (same, ap (λ (x : FactRow). may_stand x.kind x.place) (sym same) ∙ is)
    go false is e = absurd (let x = e in cc)

parts_by : (i : Option ℤ) (k : Option FactKind) (s n p : Option ℕ) (q : FactRow) → fact_by i k s n p ≡ Some (fact_entry q)
    → (id : ℤ) × (i ≡ Some id) × (k ≡ Some q.kind) × (s ≡ Some q.sender) × (n ≡ Some q.number) × (p ≡ Some q.place) × (may_stand q.kind q.place ≡ true)
parts_by None k s n p q h = absurd (let x = h in cc)
parts_by (Some i) None s n p q h = absurd (let x = h in cc)
parts_by (Some i) (Some k) None n p q h = absurd (let x = h in cc)
parts_by (Some i) (Some k) (Some s) None p q h = absurd (let x = h in cc)
parts_by (Some i) (Some k) (Some s) (Some n) None q h = absurd (let x = h in cc)
parts_by (Some i) (Some k) (Some s) (Some n) (Some p) q h =
    let e = stands_of (record { kind = k; sender = s; number = n; place = p }) q h in
    (i, refl, ap (λ (x : FactRow). Some x.kind) e.0, ap (λ (x : FactRow). Some x.sender) e.0, ap (λ (x : FactRow). Some x.number) e.0, ap (λ (x : FactRow). Some x.place) e.0, e.1)

pub fact_shape : (row : Row) (fact : FactRow) → fact_in row ≡ Some (fact_entry fact) → IsFactShape row fact
unfolding fact_in
fact_shape row fact h =
    let p = parts_by (integer_in (column row 0)) (kind_in (column row 1)) (small_in (column row 2)) (small_in (column row 3)) (small_in (column row 4)) fact h in
    let k = kind_value (column row 1) fact.kind p.2 in
    let s = small_value (column row 2) fact.sender p.3 in
    let n = small_value (column row 3) fact.number p.4 in
    let l = small_value (column row 4) fact.place p.5 in
    record {
      id = p.0;
      rowid_is = integer_is (column row 0) p.0 p.1;
      kind = k;
      sender = s.0;
      number = n.0;
      place = l.0;
      small_sender = s.1;
      small_number = n.1;
      small_place = l.1;
      stands = p.6;
    }

-- a row of these values says what it may
pub fact_says : (row : Row) (id : ℤ) (fact : FactRow) → column row 0 ≡ Int id → column row 1 ≡ Int (pos (number_of fact.kind)) → column row 2 ≡ Int (pos fact.sender) → column row 3 ≡ Int (pos fact.number) → column row 4 ≡ Int (pos fact.place)
    → Fits32 fact.sender → Fits32 fact.number → Fits32 fact.place → fact_in row ≡ fact_of fact
unfolding fact_in
fact_says row id fact a b c d e x y z = rw (a, b, c, d, e)
    (ap (λ v. fact_by (Some id) v (small_of (Some fact.sender)) (small_of (Some fact.number)) (small_of (Some fact.place))) (kind_says fact.kind)
    ∙ ap (λ v. fact_by (Some id) (Some fact.kind) v (small_of (Some fact.number)) (small_of (Some fact.place))) (small_is fact.sender x)
    ∙ ap (λ v. fact_by (Some id) (Some fact.kind) (Some fact.sender) v (small_of (Some fact.place))) (small_is fact.number y)
    ∙ ap (fact_by (Some id) (Some fact.kind) (Some fact.sender) (Some fact.number)) (small_is fact.place z))

pub fact_stands : (fact : FactRow) → may_stand fact.kind fact.place ≡ true → fact_of fact ≡ Some (fact_entry fact)
fact_stands fact h = ap (λ b. cond b (Some (fact_entry fact)) None) h

-- the rowid and the columns of a row say what the row says
pub fact_shown : (row : Row) → fact_in (fact_columns row) ≡ fact_in row
unfolding fact_in
fact_shown row = refl

five : {X : Type 0} (a b c d e v w x y z : X) → a ≡ v → b ≡ w → c ≡ x → d ≡ y → e ≡ z → a ∷ b ∷ c ∷ d ∷ e ∷ [] ≡ v ∷ w ∷ x ∷ y ∷ z ∷ []
five a b c d e v w x y z p q r s t = λ i. p i ∷ q i ∷ r i ∷ s i ∷ t i ∷ []

-- a shown row of other values says nothing
pub fact_none : (row : Row) → ((id : ℤ) (kind : FactKind) (sender number place : ℕ) → Fits32 sender → Fits32 number → Fits32 place → row ≢ Int id ∷ Int (pos (number_of kind)) ∷ Int (pos sender) ∷ Int (pos number) ∷ Int (pos place) ∷ [])
    → row ≡ fact_columns row → fact_in row ≡ None
fact_none row other shown = go (fact_in row) refl
  where
    go : (o : Option (FactRow × ⊤)) → fact_in row ≡ o → fact_in row ≡ None
    go None is = is
    go (Some (fact, u)) is =
        let s = fact_shape row fact is in
        absurd (other s.id fact.kind fact.sender fact.number fact.place s.small_sender s.small_number s.small_place
        (shown ∙ five (column row 0) (column row 1) (column row 2) (column row 3) (column row 4) (Int s.id) (Int (pos (number_of fact.kind))) (Int (pos fact.sender)) (Int (pos fact.number)) (Int (pos fact.place)) s.rowid_is s.kind s.sender s.number s.place))

int_same : (a b : ℕ) → Int (pos a) ≡ Int (pos b) → a ≡ b
int_same a b h = let e = h in cc

-- nor does one of a kind that has no place
pub fact_misplaced : (row : Row) (kind : FactKind) (place : ℕ) → column row 1 ≡ Int (pos (number_of kind)) → column row 4 ≡ Int (pos place) → may_stand kind place ≡ false → fact_in row ≡ None
fact_misplaced row kind place k p none = go (fact_in row) refl
  where
    go : (o : Option (FactRow × ⊤)) → fact_in row ≡ o → fact_in row ≡ None
    go None is = is
    go (Some (fact, u)) is =
        let s = fact_shape row fact is in
        let a : fact.kind ≡ kind = same_kind fact.kind kind (int_same (number_of fact.kind) (number_of kind) (sym s.kind ∙ k)) in
        let b : fact.place ≡ place = int_same fact.place place (sym s.place ∙ p) in
        absurd (false≢true (sym none ∙ ap (λ x. may_stand x place) (sym a) ∙ ap (may_stand fact.kind) (sym b) ∙ s.stands))

equal : (v : Value) (n : ℕ) → v ≡ Int (pos n) → is_eq (value_cmp v (Int (pos n))) ≡ true
equal v n is = ap (λ x. is_eq (value_cmp x (Int (pos n)))) is ∙ int_is n n ∙ (let e : nat_eq n n ≡ true = grind (arith, nat_tests) in e)

same_at : (v : Value) (m n : ℕ) → v ≡ Int (pos m) → is_eq (value_cmp v (Int (pos n))) ≡ true → m ≡ n
same_at v m n is h = same_number m n (sym (int_is m n) ∙ ap (λ x. is_eq (value_cmp x (Int (pos n)))) (sym is) ∙ h)

all_four : (a b c d : Bool) → a ≡ true → b ≡ true → c ≡ true → d ≡ true → (a && (b && (c && d))) ≡ true
all_four a b c d p q r s = rw (p, q, r, s) refl

-- SQL's = at the row of a fact
pub fact_here : (row : Row) (fact : FactRow) → fact_in row ≡ Some (fact_entry fact) → is_fact fact row ≡ true
fact_here row fact is =
    let s = fact_shape row fact is in
    all_four _ _ _ _ (equal (column row 1) (number_of fact.kind) s.kind) (equal (column row 2) fact.sender s.sender) (equal (column row 3) fact.number s.number) (equal (column row 4) fact.place s.place)

pub fact_only : (row : Row) (fact other : FactRow) → is_fact fact row ≡ true → fact_in row ≡ Some (fact_entry other) → other ≡ fact
fact_only row fact other h is =
    let s = fact_shape row other is in
    let a = both (is_eq (value_cmp (column row 1) (Int (pos (number_of fact.kind))))) _ h in
    let b = both (is_eq (value_cmp (column row 2) (Int (pos fact.sender)))) _ a.1 in
    let c = both (is_eq (value_cmp (column row 3) (Int (pos fact.number)))) (is_eq (value_cmp (column row 4) (Int (pos fact.place)))) b.1 in
    let k = same_kind other.kind fact.kind (same_at (column row 1) (number_of other.kind) (number_of fact.kind) s.kind a.0) in
    let r = same_at (column row 2) other.sender fact.sender s.sender b.0 in
    let n = same_at (column row 3) other.number fact.number s.number c.0 in
    let p = same_at (column row 4) other.place fact.place s.place c.1 in
    λ i. record { kind = k i; sender = r i; number = n i; place = p i }

-- ---- the last delays

delays_parts : (release : ℕ) (i n : Option ℕ) (q : FactRow) → delays_by release i n ≡ Some (fact_entry q) → (i ≡ Some 1) × (n ≡ Some q.number) × (q ≡ delays_of release q.number)
delays_parts release None n q h = absurd (let x = h in cc)
delays_parts release (Some i) None q h = absurd (let x = h in cc)
delays_parts release (Some i) (Some n) q h = go (i == 1) refl h
  where
    go : (b : Bool) → (i == 1) ≡ b → cond b (Some (fact_entry (delays_of release n))) None ≡ Some (fact_entry q) → (Some i ≡ Some 1) × (Some n ≡ Some q.number) × (q ≡ delays_of release q.number)
    go true is e =
        let same : delays_of release n ≡ q = same_entry (delays_of release n) q e in
        let one : i ≡ 1 = grind (arith, nat_tests) in
        let at : n ≡ q.number = ap (λ (x : FactRow). x.number) same in
        (ap Some one, ap Some at, sym same ∙ ap (delays_of release) at)
    go false is e = absurd (let x = e in cc)

-- the values of a row that says delays
pub delays_shape : (release : ℕ) (row : Row) (fact : FactRow) → delays_in release row ≡ Some (fact_entry fact) → (column row 0 ≡ Int (pos 1)) × (column row 2 ≡ Int (pos fact.number)) × Fits32 fact.number × (fact ≡ delays_of release fact.number)
unfolding delays_in
delays_shape release row fact h =
    let p = delays_parts release (number_in (column row 0)) (small_in (column row 2)) fact h in
    let n = small_value (column row 2) fact.number p.1 in
    (number_is (column row 0) 1 p.0, n.0, n.1, p.2)

pub delays_say : (release : ℕ) (row : Row) (number : ℕ) → column row 0 ≡ Int (pos 1) → column row 2 ≡ Int (pos number) → Fits32 number → delays_in release row ≡ Some (fact_entry (delays_of release number))
unfolding delays_in
delays_say release row number a b fits = rw (a, b) (ap (delays_by release (Some 1)) (small_is number fits))

pub shown_say : (release : ℕ) (row : Row) (number : ℕ) → column row 0 ≡ Int (pos 1) → column row 1 ≡ Int (pos number) → Fits32 number → shown_delays release row ≡ Some (fact_entry (delays_of release number))
unfolding shown_delays
shown_say release row number a b fits = rw (a, b) (ap (delays_by release (Some 1)) (small_is number fits))

pub delays_shown : (release : ℕ) (row : Row) → shown_delays release (delays_columns row) ≡ delays_in release row
unfolding shown_delays delays_in
delays_shown release row = refl

-- SQL's = at the row of the last delays
pub delays_here : (release number : ℕ) (row : Row) → delays_in release row ≡ Some (fact_entry (delays_of release number)) → is_delays number row ≡ true
delays_here release number row is = equal (column row 2) number (delays_shape release row (delays_of release number) is).1

pub delays_only : (release number : ℕ) (row : Row) (other : FactRow) → is_delays number row ≡ true → delays_in release row ≡ Some (fact_entry other) → other ≡ delays_of release number
delays_only release number row other h is =
    let s = delays_shape release row other is in
    s.3 ∙ ap (delays_of release) (same_at (column row 2) other.number number s.1 h)

-- ---- both, read back

-- each row that is shown reads
pub facts_read : (table rows : List Row) → IsPermutation (map fact_columns table) rows → ((row : Row) → Has table row → IsSome (fact_in row)) → ReadsEach fact_columns fact_in rows
facts_read table rows same reads row there =
    let c = has_map fact_columns table row (has_permuted (map fact_columns table) rows row same (has_contained rows row there)) in
    (c.2 ∙ sym (ap fact_columns c.2), subst IsSome (sym (ap fact_in c.2 ∙ fact_shown c.0)) (reads c.0 c.1))

all_read : (rows : List Row) (facts : List FactRow) → map fact_in rows ≡ map Some (map fact_entry facts) → (filter_map fact_in rows ≡ map fact_entry facts)
all_read [] [] h = refl
all_read [] (f ∷ facts) h = absurd (let e = h in cc)
all_read (r ∷ rows) [] h = absurd (let e = h in cc)
all_read (r ∷ rows) (f ∷ facts) h =
    let a : fact_in r ≡ Some (fact_entry f) = cc in
    let b : map fact_in rows ≡ map Some (map fact_entry facts) = cc in
    rw a (ap (λ l. fact_entry f ∷ l) (all_read rows facts b))

reads_some : {A B : Type 0} (f : A → Option B) (xs : List A) (ys : List B) → map f xs ≡ map Some ys → (x : A) → Has xs x → IsSome (f x)
reads_some f [] ys h x there = absurd there
reads_some f (z ∷ xs) [] h x there = absurd (let e = h in cc)
reads_some f (z ∷ xs) (y ∷ ys) h x (inl same) = let a : f z ≡ Some y = cc in ap is_some (ap f same ∙ a)
reads_some f (z ∷ xs) (y ∷ ys) h x (inr there) = let b : map f xs ≡ map Some ys = cc in reads_some f xs ys b x there

has_shown : (table rows : List Row) → IsPermutation (map fact_columns table) rows → (row : Row) → Has table row → Has rows (fact_columns row)
has_shown table rows same row there = has_permuted rows (map fact_columns table) (fact_columns row) (IsPermutation-sym _ _ same) (map_has fact_columns table row there)

module _ (release : ℕ) (table delays : List Row) (rows last : List Row) (facts : List FactRow) (o : Option FactRow) (shown : IsPermutation (map fact_columns table) rows) (shown_last : IsPermutation (map delays_columns delays) last)
    (are : map fact_in rows ≡ map Some (map fact_entry facts)) (only : IsOnlyDelays release o last) where
  fact_back : (q : FactRow) → Has facts q → AreSaid release table delays q
  fact_back q there =
      let r = read_has fact_in rows (fact_entry q) (subst (λ l. Has l (fact_entry q)) (sym (all_read rows facts are)) (map_has fact_entry facts q there)) in
      let c = has_map fact_columns table r.0 (has_permuted (map fact_columns table) rows r.0 shown r.1) in
      inl (c.0, c.1, sym (fact_shown c.0) ∙ ap fact_in (sym c.2) ∙ r.2)

  fact_there : (q : FactRow) (row : Row) → Has table row → fact_in row ≡ Some (fact_entry q) → Has facts q
  fact_there q row there is =
      let shows = has_shown table rows shown row there in
      let e = has_read fact_in rows (fact_columns row) (fact_entry q) shows (fact_shown row ∙ is) in
      let m = has_map fact_entry facts (fact_entry q) (subst (λ l. Has l (fact_entry q)) (all_read rows facts are) e) in
      subst (Has facts) (sym (ap (λ (x : FactRow × ⊤). x.0) m.2)) m.1

  delays_back : (o : Option FactRow) → IsOnlyDelays release o last → (q : FactRow) → Has (option_to_list o) q → AreSaid release table delays q
  delays_back None only q there = absurd there
  delays_back (Some fact) only q (inr there) = absurd there
  delays_back (Some fact) only q (inl same) =
      let one = only_shown delays_columns delays only.0 (subst (IsPermutation (map delays_columns delays)) only.1 shown_last) in
      inr (one.0, subst (λ l. Has l one.0) (sym one.1) (inl refl), sym (delays_shown release one.0) ∙ ap (shown_delays release) (sym one.2) ∙ only.2 ∙ ap (λ f. Some (fact_entry f)) (sym same))

  delays_there : (o : Option FactRow) → IsOnlyDelays release o last → (q : FactRow) (row : Row) → Has delays row → delays_in release row ≡ Some (fact_entry q) → Has (option_to_list o) q
  delays_there None only q row there is = absurd (subst (λ l. Has l row) (empty_of delays (as_many delays_columns delays last shown_last ∙ ap length only)) there)
  delays_there (Some fact) only q row there is =
      let one = only_shown delays_columns delays only.0 (subst (IsPermutation (map delays_columns delays)) only.1 shown_last) in
      let here : (row ≡ one.0) ⊎ ⊥ = subst (λ l. Has l row) one.1 there in
      elim here [
        | inl same ↦ inl (same_entry q fact (sym is ∙ sym (delays_shown release row) ∙ ap (λ r. shown_delays release (delays_columns r)) same ∙ ap (shown_delays release) (sym one.2) ∙ only.2))
        | inr none ↦ absurd none
      ]

  -- the facts that were read are those that the tables say
  pub facts_are : set_of_rows (facts ++ option_to_list o) ≡ facts_in release table delays
  facts_are = set_is release table delays (facts ++ option_to_list o)
      (λ q there. elim (joined_has facts (option_to_list o) q there) [ inl a ↦ fact_back q a | inr b ↦ delays_back o only q b ])
      (λ q says. has_joined facts (option_to_list o) q (elim says [ inl a ↦ inl (fact_there q a.0 a.1 a.2) | inr b ↦ inr (delays_there o only q b.0 b.1 b.2) ]))

  delay_some : (o : Option FactRow) → IsOnlyDelays release o last → (row : Row) → Has delays row → IsSome (delays_in release row)
  delay_some None only row there = absurd (subst (λ l. Has l row) (empty_of delays (as_many delays_columns delays last shown_last ∙ ap length only)) there)
  delay_some (Some fact) only row there =
      let one = only_shown delays_columns delays only.0 (subst (IsPermutation (map delays_columns delays)) only.1 shown_last) in
      let here : (row ≡ one.0) ⊎ ⊥ = subst (λ l. Has l row) one.1 there in
      elim here [
        | inl same ↦ ap is_some (ap (delays_in release) same ∙ sym (delays_shown release one.0) ∙ ap (shown_delays release) (sym one.2) ∙ only.2)
        | inr none ↦ absurd none
      ]

  few_delays : (o : Option FactRow) → IsOnlyDelays release o last → length delays ≤ 1
  few_delays None only = let many = as_many delays_columns delays last shown_last in let none = ap length only in omega (arith, many, none)
  few_delays (Some fact) only = let many = as_many delays_columns delays last shown_last in let one = ap length only.1 in omega (arith, many, one)

  -- each row of both tables was read
  pub read_back : AreRead release table delays
  read_back = record {
    fact = λ row there. subst IsSome (fact_shown row) (reads_some fact_in rows (map fact_entry facts) are (fact_columns row) (has_shown table rows shown row there));
    delay = delay_some o only;
    one = few_delays o only;
  }

-- no more than one row of delays is shown, and it reads
pub delays_shown_one : (release : ℕ) (facts delays last : List Row) → IsPermutation (map delays_columns delays) last → AreRead release facts delays → (last ≢ []) → ((number : ℕ) → Fits32 number → last ≢ (Int (pos 1) ∷ Int (pos number) ∷ []) ∷ []) → ⊥
delays_shown_one release facts [] last same read some one = some (empty_of last (sym (as_many delays_columns [] last same)))
delays_shown_one release facts (row ∷ []) last same read some one =
    let view = single_of last (sym (as_many delays_columns (row ∷ []) last same)) in
    let o = only_shown delays_columns (row ∷ []) view.0 (subst (IsPermutation (map delays_columns (row ∷ []))) view.1 same) in
    let equal : row ≡ o.0 = (let e : row ∷ [] ≡ o.0 ∷ [] = o.1 in cc) in
    go (delays_in release row) refl (read.delay row (inl refl)) view o equal
  where
    go : (e : Option (FactRow × ⊤)) → delays_in release row ≡ e → IsSome (delays_in release row) → (view : (x : Row) × (last ≡ x ∷ [])) → (o : (x : Row) × (row ∷ [] ≡ x ∷ []) × (view.0 ≡ delays_columns x)) → row ≡ o.0 → ⊥
    go None is some view o equal = false≢true (ap is_some (sym is) ∙ some)
    go (Some (fact, u)) is some view o equal =
        let s = delays_shape release row fact is in
        let shape : delays_columns row ≡ Int (pos 1) ∷ Int (pos fact.number) ∷ [] = (λ i. s.0 i ∷ s.1 i ∷ []) in
        one fact.number s.2 (view.1 ∙ ap (λ x. x ∷ []) (o.2 ∙ ap delays_columns (sym equal) ∙ shape))
delays_shown_one release facts (row ∷ more ∷ rows) last same read some one = absurd (omega (arith, read.one))
