-- What the rows of both tables of facts say, as a set.
use Rattle.std.proofs.Common.{◌≡◌, ◌≢◌, ◌⊎◌, inl, inr, ℕ, List, [], ◌∷◌, ◌++◌, map, filter_map, Bool, true, false, cond, Option, Some, None, IsSome, is_some, refl, sym, ap, subst, ◌∙◌}
use Rattle.std.specs.Prelude.{⊤}
use Rattle.std.proofs.lemmas.Bool.{true≢false, false≢true}
use Rattle.std.proofs.lemmas.Cmp.{nat_cmp_total, on_total, then_total, tied_itself}
use Rattle.std.specs.Cmp.{IsTotalOrder}
use Rattle.std.specs.declared.cmp.Ordering.{Ordering}
use Rattle.std.specs.declared.cmp.Ordering.TheVariants.{Less, Equal, Greater}
use Rattle.std.specs.Ordering.{nat_cmp, eq_by_cmp, is_eq, ordering_then}
use Rattle.std.specs.FinMap.{IsAntisymmetric, get, insert, remove, from_entries, get-from_entries, get-insert, get-remove, same_map, nat_cmp-IsAntisymmetric}
use Rattle.sqlite.specs.Order.{Row}
use Rattle.sqlite_rules.specs.Lists.{Has}
use Rattle.testing_rules_model.specs.declared.fact_row.FactKind.{FactKind}
use Rattle.testing_rules_model.specs.declared.fact_row.FactKind.TheVariants.{Delays}
use Rattle.testing_rules_model.specs.declared.fact_row.FactRow.{FactRow}
use Rattle.testing_rules_model.proofs.FactKinds.{same_kind}
use Rattle.testing_rules_model.specs.FactRows.{number_of, row_order}
use Rattle.office_store_keeper.specs.FactSet.{FactSet, set_of_rows}
use Rattle.office_store_testing_tables.specs.FactTables.{fact_entry, may_stand, fact_in, delays_in, facts_in}
use Rattle.office_store_testing_tables.proofs.EntryMaps.{from_first, has_first}
use Rattle.office_store_testing_tables.proofs.EntryValues.{read_has, has_read, has_map, map_has}
use Rattle.office_store_testing_tables.proofs.KeyedFacts.{tied}

-- ---- the order of rows

pub fact_total : IsTotalOrder row_order
fact_total =
    then_total (on_total (λ (r : FactRow). number_of r.kind) nat_cmp_total)
    (then_total (on_total (λ (r : FactRow). r.sender) nat_cmp_total) (then_total (on_total (λ (r : FactRow). r.number) nat_cmp_total) (on_total (λ (r : FactRow). r.place) nat_cmp_total)))

first_tied : (o p : Ordering) → ordering_then o p ≡ Equal → (o ≡ Equal) × (p ≡ Equal)
first_tied Less p h = absurd (let e = h in cc)
first_tied Equal p h = (refl, h)
first_tied Greater p h = absurd (let e = h in cc)

pub fact_exact : IsAntisymmetric row_order
fact_exact x y h =
    let a = first_tied (nat_cmp (number_of x.kind) (number_of y.kind)) _ h in
    let b = first_tied (nat_cmp x.sender y.sender) _ a.1 in
    let c = first_tied (nat_cmp x.number y.number) (nat_cmp x.place y.place) b.1 in
    let k : x.kind ≡ y.kind = same_kind x.kind y.kind (nat_cmp-IsAntisymmetric (number_of x.kind) (number_of y.kind) a.0) in
    let s : x.sender ≡ y.sender = nat_cmp-IsAntisymmetric x.sender y.sender b.0 in
    let n : x.number ≡ y.number = nat_cmp-IsAntisymmetric x.number y.number c.0 in
    let p : x.place ≡ y.place = nat_cmp-IsAntisymmetric x.place y.place c.1 in
    λ i. record { kind = k i; sender = s i; number = n i; place = p i }

-- ---- sets

-- two sets of the same rows are one
pub same_set : (m n : FactSet) → ((q : FactRow) → IsSome (get m q) → IsSome (get n q)) → ((q : FactRow) → IsSome (get n q) → IsSome (get m q)) → m ≡ n
same_set m n there back = same_map fact_total fact_exact m n (λ q. go (get m q) (get n q) (there q) (back q))
  where
    go : (a b : Option ⊤) → (IsSome a → IsSome b) → (IsSome b → IsSome a) → a ≡ b
    go None None f g = refl
    go (Some u) (Some v) f g = refl
    go None (Some v) f g = absurd (false≢true (g refl))
    go (Some u) None f g = absurd (false≢true (f refl))

-- a row is in the set of its list
pub is_in : (es : List (FactRow × ⊤)) (q : FactRow) → IsSome (get (from_entries {R = row_order} es) q) → Has es (fact_entry q)
is_in es q h = go _ (get-from_entries fact_total es q) h
  where
    go : (o : Option ⊤) → get (from_entries {R = row_order} es) q ≡ o → IsSome (get (from_entries {R = row_order} es) q) → Has es (fact_entry q)
    go None is some = absurd (false≢true (ap is_some (sym is) ∙ some))
    go (Some v) is some = from_first fact_total fact_exact es q v (sym (get-from_entries fact_total es q) ∙ is)

pub is_there : (es : List (FactRow × ⊤)) (q : FactRow) → Has es (fact_entry q) → IsSome (get (from_entries {R = row_order} es) q)
is_there es q h = ap is_some (get-from_entries fact_total es q) ∙ has_first fact_total fact_exact es q tt h

same_fact : (a b : FactRow) → eq_by_cmp row_order a b ≡ true → a ≡ b
same_fact a b h = fact_exact a b (tied (row_order a b) h)

own_fact : (a : FactRow) → eq_by_cmp row_order a a ≡ true
own_fact a = ap is_eq (tied_itself fact_total a)

module _ (m : FactSet) (r q : FactRow) where
  pub of_inserted : IsSome (get (insert m r tt) q) → (q ≡ r) ⊎ IsSome (get m q)
  of_inserted h = go (eq_by_cmp row_order q r) refl (ap is_some (sym (get-insert fact_total m r tt q)) ∙ h)
    where
      go : (b : Bool) → eq_by_cmp row_order q r ≡ b → is_some (cond b (Some tt) (get m q)) ≡ true → (q ≡ r) ⊎ IsSome (get m q)
      go true is some = inl (same_fact q r is)
      go false is some = inr some

  pub inserted_has : (q ≡ r) ⊎ IsSome (get m q) → IsSome (get (insert m r tt) q)
  inserted_has h = ap is_some (get-insert fact_total m r tt q) ∙ go (eq_by_cmp row_order q r) refl h
    where
      go : (b : Bool) → eq_by_cmp row_order q r ≡ b → (q ≡ r) ⊎ IsSome (get m q) → is_some (cond b (Some tt) (get m q)) ≡ true
      go true is h = refl
      go false is (inl same) = absurd (true≢false (sym (own_fact r) ∙ ap (λ x. eq_by_cmp row_order x r) (sym same) ∙ is))
      go false is (inr there) = there

  pub of_removed : IsSome (get (remove m r) q) → (q ≢ r) × IsSome (get m q)
  of_removed h = go (eq_by_cmp row_order q r) refl (ap is_some (sym (get-remove fact_total m r q)) ∙ h)
    where
      go : (b : Bool) → eq_by_cmp row_order q r ≡ b → is_some (cond b None (get m q)) ≡ true → (q ≢ r) × IsSome (get m q)
      go true is some = absurd (false≢true some)
      go false is some = (λ same. true≢false (sym (own_fact r) ∙ ap (λ x. eq_by_cmp row_order x r) (sym same) ∙ is), some)

  pub removed_has : q ≢ r → IsSome (get m q) → IsSome (get (remove m r) q)
  removed_has other there = ap is_some (get-remove fact_total m r q) ∙ go (eq_by_cmp row_order q r) refl
    where
      go : (b : Bool) → eq_by_cmp row_order q r ≡ b → is_some (cond b None (get m q)) ≡ true
      go true is = absurd (other (same_fact q r is))
      go false is = there

-- ---- what rows say

-- a fact that a row of either table says
abbrev pub AreSaid : ℕ → List Row → List Row → FactRow → Type 0
AreSaid release facts delays q = ((row : Row) × Has facts row × (fact_in row ≡ Some (fact_entry q))) ⊎ ((row : Row) × Has delays row × (delays_in release row ≡ Some (fact_entry q)))

pub joined_has : {X : Type 0} (xs ys : List X) (x : X) → Has (xs ++ ys) x → Has xs x ⊎ Has ys x
joined_has [] ys x h = inr h
joined_has (z ∷ xs) ys x (inl same) = inl (inl same)
joined_has (z ∷ xs) ys x (inr h) = elim (joined_has xs ys x h) [ inl a ↦ inl (inr a) | inr b ↦ inr b ]

pub has_joined : {X : Type 0} (xs ys : List X) (x : X) → Has xs x ⊎ Has ys x → Has (xs ++ ys) x
has_joined [] ys x (inl h) = absurd h
has_joined [] ys x (inr h) = h
has_joined (z ∷ xs) ys x (inl (inl same)) = inl same
has_joined (z ∷ xs) ys x (inl (inr h)) = inr (has_joined xs ys x (inl h))
has_joined (z ∷ xs) ys x (inr h) = inr (has_joined xs ys x (inr h))

module _ (release : ℕ) (facts delays : List Row) (q : FactRow) where
  pub said : IsSome (get (facts_in release facts delays) q) → AreSaid release facts delays q
  unfolding facts_in
  said h = elim (joined_has (filter_map fact_in facts) (filter_map (delays_in release) delays) (fact_entry q) (is_in (filter_map fact_in facts ++ filter_map (delays_in release) delays) q h)) [
    | inl a ↦ inl (read_has fact_in facts (fact_entry q) a)
    | inr b ↦ inr (read_has (delays_in release) delays (fact_entry q) b)
  ]

  pub says : AreSaid release facts delays q → IsSome (get (facts_in release facts delays) q)
  unfolding facts_in
  says h = is_there (filter_map fact_in facts ++ filter_map (delays_in release) delays) q (has_joined (filter_map fact_in facts) (filter_map (delays_in release) delays) (fact_entry q) (elim h [
    | inl a ↦ inl (has_read fact_in facts a.0 (fact_entry q) a.1 a.2)
    | inr b ↦ inr (has_read (delays_in release) delays b.0 (fact_entry q) b.1 b.2)
  ]))

-- a set of a list that says what the tables say is the tables' set
pub set_is : (release : ℕ) (facts delays : List Row) (rows : List FactRow) → ((q : FactRow) → Has rows q → AreSaid release facts delays q) → ((q : FactRow) → AreSaid release facts delays q → Has rows q) → set_of_rows rows ≡ facts_in release facts delays
set_is release facts delays rows there back = same_set (set_of_rows rows) (facts_in release facts delays)
    (λ q h. says release facts delays q (there q (let r = has_map fact_entry rows (fact_entry q) (is_in (map fact_entry rows) q h) in subst (Has rows) (sym (ap (λ (e : FactRow × ⊤). e.0) r.2)) r.1)))
    (λ q h. is_there (map fact_entry rows) q (map_has fact_entry rows q (back q (said release facts delays q h))))

-- ---- which facts a table can say

pub same_entry : (a b : FactRow) → ◌≡◌ {A = Option (FactRow × ⊤)} (Some (fact_entry a)) (Some (fact_entry b)) → a ≡ b
same_entry a b h = let e : ◌≡◌ {A = FactRow × ⊤} (fact_entry a) (fact_entry b) = cc in ap (λ (x : FactRow × ⊤). x.0) e

-- the last delays have no place in the table of facts
pub never_delays : (kind : FactKind) (place : ℕ) → may_stand kind place ≡ true → kind ≢ Delays
never_delays kind place h is = false≢true (sym (ap (λ k. may_stand k place) is) ∙ h)
