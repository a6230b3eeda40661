-- How the sets of facts are moved by the changes of their tables.
use Rattle.std.proofs.Common.{◌≡◌, ◌≢◌, ◌≤◌, ◌<◌, ◌⊎◌, ◌+◌, ◌-◌, inl, inr, ℕ, zero, suc, ℤ, pos, List, [], ◌∷◌, ◌++◌, map, filter, take, drop, get_or, length, Bool, true, false, cond, not, ◌&&◌, ◌||◌, ◌==◌, Option, Some, None, IsSome, is_some, refl, sym, ap, subst, ◌∙◌, arith}
use Rattle.std.specs.Prelude.{⊤}
use Rattle.std.proofs.lemmas.Bool.{false≢true, true≢false}
use Rattle.std.proofs.lemmas.List.{take_more}
use Rattle.std.specs.List.{list_all}
use Rattle.std.specs.List.Sorted.{IsPermutation}
use Rattle.std.specs.Ordering.{is_eq}
use Rattle.std.specs.FinMap.{get, insert, remove}
use Rattle.sqlite.specs.declared.types.Value.TheVariants.{Int}
use Rattle.sqlite.specs.Order.{Row, column, value_cmp}
use Rattle.sqlite.specs.Tree.{Trees, rowid, has_rowid, without_rowid, put_row}
use Rattle.sqlite_rules.specs.Edit.{is_taken}
use Rattle.sqlite_rules.specs.Lists.{Has}
use Rattle.sqlite_rules.proofs.ListLemmas.{has_filtered, has_kept}
use Rattle.sqlite_rules.proofs.TableLemmas.{has_put, put_has, put_all_keeps}
use Rattle.testing_rules_model.specs.declared.fact_row.FactKind.{FactKind}
use Rattle.testing_rules_model.specs.declared.fact_row.FactKind.TheVariants.{Source, Upload, Build, Drop, Bug, Hint, Unhint, Delays}
use Rattle.testing_rules_model.specs.declared.fact_row.FactRow.{FactRow}
use Rattle.testing_rules_model.specs.declared.fact_row.FactChanges.{FactChanges}
use Rattle.office_mail.specs.Lists.{Lists}
use Rattle.office_store_keeper.specs.FactSet.{FactSet, HasRow, without_rows, with_rows, facts_after, IsFactRow, AreHoldable}
use Rattle.office_store_testing_tables.specs.steps.TableSteps.{Rows, rows_in}
use Rattle.office_store_testing_tables.specs.Legible.{AreRead}
use Rattle.office_store_testing_tables.specs.TableContent.{release_place}
use Rattle.office_store_testing_tables.specs.FactTables.{fact_entry, may_stand, fact_in, delays_of, delays_in, facts_in}
use Rattle.office_store_testing_tables.specs.declared.rowids.ChangedTable.TheVariants as changed
use Rattle.office_store_testing_tables.specs.steps.ChangedTables.{TakesOut, Takes}
use Rattle.office_store_testing_tables.specs.steps.FactSteps.{is_fact, is_delays, id_columns, IsOnlyId, IsRowidFound, is_no_delays, AddsFact, AddsFacts, AddsDelays, CanStand, CanStandEach, MovesFacts, KeepsOthers, Leaves, DropsFact, DropsDelays, DropsOne, AddsOne, DropsEach, AddsEach, ChangesFacts}
use Rattle.office_store_testing_tables.proofs.DeleteLemmas.{itself}
use Rattle.office_store_testing_tables.proofs.MailLemmas.{empty_of, as_many, only_shown}
use Rattle.office_store_testing_tables.proofs.KeepLemmas.{seven}
use Rattle.office_store_testing_tables.proofs.KindReads.{kinds_apart}
use Rattle.office_store_testing_tables.proofs.WriteLemmas.{not_true}
use Rattle.office_store_testing_tables.proofs.Eights.{take_on}
use Rattle.office_store_testing_tables.proofs.FactSets.{same_set, same_entry, has_joined, of_inserted, inserted_has, of_removed, removed_has, said, says, never_delays}
use Rattle.office_store_testing_tables.proofs.FactReads.{fact_shape, fact_stands, fact_here, fact_only, delays_shape, delays_here, delays_only}

-- ---- one row is taken out

fewer : {X : Type 0} (p : X → Bool) (xs : List X) → length (filter p xs) ≤ length xs
fewer p [] = omega arith
fewer {X} p (x ∷ xs) = go (p x) (fewer p xs)
  where
    go : (b : Bool) → length (filter p xs) ≤ length xs → length (cond b (x ∷ filter p xs) (filter p xs)) ≤ length (x ∷ xs)
    go true h = omega (arith, h)
    go false h = omega (arith, h)

module _ (reads : Row → Option (FactRow × ⊤)) (fact : FactRow) (test : Row → Bool) (here : (row : Row) → reads row ≡ Some (fact_entry fact) → test row ≡ true)
    (only : (row : Row) (other : FactRow) → test row ≡ true → reads row ≡ Some (fact_entry other) → other ≡ fact) (rows next : List Row) where
  none_leaves : filter test rows ≡ [] → next ≡ rows → Leaves reads fact rows next
  none_leaves none same = record {
    gone = λ row there is. subst (λ l. Has l row) none (has_kept test rows row (subst (λ l. Has l row) same there) (here row is));
    had = λ row there. subst (λ l. Has l row) same there;
    others = λ row other there is apart. subst (λ l. Has l row) (sym same) there;
    fewer = subst (λ l. length l ≤ length rows) (sym same) (omega arith);
  }

  -- the only row that has this rowid is the one that the test finds
  one_leaves : (x y : Row) (id : ℤ) → filter test rows ≡ x ∷ [] → rowid x ≡ Int id → filter (has_rowid id) rows ≡ y ∷ [] → next ≡ without_rowid id rows → Leaves reads fact rows next
  one_leaves x y id found own alone left =
      let f : Has rows x × (test x ≡ true) = has_filtered test rows x (subst (λ l. Has l x) (sym found) (inl refl)) in
      let same : x ≡ y = single x y (subst (λ l. Has l x) alone (has_kept (has_rowid id) rows x f.0 (of_own x own))) in
      record {
        gone = λ row there is.
            let k = has_filtered (λ r. not (has_rowid id r)) rows row (subst (λ l. Has l row) left there) in
            let at : row ≡ x = single row x (subst (λ l. Has l row) found (has_kept test rows row k.0 (here row is))) in
            true≢false (sym k.1 ∙ ap (λ r. not (has_rowid id r)) at ∙ ap not (of_own x own));
        had = λ row there. (has_filtered (λ r. not (has_rowid id r)) rows row (subst (λ l. Has l row) left there)).0;
        others = λ row other there is apart. stays row other there is apart same f.1 (has_rowid id row) refl;
        fewer = subst (λ l. length l ≤ length rows) (sym left) (fewer (λ r. not (has_rowid id r)) rows);
      }
    where
      single : (a b : Row) → Has (b ∷ []) a → a ≡ b
      single a b (inl is) = is
      single a b (inr none) = absurd none

      of_own : (r : Row) → rowid r ≡ Int id → has_rowid id r ≡ true
      of_own r is = ap (λ v. is_eq (value_cmp v (Int id))) is ∙ itself id

      stays : (row : Row) (other : FactRow) → Has rows row → reads row ≡ Some (fact_entry other) → other ≢ fact → x ≡ y → test x ≡ true → (b : Bool) → has_rowid id row ≡ b → Has next row
      stays row other there is apart same passed true has =
          let at : row ≡ x = single row y (subst (λ l. Has l row) alone (has_kept (has_rowid id) rows row there has)) ∙ sym same in
          absurd (apart (only row other (ap test at ∙ passed) is))
      stays row other there is apart same passed false has = subst (λ l. Has l row) (sym left) (has_kept (λ r. not (has_rowid id r)) rows row there (ap not has))

  -- the same of what a query and a DELETE by the rowid show
  found_none : (shown : List Row) → IsPermutation (map id_columns (filter test rows)) shown → shown ≡ [] → next ≡ rows → Leaves reads fact rows next
  found_none shown perm none same = none_leaves (empty_of (filter test rows) (as_many id_columns (filter test rows) shown perm ∙ ap length none)) same

  found_one : (shown : List Row) (id : ℤ) (count : ℕ) → IsPermutation (map id_columns (filter test rows)) shown → IsOnlyId (Some id) shown → TakesOut rows next id count → count ≡ 1 → Leaves reads fact rows next
  found_one shown id count perm one taken alone =
      let o = only_shown id_columns (filter test rows) one.0 (subst (IsPermutation (map id_columns (filter test rows))) one.1 perm) in
      let own : rowid o.0 ≡ Int id = ap (λ (r : Row). column r 0) (sym o.2) ∙ one.2 in
      let y = single_row (filter (has_rowid id) rows) (sym taken.counted ∙ alone) in
      let f : Has rows o.0 × (test o.0 ≡ true) = has_filtered test rows o.0 (subst (λ l. Has l o.0) (sym o.1) (inl refl)) in
      let here : Has (y.0 ∷ []) o.0 = subst (λ l. Has l o.0) y.1 (has_kept (has_rowid id) rows o.0 f.0 (ap (λ v. is_eq (value_cmp v (Int id))) own ∙ itself id)) in
      one_leaves o.0 y.0 id o.1 own y.1 (taken.left y.0 y.1 (elim here [ inl is ↦ ap rowid (sym is) ∙ own | inr none ↦ absurd none ]))
    where
      single_row : (xs : List Row) → length xs ≡ 1 → (x : Row) × (xs ≡ x ∷ [])
      single_row [] h = absurd (omega (arith, h))
      single_row (z ∷ []) h = (z, refl)
      single_row (z ∷ w ∷ more) h = absurd (omega (arith, h))

rest_same : (db next : Trees) → rows_in next ≡ rows_in db → (rows_in next ≡ record (rows_in db) { facts = next 8 }) × (rows_in next ≡ record (rows_in db) { delays = next 10 })
rest_same db next same = (
  same ∙ ap (λ rows. record (rows_in db) { facts = rows }) (sym (ap (λ (r : Rows). r.facts) same)),
  same ∙ ap (λ rows. record (rows_in db) { delays = rows }) (sym (ap (λ (r : Rows). r.delays) same)),
)

pub drops_no_fact : (db next : Trees) (fact : FactRow) → IsRowidFound (is_fact fact) (db 8) None → next ≡ db → DropsFact db next fact
drops_no_fact db next fact it same = record {
  leaves = found_none fact_in fact (is_fact fact) (λ row is. fact_here row fact is) (λ row other passed is. fact_only row fact other passed is) (db 8) (next 8) it.shown it.are it.only (ap (λ (t : Trees). t 8) same);
  rest = (rest_same db next (ap rows_in same)).0;
}

pub drops_a_fact : (db mid next : Trees) (fact : FactRow) (id : ℤ) → IsRowidFound (is_fact fact) (db 8) (Some id) → mid ≡ db → Takes changed.Facts mid next id 1 → DropsFact db next fact
drops_a_fact db mid next fact id it same taken =
    let took = subst (λ (t : Trees). Takes changed.Facts t next id 1) same taken in
    record {
      leaves = found_one fact_in fact (is_fact fact) (λ row is. fact_here row fact is) (λ row other passed is. fact_only row fact other passed is) (db 8) (next 8) it.shown id 1 it.are it.only took.taken refl;
      rest = took.rest;
    }

pub drops_no_delays : (db next : Trees) (number : ℕ) → IsRowidFound (is_delays number) (db 10) None → next ≡ db → DropsDelays db next number
drops_no_delays db next number it same = record {
  leaves = λ release. found_none (delays_in release) (delays_of release number) (is_delays number) (λ row is. delays_here release number row is) (λ row other passed is. delays_only release number row other passed is) (db 10) (next 10) it.shown it.are it.only (ap (λ (t : Trees). t 10) same);
  rest = (rest_same db next (ap rows_in same)).1;
}

pub drops_delays : (db mid next : Trees) (number : ℕ) (id : ℤ) → IsRowidFound (is_delays number) (db 10) (Some id) → mid ≡ db → Takes changed.Delays mid next id 1 → DropsDelays db next number
drops_delays db mid next number id it same taken =
    let took = subst (λ (t : Trees). Takes changed.Delays t next id 1) same taken in
    record {
      leaves = λ release. found_one (delays_in release) (delays_of release number) (is_delays number) (λ row is. delays_here release number row is) (λ row other passed is. delays_only release number row other passed is) (db 10) (next 10) it.shown id 1 it.are it.only took.taken refl;
      rest = took.rest;
    }

-- ---- what stands in the other tables

pub others_of_facts : (db next : Trees) → rows_in next ≡ record (rows_in db) { facts = next 8 } → KeepsOthers db next
others_of_facts db next rest = record { rest = rest ∙ ap (λ rows. record (rows_in db) { facts = next 8; delays = rows }) (sym (ap (λ (r : Rows). r.delays) rest)) }

pub others_of_delays : (db next : Trees) → rows_in next ≡ record (rows_in db) { delays = next 10 } → KeepsOthers db next
others_of_delays db next rest = record { rest = rest ∙ ap (λ rows. record (rows_in db) { facts = rows; delays = next 10 }) (sym (ap (λ (r : Rows). r.facts) rest)) }

pub others_same : (db next : Trees) → next ≡ db → KeepsOthers db next
others_same db next same = others_of_facts db next (rest_same db next (ap rows_in same)).0

pub others_then : (a b c : Trees) → KeepsOthers a b → KeepsOthers b c → KeepsOthers a c
others_then a b c first second = record {
  rest = seven c (record (rows_in a) { facts = c 8; delays = c 10 })
      (ap (λ (r : Rows). r.office) second.rest ∙ ap (λ (r : Rows). r.office) first.rest)
      (ap (λ (r : Rows). r.mail) second.rest ∙ ap (λ (r : Rows). r.mail) first.rest)
      (ap (λ (r : Rows). r.runs) second.rest ∙ ap (λ (r : Rows). r.runs) first.rest)
      (ap (λ (r : Rows). r.sources) second.rest ∙ ap (λ (r : Rows). r.sources) first.rest)
      (ap (λ (r : Rows). r.rows) second.rest ∙ ap (λ (r : Rows). r.rows) first.rest)
      refl
      refl;
}

-- ---- one fact

pub delays_are : (release : ℕ) (fact : FactRow) → fact.kind ≡ Delays → fact.sender ≡ release → fact.place ≡ 0 → fact ≡ delays_of release fact.number
delays_are release fact kind sender place = λ i. record { kind = kind i; sender = sender i; number = fact.number; place = place i }

says_delays : (release : ℕ) (row : Row) (q : FactRow) → delays_in release row ≡ Some (fact_entry q) → q.kind ≡ Delays
says_delays release row q is = ap (λ (f : FactRow). f.kind) (delays_shape release row q is).3

says_others : (row : Row) (q : FactRow) → fact_in row ≡ Some (fact_entry q) → q.kind ≢ Delays
says_others row q is = never_delays q.kind q.place (fact_shape row q is).stands

module _ (release : ℕ) (db next : Trees) (fact : FactRow) where
  pub drops_fact_moves : fact.kind ≢ Delays → DropsFact db next fact → DropsOne release db next fact
  drops_fact_moves low it =
      let last : next 10 ≡ db 10 = ap (λ (r : Rows). r.delays) it.rest in
      record {
        moves = record {
          has = same_set (facts_in release (next 8) (next 10)) (remove (facts_in release (db 8) (db 10)) fact)
              (λ q h. elim (said release (next 8) (next 10) q h) [
                | inl a ↦ removed_has (facts_in release (db 8) (db 10)) fact q (λ same. it.leaves.gone a.0 a.1 (a.2 ∙ ap (λ f. Some (fact_entry f)) same)) (says release (db 8) (db 10) q (inl (a.0, it.leaves.had a.0 a.1, a.2)))
                | inr b ↦ removed_has (facts_in release (db 8) (db 10)) fact q (λ same. low (ap (λ (f : FactRow). f.kind) (sym same) ∙ says_delays release b.0 q b.2)) (says release (db 8) (db 10) q (inr (b.0, subst (λ l. Has l b.0) last b.1, b.2)))
              ])
              (λ q h.
              let r = of_removed (facts_in release (db 8) (db 10)) fact q h in
              says release (next 8) (next 10) q (elim (said release (db 8) (db 10) q r.1) [
                | inl a ↦ inl (a.0, it.leaves.others a.0 q a.1 a.2 r.0, a.2)
                | inr b ↦ inr (b.0, subst (λ l. Has l b.0) (sym last) b.1, b.2)
              ]));
          reads = λ was. record {
            fact = λ row there. was.fact row (it.leaves.had row there);
            delay = λ row there. was.delay row (subst (λ l. Has l row) last there);
            one = subst (λ l. length l ≤ 1) (sym last) was.one;
          };
        };
        others = others_of_facts db next it.rest;
      }

  pub drops_delays_moves : fact ≡ delays_of release fact.number → DropsDelays db next fact.number → DropsOne release db next fact
  drops_delays_moves is it =
      let facts : next 8 ≡ db 8 = ap (λ (r : Rows). r.facts) it.rest in
      let leaves = it.leaves release in
      let high : fact.kind ≡ Delays = ap (λ (f : FactRow). f.kind) is in
      record {
        moves = record {
          has = same_set (facts_in release (next 8) (next 10)) (remove (facts_in release (db 8) (db 10)) fact)
              (λ q h. elim (said release (next 8) (next 10) q h) [
                | inl a ↦ removed_has (facts_in release (db 8) (db 10)) fact q (λ same. says_others a.0 q a.2 (ap (λ (f : FactRow). f.kind) same ∙ high)) (says release (db 8) (db 10) q (inl (a.0, subst (λ l. Has l a.0) facts a.1, a.2)))
                | inr b ↦ removed_has (facts_in release (db 8) (db 10)) fact q (λ same. leaves.gone b.0 b.1 (b.2 ∙ ap (λ f. Some (fact_entry f)) (same ∙ is))) (says release (db 8) (db 10) q (inr (b.0, leaves.had b.0 b.1, b.2)))
              ])
              (λ q h.
              let r = of_removed (facts_in release (db 8) (db 10)) fact q h in
              says release (next 8) (next 10) q (elim (said release (db 8) (db 10) q r.1) [
                | inl a ↦ inl (a.0, subst (λ l. Has l a.0) (sym facts) a.1, a.2)
                | inr b ↦ inr (b.0, leaves.others b.0 q b.1 b.2 (λ same. r.0 (same ∙ sym is)), b.2)
              ]));
          reads = λ was. record {
            fact = λ row there. was.fact row (subst (λ l. Has l row) facts there);
            delay = λ row there. was.delay row (leaves.had row there);
            one = let few : length (next 10) ≤ length (db 10) = leaves.fewer in omega (arith, few, was.one);
          };
        };
        others = others_of_delays db next it.rest;
      }

  -- no table says a fact of the delays of another sender, or with a place
  pub drops_nothing : fact.kind ≡ Delays → (fact ≢ delays_of release fact.number) → next ≡ db → DropsOne release db next fact
  drops_nothing high other same = record {
    moves = record {
      has = ap (λ (t : Trees). facts_in release (t 8) (t 10)) same ∙ same_set (facts_in release (db 8) (db 10)) (remove (facts_in release (db 8) (db 10)) fact)
          (λ q h. removed_has (facts_in release (db 8) (db 10)) fact q (λ is. elim (said release (db 8) (db 10) q h) [
            | inl a ↦ says_others a.0 q a.2 (ap (λ (f : FactRow). f.kind) is ∙ high)
            | inr b ↦ other (sym is ∙ (delays_shape release b.0 q b.2).3 ∙ ap (λ (f : FactRow). delays_of release f.number) is)
          ]) h)
          (λ q h. (of_removed (facts_in release (db 8) (db 10)) fact q h).1);
      reads = λ was. subst (λ (t : Trees). AreRead release (t 8) (t 10)) (sym same) was;
    };
    others = others_same db next same;
  }

  fresh_keeps : (row : Row) (rows : List Row) (x : Row) → is_taken rows row ≡ false → Has rows x → Has (put_row row rows) x
  fresh_keeps row rows x free there = put_all_keeps (row ∷ []) rows x (ap (λ b. not b && true) free) there

  pub adds_fact_moves : fact.kind ≢ Delays → AddsFact db next fact → AddsOne release db next fact
  adds_fact_moves low it =
      let last : next 10 ≡ db 10 = ap (λ (r : Rows). r.delays) it.put in
      let facts : next 8 ≡ put_row it.row (db 8) = ap (λ (r : Rows). r.facts) it.put in
      record {
        moves = λ can.
            let own : fact_in it.row ≡ Some (fact_entry fact) = it.says ∙ fact_stands fact (stands can) in
            record {
              has = same_set (facts_in release (next 8) (next 10)) (insert (facts_in release (db 8) (db 10)) fact tt)
                  (λ q h. inserted_has (facts_in release (db 8) (db 10)) fact q (elim (said release (next 8) (next 10) q h) [
                    | inl a ↦ new_or_old it q a.0 (subst (λ l. Has l a.0) facts a.1) a.2 own
                    | inr b ↦ inr (says release (db 8) (db 10) q (inr (b.0, subst (λ l. Has l b.0) last b.1, b.2)))
                  ]))
                  (λ q h. says release (next 8) (next 10) q (elim (of_inserted (facts_in release (db 8) (db 10)) fact q h) [
                    | inl same ↦ inl (it.row, subst (λ l. Has l it.row) (sym facts) (has_put it.row (db 8)), own ∙ ap (λ f. Some (fact_entry f)) (sym same))
                    | inr old ↦ (elim (said release (db 8) (db 10) q old) [
                      | inl a ↦ inl (a.0, subst (λ l. Has l a.0) (sym facts) (fresh_keeps it.row (db 8) a.0 it.free a.1), a.2)
                      | inr b ↦ inr (b.0, subst (λ l. Has l b.0) (sym last) b.1, b.2)
                    ])
                  ]));
              reads = λ was. record {
                fact = λ row there. elim (put_has it.row (db 8) row (subst (λ l. Has l row) facts there)) [ inl new ↦ subst IsSome (sym (ap fact_in new ∙ own)) refl | inr old ↦ was.fact row old ];
                delay = λ row there. was.delay row (subst (λ l. Has l row) last there);
                one = subst (λ l. length l ≤ 1) (sym last) was.one;
              };
            };
        others = others_of_facts db next (it.put ∙ ap (λ rows. record (rows_in db) { facts = rows }) (sym facts));
      }
    where
      stands : CanStand release fact → may_stand fact.kind fact.place ≡ true
      stands (inl can) = can
      stands (inr is) = absurd (low (ap (λ (f : FactRow). f.kind) is))

      new_or_old : (it : AddsFact db next fact) (q : FactRow) (row : Row) → Has (put_row it.row (db 8)) row → fact_in row ≡ Some (fact_entry q) → fact_in it.row ≡ Some (fact_entry fact) → (q ≡ fact) ⊎ IsSome (get (facts_in release (db 8) (db 10)) q)
      new_or_old it q row there is own = elim (put_has it.row (db 8) row there) [
        | inl new ↦ inl (same_entry q fact (sym is ∙ ap fact_in new ∙ own))
        | inr old ↦ inr (says release (db 8) (db 10) q (inl (row, old, is)))
      ]

  pub adds_delays_moves : fact.kind ≡ Delays → AddsDelays db next fact.number → AddsOne release db next fact
  adds_delays_moves high it =
      let facts : next 8 ≡ db 8 = ap (λ (r : Rows). r.facts) it.put in
      let last : next 10 ≡ put_row it.row (db 10) = ap (λ (r : Rows). r.delays) it.put in
      record {
        moves = λ can.
            let own : delays_in release it.row ≡ Some (fact_entry fact) = it.says release ∙ ap (λ f. Some (fact_entry f)) (sym (is_delays_fact can)) in
            record {
              has = same_set (facts_in release (next 8) (next 10)) (insert (facts_in release (db 8) (db 10)) fact tt)
                  (λ q h. inserted_has (facts_in release (db 8) (db 10)) fact q (elim (said release (next 8) (next 10) q h) [
                    | inl a ↦ inr (says release (db 8) (db 10) q (inl (a.0, subst (λ l. Has l a.0) facts a.1, a.2)))
                    | inr b ↦ new_or_old it q b.0 (subst (λ l. Has l b.0) last b.1) b.2 own
                  ]))
                  (λ q h. says release (next 8) (next 10) q (elim (of_inserted (facts_in release (db 8) (db 10)) fact q h) [
                    | inl same ↦ inr (it.row, subst (λ l. Has l it.row) (sym last) (has_put it.row (db 10)), own ∙ ap (λ f. Some (fact_entry f)) (sym same))
                    | inr old ↦ (elim (said release (db 8) (db 10) q old) [
                      | inl a ↦ inl (a.0, subst (λ l. Has l a.0) (sym facts) a.1, a.2)
                      | inr b ↦ inr (b.0, subst (λ l. Has l b.0) (sym last) (fresh_keeps it.row (db 10) b.0 it.free b.1), b.2)
                    ])
                  ]));
              reads = λ was.
                  let none : db 10 ≡ [] = was_empty it was (db 10) refl in
                  record {
                    fact = λ row there. was.fact row (subst (λ l. Has l row) facts there);
                    delay = λ row there. elim (put_has it.row (db 10) row (subst (λ l. Has l row) last there)) [ inl new ↦ subst IsSome (sym (ap (delays_in release) new ∙ own)) refl | inr old ↦ was.delay row old ];
                    one = let l : length (next 10) ≡ 1 = ap length (last ∙ ap (put_row it.row) none) in omega (arith, l);
                  };
            };
        others = others_of_delays db next (it.put ∙ ap (λ rows. record (rows_in db) { delays = rows }) (sym last));
      }
    where
      is_delays_fact : CanStand release fact → fact ≡ delays_of release fact.number
      is_delays_fact (inl can) = absurd (never_delays fact.kind fact.place can high)
      is_delays_fact (inr is) = is

      new_or_old : (it : AddsDelays db next fact.number) (q : FactRow) (row : Row) → Has (put_row it.row (db 10)) row → delays_in release row ≡ Some (fact_entry q) → delays_in release it.row ≡ Some (fact_entry fact) → (q ≡ fact) ⊎ IsSome (get (facts_in release (db 8) (db 10)) q)
      new_or_old it q row there is own = elim (put_has it.row (db 10) row there) [
        | inl new ↦ inl (same_entry q fact (sym is ∙ ap (delays_in release) new ∙ own))
        | inr old ↦ inr (says release (db 8) (db 10) q (inr (row, old, is)))
      ]

      -- a row that reads has the rowid 1, which was free
      was_empty : (it : AddsDelays db next fact.number) → AreRead release (db 8) (db 10) → (rows : List Row) → db 10 ≡ rows → rows ≡ []
      was_empty it was [] is = refl
      was_empty it was (row ∷ rows) is = at (delays_in release row) refl (was.delay row (subst (λ l. Has l row) (sym is) (inl refl)))
        where
          at : (o : Option (FactRow × ⊤)) → delays_in release row ≡ o → IsSome (delays_in release row) → row ∷ rows ≡ []
          at None none some = absurd (false≢true (ap is_some (sym none) ∙ some))
          at (Some (q, u)) own some =
              let one : rowid row ≡ Int (pos 1) = (delays_shape release row q own).0 in
              let tie : is_eq (value_cmp (rowid row) (rowid it.row)) ≡ true = ap (λ v. is_eq (value_cmp v (rowid it.row))) one ∙ ap (λ v. is_eq (value_cmp (Int (pos 1)) v)) it.id ∙ itself (pos 1) in
              absurd (true≢false (sym (ap (λ b. b || is_taken rows it.row) tie) ∙ sym (ap (λ l. is_taken l it.row) is) ∙ it.free))

-- ---- facts, one after another

push_without : (xs : List FactRow) (x : FactRow) (facts : FactSet) → without_rows (xs ++ x ∷ []) facts ≡ remove (without_rows xs facts) x
push_without [] x facts = refl
push_without (y ∷ xs) x facts = push_without xs x (remove facts y)

any_default : {X : Type 0} (xs : List X) (i : ℕ) (d e : X) → i < length xs → get_or xs i d ≡ get_or xs i e
any_default [] i d e h = absurd (omega (arith, h))
any_default (x ∷ xs) zero d e h = refl
any_default (x ∷ xs) (suc i) d e h = any_default xs i d e (omega (arith, h))

module _ (release : ℕ) where
  pub moves_then : (a b c : Trees) (f g : FactSet → FactSet) → MovesFacts release a b f → MovesFacts release b c g → MovesFacts release a c (λ facts. g (f facts))
  moves_then a b c f g first second = record { has = second.has ∙ ap g first.has; reads = λ was. second.reads (first.reads was) }

  pub drops_start : (db next : Trees) → next ≡ db → DropsEach release db next []
  drops_start db next same = record { moves = record { has = ap (λ (t : Trees). facts_in release (t 8) (t 10)) same; reads = λ was. subst (λ (t : Trees). AreRead release (t 8) (t 10)) (sym same) was }; others = others_same db next same }

  pub drops_step : (a b c : Trees) (facts : List FactRow) (i : ℕ) (fact : FactRow) → i < length facts → fact ≡ get_or facts i fact → DropsEach release a b (take i facts) → DropsOne release b c fact → DropsEach release a c (take (i + 1) facts)
  drops_step a b c facts i fact within is so_far one =
      let front : take (i + 1) facts ≡ take i facts ++ fact ∷ [] = take_more facts i fact within ∙ ap (λ f. take i facts ++ f ∷ []) (sym is) in
      let both = moves_then a b c (without_rows (take i facts)) (λ set. remove set fact) so_far.moves one.moves in
      record {
        moves = record { has = both.has ∙ sym (push_without (take i facts) fact (facts_in release (a 8) (a 10))) ∙ ap (λ l. without_rows l (facts_in release (a 8) (a 10))) (sym front); reads = both.reads };
        others = others_then a b c so_far.others one.others;
      }

  pub adds_start : (db next : Trees) → next ≡ db → AddsEach release db next []
  adds_start db next same = record {
    moves = λ can. record { has = ap (λ (t : Trees). facts_in release (t 8) (t 10)) same; reads = λ was. subst (λ (t : Trees). AreRead release (t 8) (t 10)) (sym same) was };
    others = others_same db next same;
  }

  with_joined : (xs ys : List FactRow) (facts : FactSet) → with_rows (xs ++ ys) facts ≡ with_rows ys (with_rows xs facts)
  with_joined [] ys facts = refl
  with_joined (x ∷ xs) ys facts = with_joined xs ys (insert facts x tt)

  adds_then : (a b c : Trees) (xs ys : List FactRow) → AddsEach release a b xs → AddsEach release b c ys → AddsEach release a c (xs ++ ys)
  adds_then a b c xs ys first second = record {
    moves = λ can.
        let both = moves_then a b c (with_rows xs) (with_rows ys) (first.moves (λ f there. can f (has_joined xs ys f (inl there)))) (second.moves (λ f there. can f (has_joined xs ys f (inr there)))) in
        record { has = both.has ∙ sym (with_joined xs ys (facts_in release (a 8) (a 10))); reads = both.reads };
    others = others_then a b c first.others second.others;
  }

  -- the next facts of a list
  pub adds_on : (a b c : Trees) (facts : List FactRow) (i k : ℕ) → AddsEach release a b (take i facts) → AddsEach release b c (take k (take (length facts - i) (drop i facts))) → AddsEach release a c (take (i + k) facts)
  adds_on a b c facts i k first second = subst (AddsEach release a c) (sym (take_on facts i k)) (adds_then a b c (take i facts) (take k (take (length facts - i) (drop i facts))) first second)

  adds_alone : (a b : Trees) (fact : FactRow) → AddsOne release a b fact → AddsEach release a b (fact ∷ [])
  adds_alone a b fact one = record { moves = λ can. one.moves (can fact (inl refl)); others = one.others }

  -- the first fact of a list
  pub adds_head : (a b : Trees) (facts : List FactRow) (d : FactRow) → 0 < length facts → AddsOne release a b (get_or facts 0 d) → AddsEach release a b (take 1 facts)
  adds_head a b [] d some one = absurd (omega (arith, some))
  adds_head a b (fact ∷ facts) d some one = adds_alone a b fact one

  pub adds_facts_each : (a b : Trees) (facts : List FactRow) → list_all is_no_delays facts ≡ true → AddsFacts a b facts → AddsEach release a b facts
  adds_facts_each a b [] low same = adds_start a b same
  adds_facts_each a b (fact ∷ facts) low it =
      let parts = not_true _ _ low in
      adds_then a it.0 b (fact ∷ []) facts (adds_alone a it.0 fact (adds_fact_moves release a it.0 fact (kinds_apart fact.kind Delays parts.0) it.1)) (adds_facts_each it.0 b facts parts.1 it.2)

  -- the same of the fact at a place
  pub drops_at : (a b c : Trees) (facts : List FactRow) (i : ℕ) (d : FactRow) → i < length facts → DropsEach release a b (take i facts) → DropsOne release b c (get_or facts i d) → DropsEach release a c (take (i + 1) facts)
  drops_at a b c facts i d within so_far one = drops_step a b c facts i (get_or facts i d) within (any_default facts i d (get_or facts i d) within) so_far one

  pub changes : (a b c : Trees) (it : FactChanges) → DropsEach release a b it.gone → AddsEach release b c it.put → ChangesFacts release a c it
  changes a b c it first second = record {
    moves = λ can. moves_then a b c (without_rows it.gone) (with_rows it.put) first.moves (second.moves can);
    others = others_then a b c first.others second.others;
  }

-- ---- which facts can stand

has_put_rows : (rows : List FactRow) (facts : FactSet) (q : FactRow) → Has rows q ⊎ HasRow facts q → HasRow (with_rows rows facts) q
has_put_rows [] facts q (inl there) = absurd there
has_put_rows [] facts q (inr there) = there
has_put_rows (x ∷ rows) facts q (inl (inl same)) = has_put_rows rows (insert facts x tt) q (inr (inserted_has facts x q (inl same)))
has_put_rows (x ∷ rows) facts q (inl (inr there)) = has_put_rows rows (insert facts x tt) q (inl there)
has_put_rows (x ∷ rows) facts q (inr there) = has_put_rows rows (insert facts x tt) q (inr (inserted_has facts x q (inr there)))

can_stand : (release : ℕ) (q : FactRow) → IsFactRow q → (q.kind ≡ Delays → q.sender ≡ release) → CanStand release q
can_stand release q is own = elim is.place [
  | inl build ↦ inl (ap (λ k. may_stand k q.place) build)
  | inr none ↦ go q.kind refl none
]
  where
    go : (k : FactKind) → q.kind ≡ k → q.place ≡ 0 → CanStand release q
    go Source e none = inl (ap (λ k. may_stand k q.place) e ∙ ap (λ p. p == 0) none)
    go Upload e none = inl (ap (λ k. may_stand k q.place) e ∙ ap (λ p. p == 0) none)
    go Build e none = inl (ap (λ k. may_stand k q.place) e)
    go Drop e none = inl (ap (λ k. may_stand k q.place) e ∙ ap (λ p. p == 0) none)
    go Bug e none = inl (ap (λ k. may_stand k q.place) e ∙ ap (λ p. p == 0) none)
    go Hint e none = inl (ap (λ k. may_stand k q.place) e ∙ ap (λ p. p == 0) none)
    go Unhint e none = inl (ap (λ k. may_stand k q.place) e ∙ ap (λ p. p == 0) none)
    go Delays e none = inr (delays_are release q e (own e) none)

-- what is put can stand, where what comes of it is holdable
pub holdable_stands : (setup : Lists) (changes : FactChanges) (facts : FactSet) → AreHoldable setup (facts_after changes facts) → CanStandEach (release_place setup) changes.put
holdable_stands setup changes facts holdable q there =
    let in_it : HasRow (facts_after changes facts) q = has_put_rows changes.put (without_rows changes.gone facts) q (inl there) in
    can_stand (release_place setup) q (holdable.each q in_it) (holdable.release q in_it)
