-- What is read in the tables of testing, where an office wrote them.
use Rattle.std.proofs.Common.{◌≡◌, ℕ, List, [], map, filter_map, fold, length, Option, Some, refl, sym, ap, subst, ◌∙◌, IsSome}
use Rattle.std.proofs.lemmas.List.{length-map}
use Rattle.std.specs.Cmp.{IsTotalOrder}
use Rattle.std.specs.List.Sorted.{IsPermutation}
use Rattle.std.specs.declared.cmp.Ordering.{Ordering}
use Rattle.std.specs.FinMap.{IsAntisymmetric, empty, get, len, entries, from_entries, len-entries}
use Rattle.sqlite.specs.Order.{Row}
use Rattle.sqlite_rules.specs.Lists.{Has}
use Rattle.sqlite_rules.proofs.ListLemmas.{has_contained}
use Rattle.testing_rules_items.specs.Words.{put_by}
use Rattle.testing_rules_model.specs.Moves.{row_key}
use Rattle.testing_rules_model.specs.declared.suite.SourceIn.{SourceIn}
use Rattle.testing_rules_model.specs.declared.suite.RowIn.{RowIn}
use Rattle.testing_rules_model.proofs.Orders.{text_order}
use Rattle.office_mail.specs.Lists.{Lists}
use Rattle.office_mail.specs.Kept.{Kept, Place}
use Rattle.office_store_testing_tables.specs.Entries.{source_in, source_map, entry_in, entry_map}
use Rattle.office_store_testing_tables.specs.steps.EntrySteps.{source_columns, source_shown, entry_columns, row_shown}
use Rattle.office_store_testing_tables.specs.TableContent.{source_at, row_at}
use Rattle.office_store_testing_tables.specs.steps.TableContent.{source_of, row_of, ReadsEach, put_all_sources, put_all_rows}
use Rattle.office_store_testing_tables.specs.steps.ReadingSteps.{source_by_entry, row_by_entry}
use Rattle.office_store_testing_tables.specs.Legible.{IsWhole}
use Rattle.office_store_testing_tables.proofs.MailLemmas.{has_permuted, as_many}
use Rattle.office_store_testing_tables.proofs.SettingLemmas.{text_exact, row_order, row_exact}
use Rattle.office_store_testing_tables.proofs.EntryMaps.{last_of, last_is_first}
use Rattle.office_store_testing_tables.proofs.EntryValues.{read_has, has_map, said_are, shown_in, in_shown, entries_put, source_tells, row_tells}
use Rattle.office_store_testing_tables.proofs.Whole.{whole_reads, whole_gets}

-- Rows of a table that is whole, each of which is read as its entry is.
module _ {K V X : Type 0} {R : K → K → Ordering} (total : IsTotalOrder R) (exact : IsAntisymmetric R) (columns : Row → Row) (read : Row → Option X) (said : Row → Option (K × V)) (at : K × V → Option X)
    (shown : (row : Row) → said (columns row) ≡ said row) (twice : (row : Row) → columns (columns row) ≡ columns row) (of_entry : (row : Row) (e : K × V) → said row ≡ Some e → read row ≡ at e)
    (table rows : List Row) (same : IsPermutation (map columns table) rows) (whole : len (from_entries {R = R} (filter_map said table)) ≡ length table) where
  -- each row that is shown reads
  pub reads_each : ((k : K) (v : V) → get (from_entries {R = R} (filter_map said table)) k ≡ Some v → IsSome (at (k, v))) → ReadsEach columns read rows
  reads_each named row there =
      let c = has_map columns table row (has_permuted (map columns table) rows row same (has_contained rows row there)) in
      let e = whole_reads total exact said table whole c.0 c.1 in
      let stands : get (from_entries {R = R} (filter_map said table)) e.0.0 ≡ Some e.0.1 = whole_gets total exact said table whole c.0 e.0 c.1 e.1 in
      let is : read row ≡ at e.0 = of_entry row e.0 (ap said c.2 ∙ shown c.0 ∙ e.1) in
      (c.2 ∙ sym (twice c.0) ∙ ap columns (sym c.2), subst (λ (o : Option X). IsSome o) (sym is) (named e.0.0 e.0.1 stands))

  -- each key stands for one value
  stands_there : (q : K) (v : V) → Has (filter_map said table) (q, v) → get (from_entries {R = R} (filter_map said table)) q ≡ Some v
  stands_there q v there = let r = read_has said table (q, v) there in whole_gets total exact said table whole r.0 (q, v) r.1 r.2

  stands_once : (q : K) (v w : V) → Has (filter_map said table) (q, v) → Has (filter_map said table) (q, w) → v ≡ w
  stands_once q v w a b = let e : Some v ≡ Some w = sym (stands_there q v a) ∙ stands_there q w b in cc

  module _ (key : X → K) (val : X → V) (says : (row : Row) (x : X) → read row ≡ Some x → (said row ≡ Some (key x, val x)) × (at (key x, val x) ≡ Some x)) where
    abbrev entry : X → K × V
    entry x = (key x, val x)

    -- what is put in order by its keys has as many elements as there are rows
    pub put_each : (xs : List X) → map read rows ≡ map Some xs → length (fold (λ zs x. put_by key R x zs) [] xs) ≡ length xs
    put_each xs named =
        let are : filter_map said rows ≡ map entry xs = said_are columns read said entry at shown says rows xs named in
        let there = λ (q : K) (v : V) (h : Has (map entry xs) (q, v)). shown_in columns read said entry at shown says table rows same (q, v) (subst (λ l. Has l (q, v)) (sym are) h) in
        let here = λ (q : K) (v : V) (h : Has (filter_map said table) (q, v)). subst (λ l. Has l (q, v)) are (in_shown columns read said entry at shown says table rows same (q, v) h) in
        let is : last_of total exact (empty {R = R}) (map entry xs) ≡ from_entries {R = R} (filter_map said table) =
        last_is_first total exact (map entry xs) (filter_map said table) there here (λ q v w a b. stands_once q v w (there q v a) (there q w b)) in
        let put : map entry (fold (λ zs x. put_by key R x zs) [] xs) ≡ entries (last_of total exact (empty {R = R}) (map entry xs)) =
        entries_put total exact key val columns read said at shown says table rows xs same named in
        let a : length (map entry (fold (λ zs x. put_by key R x zs) [] xs)) ≡ length (fold (λ zs x. put_by key R x zs) [] xs) = length-map _ _ in
        let b : length (entries (last_of total exact (empty {R = R}) (map entry xs))) ≡ len (last_of total exact (empty {R = R}) (map entry xs)) = sym (len-entries _) in
        let c : length (map read rows) ≡ length rows = length-map _ _ in
        let d : length (map Some xs) ≡ length xs = length-map _ _ in
        let m : length table ≡ length rows = as_many columns table rows same in
        sym a ∙ ap length put ∙ b ∙ ap len is ∙ whole ∙ m ∙ sym c ∙ ap length named ∙ d

-- ---- sources

module _ (setup : Lists) (kept : Kept) (table rows : List Row) (same : IsPermutation (map source_columns table) rows) (whole : IsWhole (source_map table) table) where
  source_is : (row : Row) (e : List ℕ × Place) → source_in row ≡ Some e → source_of setup kept row ≡ source_at setup kept e
  unfolding source_of
  source_is row e is = ap (source_by_entry setup kept) is

  pub sources_read : ((name : List ℕ) (p : Place) → get (source_map table) name ≡ Some p → IsSome (source_at setup kept (name, p))) → ReadsEach source_columns (source_of setup kept) rows
  sources_read named = reads_each text_order text_exact source_columns (source_of setup kept) source_in (source_at setup kept) source_shown (λ row. refl) source_is table rows same whole named

  pub sources_put : (xs : List SourceIn) → map (source_of setup kept) rows ≡ map Some xs → length (put_all_sources xs []) ≡ length xs
  sources_put xs are =
      put_each text_order text_exact source_columns (source_of setup kept) source_in (source_at setup kept) source_shown (λ row. refl) source_is table rows same whole
      (λ (s : SourceIn). s.name) (λ (s : SourceIn). (s.sender, s.number)) (source_tells setup kept) xs are

-- ---- rows

module _ (setup : Lists) (kept : Kept) (table rows : List Row) (same : IsPermutation (map entry_columns table) rows) (whole : IsWhole (entry_map table) table) where
  row_is : (row : Row) (e : (ℕ × List ℕ) × (Place × ℕ)) → entry_in row ≡ Some e → row_of setup kept row ≡ row_at setup kept e
  unfolding row_of
  row_is row e is = ap (row_by_entry setup kept) is

  pub rows_read : ((key : ℕ × List ℕ) (value : Place × ℕ) → get (entry_map table) key ≡ Some value → IsSome (row_at setup kept (key, value))) → ReadsEach entry_columns (row_of setup kept) rows
  rows_read named = reads_each row_order row_exact entry_columns (row_of setup kept) entry_in (row_at setup kept) row_shown (λ row. refl) row_is table rows same whole named

  pub rows_put : (xs : List RowIn) → map (row_of setup kept) rows ≡ map Some xs → length (put_all_rows xs []) ≡ length xs
  rows_put xs are =
      put_each row_order row_exact entry_columns (row_of setup kept) entry_in (row_at setup kept) row_shown (λ row. refl) row_is table rows same whole
      row_key (λ (r : RowIn). ((r.sender, r.number), r.place)) (row_tells setup kept) xs are
