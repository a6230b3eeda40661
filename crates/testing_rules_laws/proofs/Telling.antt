-- Facts of the same rows are the same, where the messages of one set say them.
use Rattle.std.specs.Prelude.{List, [], map, Contains, Option, Some, None, option_to_list, ◌==◌}
use Rattle.std.proofs.Common.{◌≡◌, refl, sym, ap, ◌∙◌, subst, inl, inr}
use Rattle.std.specs.Str.{bytes_eq}
use Rattle.std.specs.Ordering.{nat_cmp}
use Rattle.std.proofs.lemmas.Cmp.{nat_cmp_total}
use Rattle.testing_rules_model.specs.declared.facts.BuildIn.{BuildIn}
use Rattle.testing_rules_model.specs.declared.facts.DelaysIn.{DelaysIn}
use Rattle.testing_rules_model.specs.FactLists.{FactLists}
use Rattle.testing_rules_model.specs.FactOrder.{AreBySource, AreByPair}
use Rattle.testing_rules_model.specs.steps.FactOrder.{AreDropsByPair, AreByNumber}
use Rattle.testing_rules_model.specs.Suite.{Suite}
use Rattle.testing_rules_model.specs.Covered.{Covered, upload_of, drop_of, bug_of, hint_of, unhint_of, delays_of, builds_of, uploads_in, builds_in, drops_in, bugs_in, hints_in, unhints_in, delays_in}
use Rattle.testing_rules_items.specs.Words.{byte_cmp, sorted_by}
use Rattle.testing_rules_model.specs.Unstable.{pair_order, pair_of, drop_pair, is_drop_of, is_above_drops}
use Rattle.testing_rules_model.specs.SameMessages.{SameElements, HasOneOfEach}
use Rattle.testing_rules_model.specs.StandsFor.{StandsFor}
use Rattle.testing_rules_items.proofs.Members.{none_among, head_of}
use Rattle.testing_rules_model.proofs.SameFacts.{upload_numbered, drop_numbered, bug_numbered, hint_numbered, unhint_numbered, delays_numbered, builds_numbered, one_build, one_given}
use Rattle.testing_rules_model.proofs.Sets.{first_or_rest, maps, mapped_from, spread_from, from_sorted}
use Rattle.testing_rules_model.proofs.Orders.{text_order, upload_total, build_total, drop_total, bug_total, hint_total, unhint_total}
use Rattle.testing_rules_model.proofs.MoreMail.{pair_total, counts_for}
use Rattle.testing_rules_model.specs.declared.fact_row.FactKind.{FactKind}
use Rattle.testing_rules_model.specs.declared.fact_row.FactKind.TheVariants.{Source, Upload, Build, Drop, Bug, Hint, Unhint, Delays}
use Rattle.testing_rules_model.specs.declared.fact_row.FactRow.{FactRow}
use Rattle.testing_rules_model.specs.FactRows.{upload_row, rows_of}
use Rattle.testing_rules_model.specs.steps.FactRows.{source_row, build_row, drop_row, bug_row, hint_row, unhint_row, delays_row}
use Rattle.testing_rules_laws.specs.steps.Restored.{AreSameFacts}
use Rattle.testing_rules_laws.specs.steps.SameRows.{AreSaidBy, AreOrderly}
use Rattle.testing_rules_laws.proofs.Orderly.{in_order_once}
use Rattle.testing_rules_laws.proofs.Naming.{of_sources, of_uploads, of_rows, of_drops, of_bugs, of_hints, of_unhints, of_delays, has_source, has_upload, has_build, has_drop, has_bug, has_hint, has_unhint, to8}
use Rattle.testing_rules_laws.proofs.Restoring.{sources_order, drops_order, bugs_order, rows_order, in_order_itself, sorted_strictly, chosen_from, delays_from, same_stand}

-- Lists of one kind whose elements a row tells apart.
module _ {B : Type 0} (row : B → FactRow) (k : FactKind) (kind : (b : B) → (row b).kind ≡ k) (pool : List B)
    (tell : (x y : B) → Contains pool x → Contains pool y → row x ≡ row y → x ≡ y) where
  half : (xs ys : List B) (rf rg : List FactRow) → ((r : FactRow) → Contains rf r → Contains rg r) → ((x : B) → Contains xs x → Contains pool x) → ((y : B) → Contains ys y → Contains pool y)
      → ((r : FactRow) → Contains (map row xs) r → Contains rf r) → ((r : FactRow) → Contains rg r → r.kind ≡ k → Contains (map row ys) r) → (x : B) → Contains xs x → Contains ys x
  half xs ys rf rg same px py has of x c =
      let q = of (row x) (same (row x) (has (row x) (maps row xs x c))) (kind x) in
      let y = mapped_from row ys (row x) q in
      subst (Contains ys) (tell y.0 x (py y.0 y.1) (px x c) y.2) y.1

  pub both : (xs ys : List B) (rf rg : List FactRow) → SameElements rf rg → ((x : B) → Contains xs x → Contains pool x) → ((y : B) → Contains ys y → Contains pool y)
      → ((r : FactRow) → Contains (map row xs) r → Contains rf r) → ((r : FactRow) → Contains (map row ys) r → Contains rg r)
      → ((r : FactRow) → Contains rf r → r.kind ≡ k → Contains (map row xs) r) → ((r : FactRow) → Contains rg r → r.kind ≡ k → Contains (map row ys) r) → SameElements xs ys
  both xs ys rf rg same px py hx hy ox oy = (half xs ys rf rg same.0 px py hx oy, half ys xs rg rf same.1 py px hy ox)

module _ (s : Covered) (one : HasOneOfEach s) where
  -- builds of a set are told by their rows
  pub told_build : (x y : BuildIn) → Contains (builds_in s) x → Contains (builds_in s) y → build_row x ≡ build_row y → x ≡ y
  told_build x y c d e =
      let m = spread_from builds_of s x c in
      let o = spread_from builds_of s y d in
      let bm = builds_numbered m.0.sender m.0.number m.0.item x m.2 in
      let bo = builds_numbered o.0.sender o.0.number o.0.item y o.2 in
      let same = one m.0 o.0 m.1 o.1 (sym bm.0 ∙ ap (λ (r : FactRow). r.sender) e ∙ bo.0) (sym bm.1 ∙ ap (λ (r : FactRow). r.number) e ∙ bo.1) in
      one_build m.0.sender m.0.number m.0.item x y m.2 (subst (λ w. Contains (builds_of w) y) (sym same) o.2) (ap (λ (r : FactRow). r.place) e)

  one_option : (v w : Option DelaysIn) → SameElements (option_to_list v) (option_to_list w) → w ≡ v
  one_option None None same = refl
  one_option None (Some y) same = none_among y (same.1 y (head_of y []))
  one_option (Some x) None same = none_among x (same.0 x (head_of x []))
  one_option (Some x) (Some y) same = elim (first_or_rest x [] y (same.1 y (head_of y []))) [ inl e ↦ ap Some (sym e) | inr none ↦ none_among y none ]

  module _ (f g : FactLists) (sf : AreSaidBy f s) (sg : AreSaidBy g s) (of : AreOrderly f) (og : AreOrderly g) (same : SameElements (rows_of f) (rows_of g)) where
    abbrev rf : List FactRow
    rf = rows_of f

    abbrev rg : List FactRow
    rg = rows_of g

    pub same_facts : AreSameFacts f g
    same_facts = record {
      sources = sym (in_order_once (λ u. u.source) text_order f.sources g.sources of.by_source og.by_source
          (both source_row Source (λ u. refl) (uploads_in s) (λ x y c d e. one_given upload_of (λ u. u.sender) (λ u. u.number) (λ m. upload_numbered m.sender m.number m.item) s one x y c d (ap (λ (r : FactRow). r.sender) e) (ap (λ (r : FactRow). r.number) e))
          f.sources g.sources rf rg same sf.sources sg.sources (has_source f) (has_source g) (of_sources f) (of_sources g)));
      uploads =
          let p = both upload_row Upload (λ u. refl) (uploads_in s) (λ x y c d e. one_given upload_of (λ u. u.sender) (λ u. u.number) (λ m. upload_numbered m.sender m.number m.item) s one x y c d (ap (λ (r : FactRow). r.sender) e) (ap (λ (r : FactRow). r.number) e))
          f.uploads g.uploads rf rg same sf.uploads sg.uploads (has_upload f) (has_upload g) (of_uploads f) (of_uploads g) in
          (p.1, p.0);
      rows = sym (in_order_once pair_of pair_total f.rows g.rows of.by_pair og.by_pair
          (both build_row Build (λ u. refl) (builds_in s) told_build f.rows g.rows rf rg same sf.rows sg.rows (has_build f) (has_build g) (of_rows f) (of_rows g)));
      drops = sym (in_order_once drop_pair pair_total f.drops g.drops of.drops_by_pair og.drops_by_pair
          (both drop_row Drop (λ u. refl) (drops_in s) (λ x y c d e. one_given drop_of (λ u. u.sender) (λ u. u.number) (λ m. drop_numbered m.sender m.number m.item) s one x y c d (ap (λ (r : FactRow). r.sender) e) (ap (λ (r : FactRow). r.number) e))
          f.drops g.drops rf rg same sf.drops sg.drops (has_drop f) (has_drop g) (of_drops f) (of_drops g)));
      bugs = sym (in_order_once (λ b. b.bug) nat_cmp_total f.bugs g.bugs of.by_number og.by_number
          (both bug_row Bug (λ u. refl) (bugs_in s) (λ x y c d e. one_given bug_of (λ u. u.sender) (λ u. u.number) (λ m. bug_numbered m.sender m.number m.item) s one x y c d (ap (λ (r : FactRow). r.sender) e) (ap (λ (r : FactRow). r.number) e))
          f.bugs g.bugs rf rg same sf.bugs sg.bugs (has_bug f) (has_bug g) (of_bugs f) (of_bugs g)));
      hints = sym (in_order_once (λ x. x) hint_total f.hints g.hints (in_order_itself hint_total f.hints of.hints) (in_order_itself hint_total g.hints og.hints)
          (both hint_row Hint (λ u. refl) (hints_in s) (λ x y c d e. one_given hint_of (λ u. u.sender) (λ u. u.number) (λ m. hint_numbered m.sender m.number m.item) s one x y c d (ap (λ (r : FactRow). r.sender) e) (ap (λ (r : FactRow). r.number) e))
          f.hints g.hints rf rg same sf.hints sg.hints (has_hint f) (has_hint g) (of_hints f) (of_hints g)));
      unhints = sym (in_order_once (λ x. x) unhint_total f.unhints g.unhints (in_order_itself unhint_total f.unhints of.unhints) (in_order_itself unhint_total g.unhints og.unhints)
          (both unhint_row Unhint (λ u. refl) (unhints_in s) (λ x y c d e. one_given unhint_of (λ u. u.sender) (λ u. u.number) (λ m. unhint_numbered m.sender m.number m.item) s one x y c d (ap (λ (r : FactRow). r.sender) e) (ap (λ (r : FactRow). r.number) e))
          f.unhints g.unhints rf rg same sf.unhints sg.unhints (has_unhint f) (has_unhint g) (of_unhints f) (of_unhints g)));
      delays = one_option f.delays g.delays
          (both delays_row Delays (λ u. refl) (delays_in s) (λ x y c d e. one_given delays_of (λ u. u.sender) (λ u. u.number) (λ m. delays_numbered m.sender m.number m.item) s one x y c d (ap (λ (r : FactRow). r.sender) e) (ap (λ (r : FactRow). r.number) e))
          (option_to_list f.delays) (option_to_list g.delays) rf rg same sf.delays sg.delays (to8 f) (to8 g) (of_delays f) (of_delays g));
    }

-- facts that stand for a set are said by it, and in order
module _ (f : FactLists) (s : Covered) (t : Suite) (h : StandsFor f s t) where
  pub said_so : AreSaidBy f s
  said_so = record {
    sources = λ u c. chosen_from upload_total (λ name v. bytes_eq v.source name) (uploads_in s) (sorted_by (λ n. n) byte_cmp (map (λ v. v.source) (uploads_in s))) u (subst (λ l. Contains l u) h.sources c);
    uploads = h.are_uploads;
    rows = λ b c. chosen_from build_total (counts_for (is_above_drops s)) (builds_in s) (sorted_by (λ p. p) pair_order (map pair_of (builds_in s))) b (subst (λ l. Contains l b) h.rows c);
    drops = λ d c. chosen_from drop_total (λ p. is_drop_of p.0 p.1) (drops_in s) (sorted_by (λ p. p) pair_order (map drop_pair (drops_in s))) d (subst (λ l. Contains l d) h.drops c);
    bugs = λ b c. chosen_from bug_total (λ n b. b.bug == n) (bugs_in s) (sorted_by (λ n. n) nat_cmp (map (λ b. b.bug) (bugs_in s))) b (subst (λ l. Contains l b) h.bugs c);
    hints = λ x c. from_sorted hint_total (hints_in s) x (subst (λ l. Contains l x) h.hints c);
    unhints = λ x c. from_sorted unhint_total (unhints_in s) x (subst (λ l. Contains l x) h.unhints c);
    delays = delays_from s f.delays h.delays;
  }

  pub in_order_so : AreOrderly f
  in_order_so = record {
    by_source = subst AreBySource (sym h.sources) (sources_order (uploads_in s));
    by_pair = subst AreByPair (sym h.rows) (rows_order (is_above_drops s) (builds_in s));
    drops_by_pair = subst AreDropsByPair (sym h.drops) (drops_order (drops_in s));
    by_number = subst AreByNumber (sym h.bugs) (bugs_order (bugs_in s));
    hints = rw h.hints (sorted_strictly hint_total (hints_in s));
    unhints = rw h.unhints (sorted_strictly unhint_total (unhints_in s));
  }

pub rows_tell : (f g : FactLists) (s : Covered) (t : Suite) → HasOneOfEach s → StandsFor f s t → AreSaidBy g s → AreOrderly g → SameElements (rows_of f) (rows_of g) → StandsFor g s t
rows_tell f g s t one h said order same = same_stand f g s t (same_facts s one f g (said_so f s t h) said (in_order_so f s t h) order same) h

pub stands_are_said : (f : FactLists) (s : Covered) (t : Suite) → StandsFor f s t → AreSaidBy f s × AreOrderly f
stands_are_said f s t h = (said_so f s t h, in_order_so f s t h)
