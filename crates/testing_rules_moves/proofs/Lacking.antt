-- A move is refused where a row that comes has a clause that no row meets which stands or comes.
use Rattle.std.specs.Prelude.{ℕ, ◌==◌, Bool, true, false, ◌&&◌, ◌||◌, not, List, [], ◌∷◌, ◌++◌, Contains, Option, Some, None, map, filter, length, option_map, is_none}
use Rattle.std.specs.List.{slice_get, list_all, filter_map, cons_option, range_with_len}
use Rattle.std.specs.Option.{option_map_or}
use Rattle.std.specs.Str.{bytes_eq}
use Rattle.std.specs.declared.cmp.Ordering.{Ordering}
use Rattle.std.proofs.Common.{◌≡◌, refl, sym, ap, ◌∙◌, subst, arith, inl, inr, ◌⊎◌}
use Rattle.std.proofs.lemmas.Bool.{false≢true}
use Rattle.std.proofs.lemmas.List.FromFn.{length-range_with_len, get_or-range_with_len}
use Rattle.std.proofs.lemmas.Option.{same_Some, slice_get_within}
use Rattle.std.proofs.lemmas.Slice.Eq.{bytes_eq-Decides}
use Rattle.deb_control.specs.declared.binary.Binary.{Binary}
use Rattle.deb_control.specs.declared.relation.Clause.{Clause}
use Rattle.testing_install.specs.Closed.{marked}
use Rattle.testing_install.specs.Installable.{are_installable}
use Rattle.testing_install.specs.Satisfies.{meets}
use Rattle.testing_install.proofs.Choosing.{are_exact}
use Rattle.testing_rules_items.specs.Words.{Text, byte_cmp, lesser, least, all_place}
use Rattle.testing_rules_items.proofs.Members.{none_among}
use Rattle.testing_rules_items.proofs.Tests.{both_true}
use Rattle.testing_rules_live.specs.steps.Lacks.{arriving, meets_on, IsUnmet, IsLackOfMove, NoneMeets, Lacks}
use Rattle.testing_rules_model.specs.declared.facts.UploadIn.{UploadIn}
use Rattle.testing_rules_model.specs.declared.suite.RowIn.{RowIn}
use Rattle.testing_rules_model.specs.declared.update.Offender.{Offender}
use Rattle.testing_rules_model.specs.InOrder.{AreByKey}
use Rattle.testing_rules_model.specs.Moves.{group_sources, move_group, rows_on, is_row_of, is_watched_on, was_installable, fails_on, first_failing, judged_on, offender_on, first_of, offender_of, RowAnswer}
use Rattle.testing_rules_model.specs.steps.Moves.{is_row_on}
use Rattle.testing_rules_model.specs.steps.SourceFilter.{hash_passes, passing_rows}
use Rattle.testing_rules_model.specs.Suite.{Suite}
use Rattle.testing_rules_model.specs.Unstable.{is_current}
use Rattle.testing_rules_model.proofs.Least.{from_filter, to_filter}
use Rattle.testing_rules_model.proofs.Ordered.{by_key-put_all, by_key-kept}
use Rattle.testing_rules_model.proofs.Sets.{first_or_rest, gives, spread_from, spreads, maps}
use Rattle.testing_rules_suites.specs.steps.AfterMoves.{rows_at}
use Rattle.testing_rules_suites.specs.steps.Changes.{has, comes_at, stands_for, AreThose, IsMoveOf}
use Rattle.testing_rules_suites.specs.Present.{IsShown}
use Rattle.testing_rules_suites.specs.steps.PresentSteps.{IsOn, IsLive, PoolState}
use Rattle.testing_rules_suites.specs.steps.Trials.{is_place_on}
use Rattle.testing_rules_suites.proofs.Arranging.{at_some_of, move_of_places, from_has, to_has}
use Rattle.testing_rules_suites.proofs.Lost.{any_of, contains_at, at_place, get_map, of_map, judged_at}
use Rattle.testing_rules_suites.proofs.Moving.{IsMove, AreOthers, puts_from, puts_have, source_of_group}
use Rattle.testing_rules_suites.proofs.Shown.{itself_or_other}

-- Something is given.

lesser-some : {A : Type 0} (cmp : A → A → Ordering) (x : A) (v : Option A) → is_none (lesser cmp x v) ≡ false
lesser-some cmp x None = refl
lesser-some cmp x (Some y) = refl

-- the least of some elements
least-some : {A : Type 0} (cmp : A → A → Ordering) (xs : List A) (x : A) → Contains xs x → is_none (least cmp xs) ≡ false
least-some cmp [] x c = none_among x c
least-some cmp (y ∷ xs) x c = lesser-some cmp y (least cmp xs)

first-cons : {B : Type 0} (v : Option B) (ys : List B) → (is_none v ≡ false) ⊎ (is_none (first_of ys) ≡ false) → is_none (first_of (cons_option v ys)) ≡ false
first-cons None ys (inl own) = absurd (false≢true (sym own))
first-cons None ys (inr rest) = rest
first-cons (Some y) ys h = refl

-- the first that a function gives, where it gives something for an element
first-some : {A B : Type 0} (f : A → Option B) (xs : List A) (x : A) → Contains xs x → is_none (f x) ≡ false → is_none (first_of (filter_map f xs)) ≡ false
first-some f [] x c h = none_among x c
first-some f (y ∷ xs) x c h = first-cons (f y) (filter_map f xs) (elim (first_or_rest y xs x c) [
  | inl same ↦ inl (ap (λ z. is_none (f z)) same ∙ h)
  | inr among ↦ inr (first-some f xs x among h)
])

mapped-some : {A B : Type 0} (f : A → B) (v : Option A) → is_none v ≡ false → is_none (option_map f v) ≡ false
mapped-some f None h = absurd (false≢true (sym h))
mapped-some f (Some x) h = refl

watched-on : (own all first : Bool) → (own || (all && first)) ≡ true → (own || all) ≡ true
watched-on true all first h = refl
watched-on false true first h = refl
watched-on false false first h = absurd (false≢true h)

not-so : (b : Bool) → (b ≡ true → ⊥) → b ≡ false
not-so true h = absurd (h refl)
not-so false h = refl

all-three : (watched mark of_group was : Bool) → watched ≡ true → mark ≡ false → of_group ≡ true → (watched && not mark && (of_group || was)) ≡ true
all-three true false true was e f g = refl
all-three true false false was e f g = absurd (false≢true g)
all-three true true of_group was e f g = absurd (false≢true (sym f))
all-three false mark of_group was e f g = absurd (false≢true e)

module _ (sources : List UploadIn) (unstable : List RowIn) (group : List Text) (t : Suite) (by_key : AreByKey unstable) (in_order : AreByKey t.rows) where
  abbrev coming : List RowIn
  coming = arriving sources unstable group

  abbrev staying : List RowIn
  staying = filter (λ r. not (is_row_of group r)) t.rows

  abbrev new : List RowIn
  new = (move_group sources unstable group t).rows

  arrives : (r : RowIn) → Contains coming r → (u : UploadIn) × Contains unstable r × Contains (group_sources sources group) u × (is_current u r ≡ true)
  arrives r c =
      let s = spread_from (λ (u : UploadIn). filter (is_current u) unstable) (group_sources sources group) r c in
      let f = from_filter (is_current s.0) unstable r s.2 in
      (s.0, f.0, s.1, f.1)

  -- what comes stands after the move
  arrived : (r : RowIn) → Contains coming r → Contains new r
  arrived r c =
      let others : AreOthers coming r = λ x d. itself_or_other x r unstable by_key (arrives x d).1 (arrives r c).1 in
      puts_have coming staying r others c

  -- what stands after the move came or stood before
  pub came_or_stood : (r : RowIn) → Contains new r → Contains coming r ⊎ Contains t.rows r
  came_or_stood r c = elim (puts_from coming staying r (by_key-kept (λ (q : RowIn). not (is_row_of group q)) t.rows in_order) c) [
    | inl came ↦ inl came
    | inr stood ↦ inr (from_filter (λ (q : RowIn). not (is_row_of group q)) t.rows r stood.0).0
  ]

  pub after_by_key : AreByKey new
  after_by_key = by_key-put_all coming staying (by_key-kept (λ (q : RowIn). not (is_row_of group q)) t.rows in_order)

  module _ (arch : ℕ) where
    abbrev listed : List RowIn
    listed = rows_on arch new

    abbrev packages : List Binary
    packages = map (λ (r : RowIn). r.binary) listed

    shown : IsShown new (λ _. true) new
    shown = record {
      by_key = after_by_key;
      within = λ r c. (c.0, at_place new r c, refl);
      all = λ k r at h. contains_at new k r at;
    }

    is_on : IsOn arch new (λ _. true) (is_place_on arch new)
    is_on = record { on = λ k r at. ap (λ o. option_map_or (is_row_on arch) o false) at }

    -- a row with a clause that nothing meets isn't installable
    broken : (i : ℕ) (r : RowIn) (clause : Clause) → slice_get packages i ≡ Some r.binary → Contains r.binary.clauses clause → NoneMeets arch clause t.rows → NoneMeets arch clause coming
        → marked (are_installable packages) i ≡ true → ⊥
    broken i r clause at needs unmet alone mark =
        let some = (are_exact packages i (slice_get_within packages i r.binary at)).0 mark in
        let met = subst (λ (c : Clause). (k : ℕ) × (row : Binary) × (slice_get packages k ≡ Some row) × (some.0 k ≡ true) × (meets row c ≡ true)) needs.2
        (some.1 i r.binary at some.3 needs.0 clause needs.1) in
        let q = of_map (λ (x : RowIn). x.binary) listed met.0 met.1 met.2 in
        let f = from_filter (is_row_on arch) new q.0 (contains_at listed met.0 q.0 q.1) in
        let does : meets q.0.binary clause ≡ true = ap (λ b. meets b clause) q.2 ∙ met.4 in
        elim (came_or_stood q.0 f.0) [
          | inl came ↦ alone.each q.0 came f.1 does
          | inr stood ↦ unmet.each q.0 stood f.1 does
        ]

    -- and so the row fails, which came
    breaks : (r : RowIn) (clause : Clause) (old : List RowIn) → Contains coming r → is_watched_on arch r ≡ true → Contains r.binary.clauses clause → NoneMeets arch clause t.rows → NoneMeets arch clause coming
        → is_none (offender_on old new group arch) ≡ false
    breaks r clause old comes watched needs unmet alone =
        let on : is_row_on arch r ≡ true = watched-on (r.arch == arch) (r.arch == all_place) (arch == 0) watched in
        let c = to_filter (is_row_on arch) new r (arrived r comes) on in
        let place = at_place listed r c in
        let at : slice_get packages c.0 ≡ Some r.binary = get_map (λ (q : RowIn). q.binary) listed c.0 r place in
        let mark = marked (are_installable packages) c.0 in
        let off : mark ≡ false = not-so mark (broken c.0 r clause at needs unmet alone) in
        let j : RowAnswer = record { row = r; is_installable = mark } in
        let judged = contains_at (judged_on arch new) c.0 j (judged_at arch new (λ _. true) (is_place_on arch new) new shown is_on c.0 r place) in
        let before = judged_on arch old in
        let fails = all-three (is_watched_on arch r) mark (is_row_of group r) (was_installable before r) watched off
        (let a = arrives r comes in any_of (bytes_eq r.binary.source) group r.binary.source (source_of_group sources group a.0 r a.2 a.3) ((bytes_eq-Decides r.binary.source r.binary.source).1 refl)) in
        let failing = to_filter (fails_on arch group before) (judged_on arch new) j judged fails in
        let named = maps (λ (x : RowAnswer). x.row.binary.name) (filter (fails_on arch group before) (judged_on arch new)) j failing in
        let as_offender : Text → Offender = λ n. record { arch = arch; «package» = n } in
        mapped-some as_offender (first_failing arch group before (judged_on arch new))
        (least-some byte_cmp (map (λ (x : RowAnswer). x.row.binary.name) (filter (fails_on arch group before) (judged_on arch new))) r.binary.name named)

  -- the move is refused
  pub lack_refused : (archs : List Text) (clause : Clause) → Lacks archs sources unstable group t.rows clause → is_none (offender_of archs t.rows new group) ≡ false
  lack_refused archs clause lack =
      let range : Contains (range_with_len 0 (length archs)) lack.arch = (lack.arch, omega (arith, lack.listed, length-range_with_len 0 (length archs)), omega (arith, get_or-range_with_len 0 (length archs) lack.arch lack.arch lack.listed)) in
      first-some (offender_on t.rows new group) (range_with_len 0 (length archs)) lack.arch range
      (breaks lack.arch lack.row clause t.rows lack.comes lack.watched lack.needs lack.unmet lack.alone)

  -- what is lacking for another move stays so, where no row that came meets it
  pub lack_stays : (archs : List Text) (others : List Text) (clause : Clause) → Lacks archs sources unstable others t.rows clause
      → ((r : RowIn) → Contains coming r → meets r.binary clause ≡ true → ⊥) → Lacks archs sources unstable others new clause
  lack_stays archs others clause lack none = record {
    arch = lack.arch;
    listed = lack.listed;
    row = lack.row;
    comes = lack.comes;
    watched = lack.watched;
    needs = lack.needs;
    unmet = record {
      each = λ r c on does. elim (came_or_stood r c) [
        | inl came ↦ none r came does
        | inr stood ↦ lack.unmet.each r stood on does
      ];
    };
    alone = lack.alone;
  }

-- What the suites find lacking for a move.

-- of no row that stands none leaves
none_leaves : (pool : List RowIn) (first : ℕ) (sources : List UploadIn) (group : List Text) (coming : List ℕ) → AreThose (comes_at pool first) (group_sources sources group) coming
    → IsMoveOf pool [] first sources group [] coming
none_leaves pool first sources group coming arrive = record {
  arriving = arrive;
  own = λ name k c on. absurd (false≢true on);
  giving_way = λ j k c on. absurd (false≢true (at_some_of (λ (r : RowIn). stands_for pool [] r k) (slice_get pool j) on).2);
  only = λ k c. none_among k c;
}

module _ (s : PoolState) (archs : List Text) (sources : List UploadIn) (unstable : List RowIn) (group : List Text) (rows : List RowIn)
    (live : IsLive s archs unstable rows) (offered : list_all (hash_passes s.candidates) group ≡ true) where
  -- the places of a move are those of its rows
  pub move_by_places : (stands : List Bool) (leaving places : List ℕ) → IsMoveOf s.rows stands s.first sources group leaving places
      → IsMove s.rows (marked stands) sources unstable group (has leaving) (has places)
  move_by_places stands leaving places moves =
      let pool = live.before ++ passing_rows s.candidates unstable in
      let here : IsMoveOf pool stands s.first sources group leaving places = subst (λ ps. IsMoveOf ps stands s.first sources group leaving places) live.pooled moves in
      let there : IsMoveOf pool stands (length live.before) sources group leaving places =
      subst (λ n. IsMoveOf pool stands n sources group leaving places) live.begins here in
      subst (λ ps. IsMove ps (marked stands) sources unstable group (has leaving) (has places)) (sym live.pooled)
      (move_of_places live.before unstable s.candidates stands sources group leaving places there offered)

  module _ (arch : ℕ) (clause : Clause) where
    does_on : (k : ℕ) (r : RowIn) → slice_get s.rows k ≡ Some r → is_row_on arch r ≡ true → meets r.binary clause ≡ true → meets_on arch s.rows clause k ≡ true
    does_on k r at on does = ap (λ o. option_map_or (λ (q : RowIn). is_row_on arch q && meets q.binary clause) o false) at ∙ both_true on does

    none_stands : (places : List ℕ) → IsUnmet arch s.rows s.stands places clause → NoneMeets arch clause rows
    none_stands places unmet = record {
      each = λ r c on does.
          let w = live.shown.within r c in
          false≢true (sym (unmet.standing w.0) ∙ both_true w.2 (does_on w.0 r w.1 on does));
    }

    none_comes : (places : List ℕ) → IsMove s.rows (marked []) sources unstable group (has []) (has places) → IsUnmet arch s.rows s.stands places clause
        → NoneMeets arch clause (arriving sources unstable group)
    none_comes places move unmet = record {
      each = λ r c on does.
          let g = spread_from (λ (u : UploadIn). filter (is_current u) unstable) (group_sources sources group) r c in
          let f = from_filter (is_current g.0) unstable r g.2 in
          let k = move.coming_all r g.0 f.0 g.1 f.1 in
          false≢true (sym unmet.came ∙ any_of (meets_on arch s.rows clause) places k.0 (from_has places k.0 k.2) (does_on k.0 r k.1 on does));
    }

  pub lack_told : (clause : Clause) → s.archs ≡ length archs → IsLackOfMove s sources group clause → Lacks archs sources unstable group rows clause
  lack_told clause count told =
      let lack = told.lack in
      let move = move_by_places [] [] told.coming (none_leaves s.rows s.first sources group told.coming told.arrive) in
      let came = move.comes lack.place (to_has told.coming lack.place lack.comes) in
      let same : came.0 ≡ lack.row = same_Some came.0 lack.row (sym came.2 ∙ lack.at) in
      record {
        arch = lack.arch;
        listed = omega (arith, lack.listed, count);
        row = lack.row;
        comes = subst (λ r. Contains (arriving sources unstable group) r) same
            (spreads (λ (u : UploadIn). filter (is_current u) unstable) (group_sources sources group) came.1 came.0 came.4 (to_filter (is_current came.1) unstable came.0 came.3 came.5));
        watched = lack.watched;
        needs = lack.needs;
        unmet = none_stands lack.arch clause told.coming lack.unmet;
        alone = none_comes lack.arch clause told.coming move lack.unmet;
      }

  -- the rows at the places of those that come are all that come
  pub rows_came : (leaving places : List ℕ) → IsMoveOf s.rows s.stands s.first sources group leaving places → (r : RowIn) → Contains (arriving sources unstable group) r → Contains (rows_at s.rows places) r
  rows_came leaving places moves r c =
      let move = move_by_places s.stands leaving places moves in
      let g = spread_from (λ (u : UploadIn). filter (is_current u) unstable) (group_sources sources group) r c in
      let f = from_filter (is_current g.0) unstable r g.2 in
      let k = move.coming_all r g.0 f.0 g.1 f.1 in
      gives (slice_get s.rows) places k.0 r (from_has places k.0 k.2) k.1
