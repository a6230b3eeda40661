-- Behind mail of what is due each package of unstable is in the index.
use Rattle.std.specs.Prelude.{ℕ, ◌&&◌, ◌++◌, true, false, not, List, [], ◌∷◌, Contains, Option, Some, None, cond, codes, filter}
use Rattle.std.specs.Str.{bytes_eq}
use Rattle.std.specs.declared.cmp.Ordering.{Ordering}
use Rattle.std.specs.declared.cmp.Ordering.TheVariants.{Less, Equal, Greater}
use Rattle.std.specs.Ordering.{is_lt, nat_cmp, ordering_reverse, ordering_then}
use Rattle.std.proofs.Common.{◌≡◌, ◌⊎◌, refl, sym, ap, ◌∙◌, subst, inl, inr}
use Rattle.std.proofs.lemmas.Bool.{false≢true}
use Rattle.std.proofs.lemmas.List.Elements.{Contains-append_cases, Contains-append_left, Contains-append_right}
use Rattle.deb_version.specs.Order.{version_cmp, IsAbove}
use Rattle.deb_version.specs.steps.Laws.{version_order}
use Rattle.archive_plan.specs.declared.items.Item.{Item}
use Rattle.archive_plan.specs.declared.sync.Due.{Due}
use Rattle.archive_plan.specs.Sync.{IsAboveAll, IsAfter, IsSync, is_package}
use Rattle.testing_rules_items.specs.Archs.{IsArchs}
use Rattle.testing_rules_items.specs.Words.{Text, least, lesser}
use Rattle.testing_rules_items.proofs.Members.{none_among}
use Rattle.testing_rules_model.specs.declared.facts.BuildIn.{BuildIn}
use Rattle.testing_rules_model.specs.declared.facts.DropIn.{DropIn}
use Rattle.testing_rules_model.specs.declared.suite.RowIn.{RowIn}
use Rattle.testing_rules_model.specs.Covered.{Covered, CoveredItem, builds_in, builds_of, drop_of, drops_in}
use Rattle.testing_rules_model.specs.SameMessages.{HasOneOfEach, SameElements}
use Rattle.testing_rules_model.specs.Unstable.{build_order, is_above_drops, row_at, unstable_row, unstable_rows}
use Rattle.testing_rules_model.proofs.Least.{to_filter}
use Rattle.testing_rules_model.proofs.MoreMail.{nat_tied, then_equal}
use Rattle.testing_rules_model.proofs.Orders.{build_total}
use Rattle.testing_rules_model.proofs.SameFacts.{builds_numbered, one_build}
use Rattle.testing_rules_model.proofs.Sets.{given_by, gives, mapped_from, maps, spread_from, spreads}
use Rattle.office_core_laws.specs.FromUnstable.{AreAmong, package_item}
use Rattle.office_core_laws.specs.Mailed.{IsToldBy, SaysDue, build_item, built_items, drop_item, dropped_items}
use Rattle.office_core_laws.proofs.UnstableItems.{IsFirst, above_dropped, above_drops, above_over, counts, is_first, of_row, row_of, row_package, row_unstable, to_pair, to_row}

-- Two builds of one message and place are one.
tied_builds : (s : Covered) → HasOneOfEach s → (x y : BuildIn) → Contains (builds_in s) x → Contains (builds_in s) y → build_order x y ≡ Equal → x ≡ y
tied_builds s one x y c d e =
    let h = then_equal (version_cmp y.binary.version x.binary.version) (ordering_then (nat_cmp x.sender y.sender) (ordering_then (nat_cmp x.number y.number) (nat_cmp x.place y.place))) e in
    let j = then_equal (nat_cmp x.sender y.sender) (ordering_then (nat_cmp x.number y.number) (nat_cmp x.place y.place)) h.1 in
    let l = then_equal (nat_cmp x.number y.number) (nat_cmp x.place y.place) j.1 in
    let m = spread_from builds_of s x c in
    let o = spread_from builds_of s y d in
    let bm = builds_numbered m.0.sender m.0.number m.0.item x m.2 in
    let bo = builds_numbered o.0.sender o.0.number o.0.item y o.2 in
    let same = one m.0 o.0 m.1 o.1 (sym bm.0 ∙ nat_tied x.sender y.sender j.0 ∙ bo.0) (sym bm.1 ∙ nat_tied x.number y.number l.0 ∙ bo.1) in
    one_build m.0.sender m.0.number m.0.item x y m.2 (subst (λ w. Contains (builds_of w) y) (sym same) o.2) (nat_tied x.place y.place l.1)

-- One that isn't before, on both sides.
ties : (r : Ordering) (u w : BuildIn) → build_order u w ≡ r → is_lt (build_order u w) ≡ false → is_lt (build_order w u) ≡ false → build_order u w ≡ Equal
ties Less u w e h k = absurd (false≢true (sym h ∙ ap is_lt e))
ties Equal u w e h k = e
ties Greater u w e h k = absurd (false≢true (sym k ∙ ap is_lt (build_total.antisymm w u ∙ ap ordering_reverse e)))

lesser_some : {P : Type 0} (v : Option BuildIn) (z : BuildIn) → lesser build_order z v ≡ None → P
lesser_some None z e = let no : Some z ≡ None = e in absurd (let never : ⊥ = cc in never)
lesser_some (Some w) z e = let no : Some (cond (is_lt (build_order w z)) w z) ≡ None = e in absurd (let never : ⊥ = cc in never)

none_least : {P : Type 0} (zs : List BuildIn) (y : BuildIn) → least build_order zs ≡ None → Contains zs y → P
none_least [] y e c = none_among y c
none_least (z ∷ zs) y e c = lesser_some (least build_order zs) z e

-- what isn't below one that is above another is above that
above_by : (o : Ordering) (d b e : Text) → version_cmp d b ≡ o → (o ≡ Less → ⊥) → IsAbove b e → IsAbove d e
above_by Less d b e h n k = absurd (n refl)
above_by Equal d b e h n k = version_order.congr d b e h ∙ k
above_by Greater d b e h n k = above_over d b e h k

-- a build that comes before another isn't below it
not_lower : (d b : BuildIn) → is_lt (build_order b d) ≡ false → version_cmp d.binary.version b.binary.version ≡ Less → ⊥
not_lower d b h e =
    false≢true (sym h ∙ ap (λ o. is_lt (ordering_then o (ordering_then (nat_cmp b.sender d.sender) (ordering_then (nat_cmp b.number d.number) (nat_cmp b.place d.place))))) e)

-- What messages say beside others.
more_builds : (s o : Covered) → ((m : CoveredItem) → Contains s m → Contains o m) → (b : BuildIn) → Contains (builds_in s) b → Contains (builds_in o) b
more_builds s o more b c = let m = spread_from builds_of s b c in spreads builds_of o m.0 b (more m.0 m.1) m.2

more_drops : (s o : Covered) → ((m : CoveredItem) → Contains s m → Contains o m) → (d : DropIn) → Contains (drops_in s) d → Contains (drops_in o) d
more_drops s o more d c = let m = given_by drop_of s d c in gives drop_of o m.0 d (more m.0 m.1) m.2

more_built : (s o : Covered) → ((m : CoveredItem) → Contains s m → Contains o m) → AreAmong (built_items s) (built_items o)
more_built s o more x c =
    let m = mapped_from build_item (builds_in s) x c in
    subst (λ (y : Item). Contains (built_items o) y) m.2 (maps build_item (builds_in o) m.0 (more_builds s o more m.0 m.1))

more_dropped : (s o : Covered) → ((m : CoveredItem) → Contains s m → Contains o m) → AreAmong (dropped_items s) (dropped_items o)
more_dropped s o more x c =
    let m = mapped_from drop_item (drops_in s) x c in
    subst (λ (y : Item). Contains (dropped_items o) y) m.2 (maps drop_item (drops_in o) m.0 (more_drops s o more m.0 m.1))

module _ (s sent after : Covered) (one : HasOneOfEach after) (same : SameElements after (s ++ sent)) where
  earlier : (m : CoveredItem) → Contains s m → Contains after m
  earlier m c = same.1 m (Contains-append_left s sent m c)

  later : (m : CoveredItem) → Contains sent m → Contains after m
  later m c = same.1 m (Contains-append_right s sent m c)

  from_either : (b : BuildIn) → Contains (builds_in after) b → Contains (builds_in s) b ⊎ Contains (builds_in sent) b
  from_either b c =
      let m = spread_from builds_of after b c in
      elim (Contains-append_cases s sent m.0 (same.0 m.0 m.1)) [
        | inl old ↦ inl (spreads builds_of s m.0 b old m.2)
        | inr new ↦ inr (spreads builds_of sent m.0 b new m.2)
      ]

  -- An earlier build that comes first behind the mail came first before it.
  module _ (b : BuildIn) (first : IsFirst after b) (old : Contains (builds_in s) b) where
    counted : counts s b.binary.architecture b.binary.name b ≡ true
    counted =
        let above = above_drops s b (λ y c key. above_dropped after b first.above y (more_dropped s after earlier y c) key) in
        ap (λ t. t && is_above_drops s b) (to_pair b.binary.architecture b.binary.name b refl refl) ∙ above

    came_first : (d : BuildIn) → unstable_row s b.binary.architecture b.binary.name ≡ Some d → d ≡ b
    came_first d e =
        let f = is_first s b.binary.architecture b.binary.name d e in
        let own = of_row s b.binary.architecture b.binary.name d e in
        let before : is_lt (build_order b d) ≡ false = f.first b old (subst (λ a. counts s a d.binary.name b ≡ true) (sym own.0) (subst (λ n. counts s b.binary.architecture n b ≡ true) (sym own.1) counted)) in
        let above : IsAboveAll (dropped_items after) (build_item d) = λ y c key.
        above_by (version_cmp d.binary.version b.binary.version) d.binary.version b.binary.version y.version refl (not_lower d b before)
        (above_dropped after b first.above y c (sym own.0 ∙ key.0, sym own.1 ∙ key.1)) in
        let counts_now : counts after b.binary.architecture b.binary.name d ≡ true =
        ap (λ t. t && is_above_drops after d) (to_pair b.binary.architecture b.binary.name d own.0 own.1) ∙ above_drops after d above in
        let among = more_builds s after earlier d f.among in
        let behind = first.first d among counts_now in
        tied_builds after one d b among first.among (ties _ d b refl behind before)

    found : (o : Option BuildIn) → unstable_row s b.binary.architecture b.binary.name ≡ o → unstable_row s b.binary.architecture b.binary.name ≡ Some b
    found None e = none_least (filter (counts s b.binary.architecture b.binary.name) (builds_in s)) b e (to_filter (counts s b.binary.architecture b.binary.name) (builds_in s) b old counted)
    found (Some d) e = e ∙ ap Some (came_first d e)

  -- where the later messages build nothing, unstable has no new row
  pub row_before : (archs : List Text) → ((b : BuildIn) → Contains (builds_in sent) b → ⊥) → (r : RowIn) → Contains (unstable_rows archs after) r → Contains (unstable_rows archs s) r
  row_before archs nothing r c =
      let w = row_of archs after r c in
      elim (from_either w.build w.first.among) [
        | inl old ↦ subst (λ (q : RowIn). Contains (unstable_rows archs s) q) w.is (to_row archs s w.place w.build w.known w.named old (found w.build w.first old _ refl))
        | inr new ↦ absurd (nothing w.build new)
      ]

  module _ (archs : List Text) (told index dropped : List Item) (gone : ℕ) (due : Due) (by : IsToldBy archs s told dropped) (is : IsSync told index dropped gone due) (says : SaysDue sent due) where
    -- what unstable has was told, or is due to be told
    row_told : (r : RowIn) → Contains (unstable_rows archs after) r → Contains (told ++ due.tells.items) (package_item r)
    row_told r c =
        let w = row_of archs after r c in
        elim (from_either w.build w.first.among) [
          | inl old ↦
              let row = to_row archs s w.place w.build w.known w.named old (found w.build w.first old _ refl) in
              subst (λ (q : RowIn). Contains (told ++ due.tells.items) (package_item q)) w.is
              (Contains-append_left told due.tells.items (build_item w.build) (by.rows (row_at w.place.0 w.build) row))
          | inr new ↦
              subst (λ (q : RowIn). Contains (told ++ due.tells.items) (package_item q)) w.is
              (Contains-append_right told due.tells.items (build_item w.build) (says.builds (build_item w.build) (maps build_item (builds_in sent) w.build new)))
        ]

    all_dropped : (y : Item) → Contains (dropped ++ due.drops.items) y → Contains (dropped_items after) y
    all_dropped y c = elim (Contains-append_cases dropped due.drops.items y c) [
      | inl old ↦ more_dropped s after earlier y (by.drops y old)
      | inr new ↦ more_dropped sent after later y (says.drops y new)
    ]

    all_built : (y : Item) → is_package y ≡ true → Contains (told ++ due.tells.items) y → Contains (built_items after) y
    all_built y package_y c = elim (Contains-append_cases told due.tells.items y c) [
      | inl old ↦ more_built s after earlier y (by.built y old package_y)
      | inr new ↦ more_built sent after later y (says.tells y new package_y)
    ]

    is_after : (r : RowIn) → Contains (unstable_rows archs after) r → is_package (package_item r) ≡ true → IsAfter told dropped due (package_item r)
    is_after r c binary =
        let u = row_unstable archs after r c in (
          row_told r c,
          λ y d key. u.1 y (all_dropped y d) key,
          λ y d key alive higher.
              let binary_y : is_package y ≡ true = subst (λ a. not (bytes_eq a (codes "source")) ≡ true) key.0 binary in
              u.2 y (all_built y binary_y d) key (λ e f above_key. above_over y.version r.binary.version e.version higher (u.1 e f (key.0 ∙ above_key.0, key.1 ∙ above_key.1))) higher,
        )

    pub row_in_index : IsArchs archs → (r : RowIn) → Contains (unstable_rows archs after) r → Contains index (package_item r)
    row_in_index are r c = let binary = row_package archs after r are c in is.inside (package_item r) (is_after r c binary) binary
