-- Unstable's rows, in the words of what is due to an office.
use Rattle.std.specs.Prelude.{ℕ, ◌+◌, ◌&&◌, ◌||◌, Bool, true, false, not, List, [], ◌∷◌, Contains, Some, codes, filter, map}
use Rattle.std.specs.List.{enumerate_from, list_all}
use Rattle.std.specs.Str.{bytes_eq}
use Rattle.std.specs.declared.cmp.Ordering.{Ordering}
use Rattle.std.specs.declared.cmp.Ordering.TheVariants.{Less, Equal, Greater}
use Rattle.std.specs.Ordering.{is_gt, is_lt, nat_cmp, ordering_reverse, ordering_then}
use Rattle.std.proofs.Common.{◌≡◌, refl, sym, ap, ◌∙◌, subst, inl, inr}
use Rattle.std.proofs.lemmas.Bool.{false≢true}
use Rattle.std.proofs.lemmas.List.Elements.{Contains-append_cases}
use Rattle.std.proofs.lemmas.Slice.Eq.{bytes_eq-Decides}
use Rattle.deb_control.specs.Binary.{is_architecture}
use Rattle.deb_version.specs.Order.{version_cmp, IsAbove}
use Rattle.deb_version.specs.steps.Laws.{version_order}
use Rattle.archive_plan.specs.declared.items.Item.{Item}
use Rattle.archive_plan.specs.Sync.{IsAboveAll, IsUnstable, is_package}
use Rattle.testing_rules_items.specs.Archs.{IsArchs, is_arch_name, is_reserved}
use Rattle.testing_rules_items.specs.Words.{Text, is_above, sorted_by}
use Rattle.testing_rules_items.proofs.Members.{none_among, head_of, tail_of}
use Rattle.testing_rules_model.specs.declared.facts.BuildIn.{BuildIn}
use Rattle.testing_rules_model.specs.declared.facts.DropIn.{DropIn}
use Rattle.testing_rules_model.specs.declared.suite.RowIn.{RowIn}
use Rattle.testing_rules_model.specs.Covered.{Covered, builds_in, drops_in}
use Rattle.testing_rules_model.specs.Unstable.{build_order, is_above_drops, is_build_of, pair_of, pair_order, places, row_at, unstable_builds, unstable_row, unstable_rows}
use Rattle.testing_rules_model.specs.steps.Unstable.{built_on}
use Rattle.testing_rules_model.proofs.First.{NoneBelow, least-none_below}
use Rattle.testing_rules_model.proofs.Least.{from_filter, least_from, to_filter}
use Rattle.testing_rules_model.proofs.MoreMail.{both_are, pair_tied, pair_total}
use Rattle.testing_rules_model.proofs.Orders.{build_total}
use Rattle.testing_rules_model.proofs.Sets.{first_or_rest, given_by, gives, mapped_from, maps, spread_from, spreads, to_sorted}
use Rattle.office_core_laws.specs.FromUnstable.{package_item}
use Rattle.office_core_laws.specs.Mailed.{build_item, built_items, drop_item, dropped_items}

-- Lists.

all_at : {A : Type 0} (test : A → Bool) (xs : List A) (x : A) → list_all test xs ≡ true → Contains xs x → test x ≡ true
all_at test [] x h c = none_among x c
all_at test (y ∷ ys) x h c =
    let b = both_are (test y) (list_all test ys) h in
    elim (first_or_rest y ys x c) [ inl own ↦ sym (ap test own) ∙ b.0 | inr among ↦ all_at test ys x b.1 among ]

and_both : (a b : Bool) → a ≡ true → b ≡ true → (a && b) ≡ true
and_both true b h k = k
and_both false b h k = absurd (false≢true h)

all_from : {A : Type 0} (test : A → Bool) (xs : List A) → ((x : A) → Contains xs x → test x ≡ true) → list_all test xs ≡ true
all_from test [] h = refl
all_from test (x ∷ xs) h = and_both (test x) (list_all test xs) (h x (head_of x xs)) (all_from test xs (λ y c. h y (tail_of x xs y c)))

none_lower : (b : BuildIn) (bs : List BuildIn) → NoneBelow build_total b bs → (c : BuildIn) → Contains bs c → is_lt (build_order c b) ≡ false
none_lower b [] n c d = none_among c d
none_lower b (x ∷ bs) n c d = elim (first_or_rest x bs c d) [
  | inl own ↦ ap (λ y. is_lt (build_order y b)) (sym own) ∙ n.0
  | inr among ↦ none_lower b bs n.1 c among
]

-- Versions.

greater : (o : Ordering) → is_gt o ≡ true → o ≡ Greater
greater Less h = absurd (false≢true h)
greater Equal h = absurd (false≢true h)
greater Greater h = refl

-- above one that is above another
pub above_over : (a b c : Text) → IsAbove a b → IsAbove b c → IsAbove a c
above_over a b c h k =
    version_order.antisymm a c ∙ ap ordering_reverse (version_order.trans c b a (version_order.antisymm c b ∙ ap ordering_reverse k) (version_order.antisymm b a ∙ ap ordering_reverse h))

-- Builds that count for an architecture and a name.

abbrev pub counts : Covered → Text → Text → BuildIn → Bool
counts s arch name b = is_build_of arch name b && is_above_drops s b

-- the row of its architecture and name
pub record IsFirst (s : Covered) (b : BuildIn) : Type 0 where
  pub among : Contains (builds_in s) b
  pub above : is_above_drops s b ≡ true
  pub first : (c : BuildIn) → Contains (builds_in s) c → counts s b.binary.architecture b.binary.name c ≡ true → is_lt (build_order c b) ≡ false

counting : (s : Covered) (arch name : Text) (b : BuildIn) → unstable_row s arch name ≡ Some b → (counts s arch name b ≡ true) × Contains (builds_in s) b
counting s arch name b e =
    let f = from_filter (counts s arch name) (builds_in s) b (least_from build_total (filter (counts s arch name) (builds_in s)) b e) in
    (f.1, f.0)

pub of_pair : (arch name : Text) (b : BuildIn) → is_build_of arch name b ≡ true → (b.binary.architecture ≡ arch) × (b.binary.name ≡ name)
of_pair arch name b h =
    let t = both_are (bytes_eq b.binary.architecture arch) (bytes_eq b.binary.name name) h in
    ((bytes_eq-Decides b.binary.architecture arch).0 t.0, (bytes_eq-Decides b.binary.name name).0 t.1)

pub to_pair : (arch name : Text) (b : BuildIn) → b.binary.architecture ≡ arch → b.binary.name ≡ name → is_build_of arch name b ≡ true
to_pair arch name b h k =
    and_both (bytes_eq b.binary.architecture arch) (bytes_eq b.binary.name name) ((bytes_eq-Decides b.binary.architecture arch).1 h) ((bytes_eq-Decides b.binary.name name).1 k)

pub is_first : (s : Covered) (arch name : Text) (b : BuildIn) → unstable_row s arch name ≡ Some b → IsFirst s b
is_first s arch name b e =
    let t = counting s arch name b e in
    let both = both_are (is_build_of arch name b) (is_above_drops s b) t.0 in
    let own = of_pair arch name b both.0 in
    record {
      among = t.1;
      above = both.1;
      first = λ c d h.
          let h2 : counts s arch name c ≡ true = subst (λ a. counts s a name c ≡ true) own.0 (subst (λ n. counts s b.binary.architecture n c ≡ true) own.1 h) in
          none_lower b (filter (counts s arch name) (builds_in s)) (least-none_below build_total (filter (counts s arch name) (builds_in s)) b e) c
          (to_filter (counts s arch name) (builds_in s) c d h2);
    }

pub of_row : (s : Covered) (arch name : Text) (b : BuildIn) → unstable_row s arch name ≡ Some b → (b.binary.architecture ≡ arch) × (b.binary.name ≡ name)
of_row s arch name b e = of_pair arch name b (both_are (is_build_of arch name b) (is_above_drops s b) (counting s arch name b e).0).0

-- Rows and their builds.

-- a row of unstable, from the build that gives it
pub record IsRowOf (archs : List Text) (s : Covered) (r : RowIn) : Type 0 where
  pub place : ℕ × Text
  pub build : BuildIn
  pub known : Contains (places archs) place
  pub named : build.binary.architecture ≡ place.1
  pub is : row_at place.0 build ≡ r
  pub first : IsFirst s build

pub row_of : (archs : List Text) (s : Covered) (r : RowIn) → Contains (unstable_rows archs s) r → IsRowOf archs s r
row_of archs s r c =
    let p = spread_from (built_on (unstable_builds s)) (places archs) r c in
    let test : BuildIn → Bool = λ b. bytes_eq b.binary.architecture p.0.1 in
    let m = mapped_from (row_at p.0.0) (filter test (unstable_builds s)) r p.2 in
    let f = from_filter test (unstable_builds s) m.0 m.1 in
    let q = given_by (λ (q : Text × Text). unstable_row s q.0 q.1) (sorted_by (λ q. q) pair_order (map pair_of (builds_in s))) m.0 f.0 in
    record {
      place = p.0;
      build = m.0;
      known = p.1;
      named = (bytes_eq-Decides m.0.binary.architecture p.0.1).0 f.1;
      is = m.2;
      first = is_first s q.0.0 q.0.1 m.0 q.2;
    }

-- the build that unstable has of its architecture and name gives a row on each place of that architecture
pub to_row : (archs : List Text) (s : Covered) (p : ℕ × Text) (b : BuildIn) → Contains (places archs) p → b.binary.architecture ≡ p.1 → Contains (builds_in s) b
    → unstable_row s b.binary.architecture b.binary.name ≡ Some b → Contains (unstable_rows archs s) (row_at p.0 b)
to_row archs s p b known named among is =
    let test : BuildIn → Bool = λ c. bytes_eq c.binary.architecture p.1 in
    let sorted = to_sorted pair_total (map pair_of (builds_in s)) (λ x y cx cy e. pair_tied x y e) (pair_of b) (maps pair_of (builds_in s) b among) in
    let built = gives (λ (q : Text × Text). unstable_row s q.0 q.1) (sorted_by (λ q. q) pair_order (map pair_of (builds_in s))) (pair_of b) b sorted is in
    spreads (built_on (unstable_builds s)) (places archs) p (row_at p.0 b) known
    (maps (row_at p.0) (filter test (unstable_builds s)) b (to_filter test (unstable_builds s) b built ((bytes_eq-Decides b.binary.architecture p.1).1 named)))

-- No row is a source's.

listed : (k : ℕ) (archs : List Text) (p : ℕ × Text) → Contains (enumerate_from k archs) p → Contains archs p.1
listed k [] p c = none_among p c
listed k (x ∷ archs) p c = elim (first_or_rest (k, x) (enumerate_from (k + 1) archs) p c) [
  | inl own ↦ subst (λ (q : ℕ × Text). Contains (x ∷ archs) q.1) own (head_of x archs)
  | inr among ↦ tail_of x archs p.1 (listed (k + 1) archs p among)
]

not_third : (a b c : Bool) → not (a || b || c) ≡ true → not c ≡ true
not_third true b c h = absurd (false≢true h)
not_third false true c h = absurd (false≢true h)
not_third false false c h = h

place_package : (archs : List Text) (p : ℕ × Text) → IsArchs archs → Contains (places archs) p → not (bytes_eq p.1 (codes "source")) ≡ true
place_package archs p are c = elim (Contains-append_cases (enumerate_from 0 archs) ((16, codes "all") ∷ []) p c) [
  | inl among ↦
      let named = all_at is_arch_name archs p.1 are.named (listed 0 archs p among) in
      let free = (both_are (is_architecture p.1) (not (is_reserved p.1)) named).1 in
      not_third (bytes_eq p.1 (codes "all")) (bytes_eq p.1 (codes "any")) (bytes_eq p.1 (codes "source")) free
  | inr last ↦ elim (first_or_rest (16, codes "all") [] p last) [
    | inl own ↦ subst (λ (q : ℕ × Text). not (bytes_eq q.1 (codes "source")) ≡ true) own refl
    | inr never ↦ none_among p never
  ]
]

pub row_package : (archs : List Text) (s : Covered) (r : RowIn) → IsArchs archs → Contains (unstable_rows archs s) r → is_package (package_item r) ≡ true
row_package archs s r are c =
    let w = row_of archs s r c in
    subst (λ (q : RowIn). is_package (package_item q) ≡ true) w.is
    (subst (λ a. not (bytes_eq a (codes "source")) ≡ true) (sym w.named) (place_package archs w.place are w.known))

-- Drops.

or_second : (a b : Bool) → a ≡ true → (not a || b) ≡ true → b ≡ true
or_second true b e h = h
or_second false b e h = absurd (false≢true e)

or_free : (a b : Bool) → (a ≡ true → b ≡ true) → (not a || b) ≡ true
or_free true b f = f refl
or_free false b f = refl

-- what is above every drop is above each of those items, and the other way round
pub above_dropped : (s : Covered) (b : BuildIn) → is_above_drops s b ≡ true → IsAboveAll (dropped_items s) (build_item b)
above_dropped s b h = λ y c key.
    let m = mapped_from drop_item (drops_in s) y c in
    let test : DropIn → Bool = λ d. not (bytes_eq d.arch b.binary.architecture && bytes_eq d.name b.binary.name) || is_above b.binary.version d.version in
    let at : test m.0 ≡ true = all_at test (drops_in s) m.0 h m.1 in
    let arch : m.0.arch ≡ b.binary.architecture = ap (λ (x : Item). x.architecture) m.2 ∙ sym key.0 in
    let name : m.0.name ≡ b.binary.name = ap (λ (x : Item). x.name) m.2 ∙ sym key.1 in
    let same = and_both (bytes_eq m.0.arch b.binary.architecture) (bytes_eq m.0.name b.binary.name) ((bytes_eq-Decides m.0.arch b.binary.architecture).1 arch) ((bytes_eq-Decides m.0.name b.binary.name).1 name) in
    subst (λ (x : Item). IsAbove b.binary.version x.version) m.2
    (greater (version_cmp b.binary.version m.0.version) (or_second (bytes_eq m.0.arch b.binary.architecture && bytes_eq m.0.name b.binary.name) (is_above b.binary.version m.0.version) same at))

pub above_drops : (s : Covered) (b : BuildIn) → IsAboveAll (dropped_items s) (build_item b) → is_above_drops s b ≡ true
above_drops s b h =
    all_from (λ d. not (bytes_eq d.arch b.binary.architecture && bytes_eq d.name b.binary.name) || is_above b.binary.version d.version) (drops_in s) (λ d c.
    or_free (bytes_eq d.arch b.binary.architecture && bytes_eq d.name b.binary.name) (is_above b.binary.version d.version) (λ same.
    let t = both_are (bytes_eq d.arch b.binary.architecture) (bytes_eq d.name b.binary.name) same in
    ap is_gt (h (drop_item d) (maps drop_item (drops_in s) d c) (sym ((bytes_eq-Decides d.arch b.binary.architecture).0 t.0), sym ((bytes_eq-Decides d.name b.binary.name).0 t.1)))))

-- a build above another comes first
higher_first : (c b : BuildIn) → IsAbove c.binary.version b.binary.version → is_lt (build_order c b) ≡ true
higher_first c b h =
    let low : version_cmp b.binary.version c.binary.version ≡ Less = version_order.antisymm b.binary.version c.binary.version ∙ ap ordering_reverse h in
    ap (λ o. is_lt (ordering_then o (ordering_then (nat_cmp c.sender b.sender) (ordering_then (nat_cmp c.number b.number) (nat_cmp c.place b.place))))) low

pub first_unstable : (s : Covered) (b : BuildIn) → IsFirst s b → IsUnstable (built_items s) (dropped_items s) (build_item b)
first_unstable s b f = (
  maps build_item (builds_in s) b f.among,
  above_dropped s b f.above,
  λ y c key alive higher.
      let m = mapped_from build_item (builds_in s) y c in
      let above = above_drops s m.0 (subst (λ (x : Item). IsAboveAll (dropped_items s) x) (sym m.2) alive) in
      let arch : m.0.binary.architecture ≡ b.binary.architecture = ap (λ (x : Item). x.architecture) m.2 ∙ sym key.0 in
      let name : m.0.binary.name ≡ b.binary.name = ap (λ (x : Item). x.name) m.2 ∙ sym key.1 in
      let counted = and_both (is_build_of b.binary.architecture b.binary.name m.0) (is_above_drops s m.0) (to_pair b.binary.architecture b.binary.name m.0 arch name) above in
      let early = higher_first m.0 b (subst (λ (x : Item). IsAbove x.version b.binary.version) (sym m.2) higher) in
      false≢true (sym (f.first m.0 m.1 counted) ∙ early),
)

-- a row of unstable is so by what was told and dropped
pub row_unstable : (archs : List Text) (s : Covered) (r : RowIn) → Contains (unstable_rows archs s) r → IsUnstable (built_items s) (dropped_items s) (package_item r)
row_unstable archs s r c =
    let w = row_of archs s r c in
    subst (λ (q : RowIn). IsUnstable (built_items s) (dropped_items s) (package_item q)) w.is (first_unstable s w.build w.first)
