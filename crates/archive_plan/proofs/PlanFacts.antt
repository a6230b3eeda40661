-- What lists of picked items make of sets.
use Rattle.std.specs.Prelude.{◌≡◌, ℕ, ◌≤◌, ◌<◌, ◌⊎◌, ◌↔◌, List, [], ◌∷◌, Bool, true, false, ◌&&◌, cond, not, filter, length, Contains}
use Rattle.std.specs.List.{All}
use Rattle.std.specs.Str.{bytes_eq}
use Rattle.std.specs.declared.cmp.Ordering.{Ordering}
use Rattle.std.specs.declared.cmp.Ordering.TheVariants.{Less, Equal, Greater}
use Rattle.std.specs.Ordering.{is_eq, is_lt, nat_cmp}
use Rattle.std.specs.Cmp.Lexicographic.{slice_cmp}
use Rattle.std.proofs.Common.{refl, sym, ap, subst, ◌∙◌, arith, inl, inr}
use Rattle.std.proofs.lemmas.Cmp.{tied_itself}
use Rattle.std.proofs.lemmas.Map.Lookups.{exact_bytes, exact_pairs}
use Rattle.std.proofs.lemmas.Slice.Eq.{bytes_eq-Decides}
use Rattle.std.proofs.lemmas.List.Elements.{All-contains, All-filter, All-contains_itself, All-nil, All-cons, All-weaker, filter_passes, Contains-push, Contains-append_left, Contains-append_right}
use Rattle.std.proofs.lemmas.List.Folds.{Any-from_list_any, list_any-from_Any}
use Rattle.std.proofs.lemmas.List.Kept.{AllPairs-filter}
use Rattle.deb_version.specs.Order.{version_cmp, IsBelow}
use Rattle.archive_plan.specs.declared.items.Item.{Item}
use Rattle.archive_plan.specs.declared.items.Relation.{Relation}
use Rattle.archive_plan.specs.declared.items.Relation.TheVariants.{Whole, Lower}
use Rattle.archive_plan.specs.declared.plan.Plan.{Plan}
use Rattle.archive_plan.specs.declared.plan.PlanFault.{PlanFault}
use Rattle.archive_plan.specs.declared.plan.PlanFault.TheVariants.{Lacks, Backward, TooMany, NoMemory}
use Rattle.archive_plan.specs.Items.{AreOfOneKey, key_cmp, AreInOrder, relates, meets, picked_from, lacking}
use Rattle.archive_plan.specs.Plan.{leaving, lower, IsPlan, IsLack, IsStep, IsCrowd, IsFault, RefusesAll}
use Rattle.archive_plan.proofs.MergeFacts.{key_order}

-- those that are picked stay in order
pub order_picked : (r : Relation) (w : Bool) (xs ys : List Item) → AreInOrder xs → AreInOrder (picked_from r w xs ys)
order_picked r w xs ys order = AllPairs-filter (λ x y. key_cmp x y ≡ Less) (λ x. cond (meets r ys x) w (not w)) xs order

-- 1. A filter's elements.
pub head_of : {A : Type 0} (x : A) (xs : List A) → Contains (x ∷ xs) x
head_of x xs = Contains-append_left (x ∷ []) xs x (Contains-push [] x)

tail_of : {A : Type 0} (x : A) (xs : List A) (y : A) → Contains xs y → Contains (x ∷ xs) y
tail_of x xs y c = Contains-append_right (x ∷ []) xs y c

pub none_of : {A : Type 0} (xs : List A) (x : A) → xs ≡ [] → Contains xs x → ⊥
none_of xs x none c = let n : c.0 < length xs = c.1 in let m : length xs ≡ 0 = ap length none in omega (arith, n, m)

kept_head : {A : Type 0} (b : Bool) (x : A) (xs : List A) → b ≡ true → Contains (cond b (x ∷ xs) xs) x
kept_head true x xs h = head_of x xs
kept_head false x xs h = cc

kept_tail : {A : Type 0} (b : Bool) (x : A) (xs : List A) (y : A) → Contains xs y → Contains (cond b (x ∷ xs) xs) y
kept_tail true x xs y c = tail_of x xs y c
kept_tail false x xs y c = c

keeps : {A : Type 0} (p : A → Bool) (xs : List A) → All (λ z. p z ≡ true → Contains (filter p xs) z) xs
keeps p [] = All-nil (λ z. p z ≡ true → Contains (filter p []) z)
keeps p (x ∷ xs) = All-cons (λ z. p z ≡ true → Contains (filter p (x ∷ xs)) z) x xs (λ h. kept_head (p x) x (filter p xs) h)
    (All-weaker (λ z. p z ≡ true → Contains (filter p xs) z) (λ z. p z ≡ true → Contains (filter p (x ∷ xs)) z) (λ z f h. kept_tail (p x) x (filter p xs) z (f h)) xs (keeps p xs))

pub filter_has : {A : Type 0} (p : A → Bool) (xs : List A) (x : A) → Contains xs x → p x ≡ true → Contains (filter p xs) x
filter_has p xs x c h = All-contains (λ z. p z ≡ true → Contains (filter p xs) z) xs x (keeps p xs) c h

pub filter_of : {A : Type 0} (p : A → Bool) (xs : List A) (x : A) → Contains (filter p xs) x → Contains xs x
filter_of p xs x c = All-contains (Contains xs) (filter p xs) x (All-filter p (Contains xs) xs (All-contains_itself xs)) c

pub filter_test : {A : Type 0} (p : A → Bool) (xs : List A) (x : A) → Contains (filter p xs) x → p x ≡ true
filter_test p xs x c = All-contains (λ z. p z ≡ true) (filter p xs) x (filter_passes p xs) c

-- 2. Items that are the same.
pub both : (a b : Bool) → (a && b) ≡ true → (a ≡ true) × (b ≡ true)
both true b h = (refl, h)
both false b h = cc

pub is_equal : (o : Ordering) → is_eq o ≡ true → o ≡ Equal
is_equal Less h = cc
is_equal Equal h = refl
is_equal Greater h = cc

abbrev made : List ℕ → List ℕ → List ℕ → Item
made k n v = record { architecture = k; name = n; version = v }

pub one_key : (x y : Item) → key_cmp x y ≡ Equal → AreOfOneKey x y
one_key x y h =
    let e : (x.architecture, x.name) ≡ (y.architecture, y.name) = exact_pairs (slice_cmp nat_cmp) (slice_cmp nat_cmp) exact_bytes exact_bytes (x.architecture, x.name) (y.architecture, y.name) h in
    (ap (λ (p : List ℕ × List ℕ). p.0) e, ap (λ (p : List ℕ × List ℕ). p.1) e)

pub key_equal : (x y : Item) → AreOfOneKey x y → key_cmp x y ≡ Equal
key_equal x y h =
    ap (λ k. key_cmp x (made k y.name y.version)) (sym h.0)
    ∙ ap (λ n. key_cmp x (made x.architecture n y.version)) (sym h.1)
    ∙ tied_itself key_order x

same_item : (x y : Item) → relates Whole x y ≡ true → x ≡ y
same_item x y h =
    let s = both (is_eq (key_cmp x y)) (bytes_eq x.version y.version) h in
    let k = one_key x y (is_equal (key_cmp x y) s.0) in
    let v : x.version ≡ y.version = (bytes_eq-Decides x.version y.version).0 s.1 in
    ap (λ n. made n x.name x.version) k.0 ∙ ap (λ n. made y.architecture n x.version) k.1 ∙ ap (λ n. made y.architecture y.name n) v

item_same : (x : Item) → relates Whole x x ≡ true
item_same x =
    ap (λ o. is_eq o && bytes_eq x.version x.version) (tied_itself key_order x)
    ∙ (bytes_eq-Decides x.version x.version).1 refl

-- 3. What a list has.
has : (ys : List Item) (x : Item) → meets Whole ys x ≡ true → Contains ys x
unfolding meets
has ys x h =
    let a = Any-from_list_any (relates Whole x) ys h in
    subst (Contains ys) (sym (same_item x a.1 a.4)) (a.0, a.2, a.3)

is_met : (ys : List Item) (x : Item) → Contains ys x → meets Whole ys x ≡ true
unfolding meets
is_met ys x c = list_any-from_Any (relates Whole x) ys (c.0, x, c.1, c.2, item_same x)

pub has_or_not : (b : Bool) (ys : List Item) (x : Item) → meets Whole ys x ≡ b → Contains ys x ⊎ (Contains ys x → ⊥)
has_or_not true ys x h = inl (has ys x h)
has_or_not false ys x h = inr (λ c. let n : false ≡ true = sym h ∙ is_met ys x c in cc)

met_not : (b : Bool) (ys : List Item) (x : Item) → meets Whole ys x ≡ b → (Contains ys x → ⊥) → cond b false true ≡ true
met_not true ys x h other = absurd (other (has ys x h))
met_not false ys x h other = refl

pub not_met : (b : Bool) → cond b false true ≡ true → b ≡ true → ⊥
not_met true h k = cc
not_met false h k = cc

pub lacking_of : (xs ys : List Item) (x : Item) → Contains (lacking xs ys) x → Contains xs x
lacking_of xs ys x c = filter_of (λ z. cond (meets Whole ys z) false true) xs x c

pub lacking_not : (xs ys : List Item) (x : Item) → Contains (lacking xs ys) x → Contains ys x → ⊥
lacking_not xs ys x c d = not_met (meets Whole ys x) (filter_test (λ z. cond (meets Whole ys z) false true) xs x c) (is_met ys x d)

pub lacking_has : (xs ys : List Item) (x : Item) → Contains xs x → (Contains ys x → ⊥) → Contains (lacking xs ys) x
lacking_has xs ys x c other = filter_has (λ z. cond (meets Whole ys z) false true) xs x c (met_not (meets Whole ys x) ys x refl other)

nothing_lacks : (xs ys : List Item) (x : Item) → lacking xs ys ≡ [] → Contains xs x → Contains ys x
nothing_lacks xs ys x none c = elim (has_or_not (meets Whole ys x) ys x refl) [
  | inl d ↦ d
  | inr other ↦ absurd (none_of (lacking xs ys) x none (lacking_has xs ys x c other))
]

below_meets : (ys : List Item) (x y : Item) → Contains ys y → AreOfOneKey x y → IsBelow x.version y.version → meets Lower ys x ≡ true
unfolding meets
below_meets ys x y c key below = list_any-from_Any (relates Lower x) ys (
  c.0,
  y,
  c.1,
  c.2,
  (ap (λ o. is_eq o && is_lt (version_cmp x.version y.version)) (key_equal x y key) ∙ ap is_lt below),
)

nothing_lower : (copies suite : List Item) (x y : Item) → lower copies suite ≡ [] → Contains copies x → Contains suite y → AreOfOneKey x y → IsBelow x.version y.version → ⊥
nothing_lower copies suite x y none c d key below =
    none_of (lower copies suite) x none
    (filter_has (λ z. cond (meets Lower suite z) true false) copies x c
    (ap (λ b. cond b true false) (below_meets suite x y d key below)))

-- 4. The plan.
pub is_plan : (testing suite from : List Item) (gone : ℕ) (back : Bool) (plan : Plan)
    → plan.copies.items ≡ lacking testing suite → plan.removals.items ≡ lacking suite testing
    → lacking plan.copies.items from ≡ [] → (back ≡ false → lower plan.copies.items suite ≡ [])
    → length (leaving testing suite) ≤ gone → IsPlan testing suite from gone back plan
is_plan testing suite from gone back plan copied removed there steps few =
    let copy_of : (x : Item) → Contains plan.copies.items x → Contains (lacking testing suite) x = λ x c. subst (λ xs. Contains xs x) copied c in
    let removal_of : (x : Item) → Contains plan.removals.items x → Contains (lacking suite testing) x = λ x c. subst (λ xs. Contains xs x) removed c in
    record {
      ends = λ x. (
        (λ h. elim h.0 [
          | inl c ↦ elim (has_or_not (meets Whole testing x) testing x refl) [
            | inl d ↦ d
            | inr other ↦ absurd (h.1 (subst (λ xs. Contains xs x) (sym removed) (lacking_has suite testing x c other)))
          ]
          | inr c ↦ lacking_of testing suite x (copy_of x c)
        ]),
        (λ c. (
          elim (has_or_not (meets Whole suite x) suite x refl) [
            | inl d ↦ inl d
            | inr other ↦ inr (subst (λ xs. Contains xs x) (sym copied) (lacking_has testing suite x c other))
          ],
          λ d. lacking_not suite testing x (removal_of x d) c,
        )),
      );
      copies = λ x c d. lacking_not testing suite x (copy_of x c) d;
      removals = λ x c. lacking_of suite testing x (removal_of x c);
      there = λ x c. nothing_lacks plan.copies.items from x there c;
      back_only = λ e x y c d key below. nothing_lower plan.copies.items suite x y (steps e) c d key below;
      brake = few;
    }

-- 5. Why there is none.
some_of : {A : Type 0} (xs : List A) → 0 < length xs → (x : A) × Contains xs x
some_of [] h = absurd (omega (arith, h))
some_of (x ∷ xs) h = (x, head_of x xs)

must_copy : (testing suite from : List Item) (gone : ℕ) (back : Bool) (plan : Plan) (x : Item) → IsPlan testing suite from gone back plan → Contains (lacking testing suite) x → Contains plan.copies.items x
must_copy testing suite from gone back plan x is c = elim ((is.ends x).1 (lacking_of testing suite x c)).0 [
  | inl d ↦ absurd (lacking_not testing suite x c d)
  | inr d ↦ d
]

lower_of : (copies suite : List Item) (x : Item) → Contains (lower copies suite) x → Contains copies x
lower_of copies suite x c = filter_of (λ z. cond (meets Lower suite z) true false) copies x c

is_met_below : (b : Bool) → cond b true false ≡ true → b ≡ true
is_met_below true h = refl
is_met_below false h = cc

is_less : (o : Ordering) → is_lt o ≡ true → o ≡ Less
is_less Less h = refl
is_less Equal h = cc
is_less Greater h = cc

lower_than : (copies suite : List Item) (x : Item) → Contains (lower copies suite) x → (y : Item) × Contains suite y × AreOfOneKey x y × IsBelow x.version y.version
unfolding meets
lower_than copies suite x c =
    let h : meets Lower suite x ≡ true = is_met_below (meets Lower suite x) (filter_test (λ z. cond (meets Lower suite z) true false) copies x c) in
    let a = Any-from_list_any (relates Lower x) suite h in
    let s = both (is_eq (key_cmp x a.1)) (is_lt (version_cmp x.version a.1.version)) a.4 in
    (a.1, (a.0, a.2, a.3), one_key x a.1 (is_equal (key_cmp x a.1) s.0), is_less (version_cmp x.version a.1.version) s.1)

lack_refuses : (testing suite from : List Item) (gone : ℕ) (back : Bool) (fault : PlanFault) → IsLack (lacking testing suite) from fault → RefusesAll testing suite from gone back fault
lack_refuses testing suite from gone back (Lacks items) h other plan is =
    let a = some_of items.items h.1 in
    let c : Contains (lacking (lacking testing suite) from) a.0 = subst (λ xs. Contains xs a.0) h.0 a.1 in
    lacking_not (lacking testing suite) from a.0 c (is.there a.0 (must_copy testing suite from gone back plan a.0 is (lacking_of (lacking testing suite) from a.0 c)))
lack_refuses testing suite from gone back (Backward items) h other plan is = absurd h
lack_refuses testing suite from gone back (TooMany count) h other plan is = absurd h
lack_refuses testing suite from gone back NoMemory h other plan is = absurd (other refl)

step_refuses : (testing suite from : List Item) (gone : ℕ) (back : Bool) (fault : PlanFault) → IsStep (lacking testing suite) suite back fault → RefusesAll testing suite from gone back fault
step_refuses testing suite from gone back (Lacks items) h other plan is = absurd h
step_refuses testing suite from gone back (Backward items) h other plan is =
    let a = some_of items.items h.2 in
    let c : Contains (lower (lacking testing suite) suite) a.0 = subst (λ xs. Contains xs a.0) h.1 a.1 in
    let y = lower_than (lacking testing suite) suite a.0 c in
    is.back_only h.0 a.0 y.0 (must_copy testing suite from gone back plan a.0 is (lower_of (lacking testing suite) suite a.0 c)) y.1 y.2 y.3
step_refuses testing suite from gone back (TooMany count) h other plan is = absurd h
step_refuses testing suite from gone back NoMemory h other plan is = absurd (other refl)

crowd_refuses : (testing suite from : List Item) (gone : ℕ) (back : Bool) (fault : PlanFault) → IsCrowd (length (leaving testing suite)) gone fault → RefusesAll testing suite from gone back fault
crowd_refuses testing suite from gone back (Lacks items) h other plan is = absurd h
crowd_refuses testing suite from gone back (Backward items) h other plan is = absurd h
crowd_refuses testing suite from gone back (TooMany count) h other plan is = let few = is.brake in let many = h.1 in let same = h.0 in absurd (omega (arith, few, many, same))
crowd_refuses testing suite from gone back NoMemory h other plan is = absurd (other refl)

pub fault_refuses : (testing suite from : List Item) (gone : ℕ) (back : Bool) (fault : PlanFault) → IsFault testing suite from gone back fault → RefusesAll testing suite from gone back fault
fault_refuses testing suite from gone back fault h = elim h [
  | inl l ↦ lack_refuses testing suite from gone back fault l
  | inr r ↦ elim r [
    | inl s ↦ step_refuses testing suite from gone back fault s.1
    | inr m ↦ crowd_refuses testing suite from gone back fault m.2
  ]
]

pub empty_from_none : {A : Type 0} (xs : List A) → ((x : A) → Contains xs x → ⊥) → xs ≡ []
empty_from_none [] h = refl
empty_from_none (x ∷ xs) h = absurd (h x (head_of x xs))

pub second_empty : (testing suite from : List Item) (gone : ℕ) (back : Bool) (plan : Plan) → IsPlan testing suite from gone back plan → ((x : Item) → Contains suite x ↔ Contains testing x) → (plan.copies.items ≡ []) × (plan.removals.items ≡ [])
second_empty testing suite from gone back plan is same = (
  empty_from_none plan.copies.items (λ x c. is.copies x c ((same x).1 ((is.ends x).0 (inr c, λ r. is.copies x c (is.removals x r))))),
  empty_from_none plan.removals.items (λ x r. ((is.ends x).1 ((same x).0 (is.removals x r))).1 r),
)
