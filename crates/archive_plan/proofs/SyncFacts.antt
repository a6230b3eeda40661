-- What lists of picked items make of unstable.
use Rattle.std.specs.Prelude.{◌≡◌, ℕ, ◌≤◌, ◌<◌, ◌⊎◌, ◌↔◌, List, [], ◌∷◌, ◌+◌, ◌++◌, take, Bool, true, false, ◌&&◌, cond, not, filter, length, Contains}
use Rattle.std.specs.declared.cmp.Ordering.{Ordering}
use Rattle.std.specs.declared.cmp.Ordering.TheVariants.{Less, Equal, Greater}
use Rattle.std.specs.Ordering.{is_eq, is_gt, ordering_reverse}
use Rattle.std.proofs.Common.{refl, sym, ap, subst, ◌∙◌, arith, inl, inr, get_or}
use Rattle.std.proofs.lemmas.List.{get_or_read}
use Rattle.std.proofs.lemmas.List.Elements.{Contains-append_left, Contains-append_right, Contains-append_cases, filter_more}
use Rattle.std.proofs.lemmas.List.Folds.{Any-from_list_any, list_any-from_Any}
use Rattle.std.proofs.lemmas.List.Kept.{AllPairs-filter}
use Rattle.deb_version.specs.Order.{version_cmp, IsAbove}
use Rattle.deb_version.specs.steps.Laws.{version_order, same_refl}
use Rattle.archive_plan.specs.declared.items.Item.{Item}
use Rattle.archive_plan.specs.declared.items.Relation.TheVariants.{Key, Whole, AtMost}
use Rattle.archive_plan.specs.declared.plan.PlanFault.{PlanFault}
use Rattle.archive_plan.specs.declared.plan.PlanFault.TheVariants.{Lacks, Backward, TooMany, NoMemory}
use Rattle.archive_plan.specs.declared.sync.Due.{Due}
use Rattle.archive_plan.specs.Items.{AreOfOneKey, key_cmp, AreInOrder, relates, meets, picked_from, lacking}
use Rattle.archive_plan.specs.Plan.{IsCrowd}
use Rattle.archive_plan.specs.Sync.{RefusesDue, is_package, IsAboveAll, IsUnstable, IsAfter, IsKeptOut, living, tellable, leaving_unstable, IsSync, IsTold}
use Rattle.archive_plan.proofs.PlanFacts.{order_picked, filter_has, filter_of, filter_test, is_equal, one_key, key_equal, has_or_not, not_met, lacking_of, lacking_not, lacking_has, empty_from_none, both}

-- 1. Versions that are above others.
above_by : (a b : List ℕ) (o : Ordering) → version_cmp a b ≡ o → (not (is_gt o) ≡ true → ⊥) → IsAbove a b
above_by a b Less h n = absurd (n refl)
above_by a b Equal h n = absurd (n refl)
above_by a b Greater h n = h

not_above : (o : Ordering) → not (is_gt o) ≡ true → o ≡ Greater → ⊥
not_above Less h k = cc
not_above Equal h k = cc
not_above Greater h k = cc

pub not_itself : (a : List ℕ) → IsAbove a a → ⊥
not_itself a h = let n : Greater ≡ Equal = sym h ∙ same_refl a in cc

not_both : (a b : List ℕ) → IsAbove a b → IsAbove b a → ⊥
not_both a b h k = let n : Greater ≡ Less = sym h ∙ version_order.antisymm a b ∙ ap ordering_reverse k in cc

-- above one that isn't below
above_lower : (a b c : List ℕ) (o : Ordering) → version_cmp c b ≡ o → IsAbove a b → (IsAbove c b → ⊥) → IsAbove a c
above_lower a b c Less e h n =
    version_order.antisymm a c ∙ ap ordering_reverse (version_order.trans c b a e (version_order.antisymm b a ∙ ap ordering_reverse h))
above_lower a b c Equal e h n =
    version_order.antisymm a c ∙ ap ordering_reverse (version_order.congr c b a e ∙ version_order.antisymm b a ∙ ap ordering_reverse h)
above_lower a b c Greater e h n = absurd (n e)

-- 2. What stands above a list.
met_at_most : (ys : List Item) (x y : Item) → Contains ys y → AreOfOneKey x y → not (is_gt (version_cmp x.version y.version)) ≡ true → meets AtMost ys x ≡ true
unfolding meets
met_at_most ys x y c key h = list_any-from_Any (relates AtMost x) ys (
  c.0,
  y,
  c.1,
  c.2,
  (ap (λ o. is_eq o && not (is_gt (version_cmp x.version y.version))) (key_equal x y key) ∙ h),
)

kept_out_by : (ys : List Item) (x : Item) → meets AtMost ys x ≡ true → IsKeptOut ys x
unfolding meets
kept_out_by ys x h =
    let a = Any-from_list_any (relates AtMost x) ys h in
    let s = both (is_eq (key_cmp x a.1)) (not (is_gt (version_cmp x.version a.1.version))) a.4 in
    (a.1, (a.0, a.2, a.3), one_key x a.1 (is_equal (key_cmp x a.1) s.0), not_above (version_cmp x.version a.1.version) s.1)

above_met : (ys : List Item) (x : Item) → (meets AtMost ys x ≡ true → ⊥) → IsAboveAll ys x
above_met ys x n = λ y c key. above_by x.version y.version _ refl (λ h. n (met_at_most ys x y c key h))

above_or_kept : (b : Bool) (ys : List Item) (x : Item) → meets AtMost ys x ≡ b → IsAboveAll ys x ⊎ IsKeptOut ys x
above_or_kept true ys x h = inr (kept_out_by ys x h)
above_or_kept false ys x h = inl (above_met ys x (λ k. let n : false ≡ true = sym h ∙ k in cc))

above_test : (b : Bool) (ys : List Item) (x : Item) → meets AtMost ys x ≡ b → IsAboveAll ys x → cond b false true ≡ true
above_test true ys x h a = let k = kept_out_by ys x h in absurd (k.3 (a k.0 k.1 k.2))
above_test false ys x h a = refl

higher_of : (xs ys : List Item) (x : Item) → Contains (picked_from AtMost false xs ys) x → Contains xs x × IsAboveAll ys x
higher_of xs ys x c = (
  filter_of (λ z. cond (meets AtMost ys z) false true) xs x c,
  above_met ys x (not_met (meets AtMost ys x) (filter_test (λ z. cond (meets AtMost ys z) false true) xs x c)),
)

higher_has : (xs ys : List Item) (x : Item) → Contains xs x → IsAboveAll ys x → Contains (picked_from AtMost false xs ys) x
higher_has xs ys x c a = filter_has (λ z. cond (meets AtMost ys z) false true) xs x c (above_test (meets AtMost ys x) ys x refl a)

-- 3. What shares a key with one of a list.
met_key : (ys : List Item) (x y : Item) → Contains ys y → AreOfOneKey x y → meets Key ys x ≡ true
unfolding meets
met_key ys x y c key = list_any-from_Any (relates Key x) ys (c.0, y, c.1, c.2, ap (λ o. is_eq o && true) (key_equal x y key))

of_key : (ys : List Item) (x : Item) → meets Key ys x ≡ true → (y : Item) × Contains ys y × AreOfOneKey x y
unfolding meets
of_key ys x h =
    let a = Any-from_list_any (relates Key x) ys h in
    let s = both (is_eq (key_cmp x a.1)) true a.4 in
    (a.1, (a.0, a.2, a.3), one_key x a.1 (is_equal (key_cmp x a.1) s.0))

key_or_not : (b : Bool) (ys : List Item) (x : Item) → meets Key ys x ≡ b → ((y : Item) × Contains ys y × AreOfOneKey x y) ⊎ ((y : Item) → Contains ys y → AreOfOneKey x y → ⊥)
key_or_not true ys x h = inl (of_key ys x h)
key_or_not false ys x h = inr (λ y c key. let n : false ≡ true = sym h ∙ met_key ys x y c key in cc)

apart_test : (b : Bool) (ys : List Item) (x : Item) → meets Key ys x ≡ b → ((y : Item) → Contains ys y → AreOfOneKey x y → ⊥) → cond b false true ≡ true
apart_test true ys x h n = let k = of_key ys x h in absurd (n k.0 k.1 k.2)
apart_test false ys x h n = refl

apart_of : (xs ys : List Item) (x : Item) → Contains (picked_from Key false xs ys) x → Contains xs x × ((y : Item) → Contains ys y → AreOfOneKey x y → ⊥)
apart_of xs ys x c = (
  filter_of (λ z. cond (meets Key ys z) false true) xs x c,
  λ y d key. not_met (meets Key ys x) (filter_test (λ z. cond (meets Key ys z) false true) xs x c) (met_key ys x y d key),
)

apart_has : (xs ys : List Item) (x : Item) → Contains xs x → ((y : Item) → Contains ys y → AreOfOneKey x y → ⊥) → Contains (picked_from Key false xs ys) x
apart_has xs ys x c n = filter_has (λ z. cond (meets Key ys z) false true) xs x c (apart_test (meets Key ys x) ys x refl n)

-- 4. Each key stands once in a list in order.
pub less_no : (o : Ordering) → o ≡ Less → o ≡ Equal → ⊥
less_no Less h k = cc
less_no Equal h k = cc
less_no Greater h k = cc

key_back : (x y : Item) → AreOfOneKey x y → AreOfOneKey y x
key_back x y key = (sym key.0, sym key.1)

key_over : (x y z : Item) → AreOfOneKey x y → AreOfOneKey y z → AreOfOneKey x z
key_over x y z k l = (k.0 ∙ l.0, k.1 ∙ l.1)

not_before : (xs : List Item) (x y : Item) (i j : ℕ) → AreInOrder xs → i < j → i < length xs → j < length xs → x ≡ get_or xs i x → y ≡ get_or xs j y → AreOfOneKey x y → ⊥
not_before xs x y i j order before one two is_x is_y key =
    less_no (key_cmp x y)
    (ap (λ z. key_cmp z y) (get_or_read xs i x one is_x x) ∙ ap (key_cmp (get_or xs i x)) (get_or_read xs j y two is_y x) ∙ order i j x before two)
    (key_equal x y key)

three : (i j : ℕ) → (i < j) ⊎ ((i ≡ j) ⊎ (j < i))
three i j = grind arith

pub only_one : (xs : List Item) (x y : Item) → AreInOrder xs → Contains xs x → Contains xs y → AreOfOneKey x y → x ≡ y
only_one xs x y order c d key = elim (three c.0 d.0) [
  | inl b ↦ absurd (not_before xs x y c.0 d.0 order b c.1 d.1 (sym c.2) (sym d.2) key)
  | inr s ↦ elim s [
    | inl e ↦ get_or_read xs c.0 x c.1 (sym c.2) y ∙ ap (λ k. get_or xs k y) e ∙ d.2
    | inr a ↦ absurd (not_before xs y x d.0 c.0 order a d.1 c.1 (sym d.2) (sym c.2) (key_back x y key))
  ]
]

no_other : (xs : List Item) (x y : Item) → AreInOrder xs → Contains xs x → Contains xs y → AreOfOneKey x y → IsAbove y.version x.version → ⊥
no_other xs x y order c d key h =
    not_itself x.version (subst (λ z. IsAbove z.version x.version) (sym (only_one xs x y order c d key)) h)

pub packages_more : (xs : List Item) (i : ℕ) (x : Item) (b : Bool) → i < length xs → x ≡ get_or xs i x → is_package x ≡ b
    → filter is_package (take (i + 1) xs) ≡ filter is_package (take i xs) ++ cond b (x ∷ []) []
packages_more xs i x b within is test =
    filter_more is_package xs i x within
    ∙ ap (λ z. filter is_package (take i xs) ++ cond (is_package z) (z ∷ []) []) (sym is)
    ∙ ap (λ t. filter is_package (take i xs) ++ cond t (x ∷ []) []) test

-- 5. What is due.
pub record AreDue (told index dropped : List Item) (due : Due) : Type 0 where
  pub tells : due.tells.items ≡ tellable told index dropped
  pub drops : due.drops.items ≡ leaving_unstable told index dropped
  pub left : due.left.items ≡ lacking (lacking index (living told dropped)) (tellable told index dropped)

is_told : (told index dropped : List Item) (x : Item) → Contains (tellable told index dropped) x → Contains (lacking index (living told dropped)) x × IsAboveAll told x × IsAboveAll dropped x
is_told told index dropped x c =
    let a = higher_of (picked_from AtMost false (lacking index (living told dropped)) told) dropped x c in
    let b = higher_of (lacking index (living told dropped)) told x a.0 in
    (b.0, b.1, a.1)

told_has : (told index dropped : List Item) (x : Item) → Contains (lacking index (living told dropped)) x → IsAboveAll told x → IsAboveAll dropped x → Contains (tellable told index dropped) x
told_has told index dropped x c a b =
    higher_has (picked_from AtMost false (lacking index (living told dropped)) told) dropped x (higher_has (lacking index (living told dropped)) told x c a) b

of_index : (told index dropped : List Item) (x : Item) → Contains (tellable told index dropped) x → Contains index x
of_index told index dropped x c = lacking_of index (living told dropped) x (is_told told index dropped x c).0

-- what is dropped
record IsDropped (told index dropped : List Item) (x : Item) : Type 0 where
  there : Contains told x
  alive : IsAboveAll dropped x
  binary : is_package x ≡ true
  gone : Contains index x → ⊥
  alone : (y : Item) → Contains (tellable told index dropped) y → AreOfOneKey x y → ⊥

dropped_of : (told index dropped : List Item) (x : Item) → Contains (leaving_unstable told index dropped) x → IsDropped told index dropped x
dropped_of told index dropped x c =
    let a = apart_of (filter is_package (lacking (living told dropped) index)) (tellable told index dropped) x c in
    let l = filter_of is_package (lacking (living told dropped) index) x a.0 in
    let h = higher_of told dropped x (lacking_of (living told dropped) index x l) in
    record {
      there = h.0;
      alive = h.1;
      binary = filter_test is_package (lacking (living told dropped) index) x a.0;
      gone = lacking_not (living told dropped) index x l;
      alone = a.1;
    }

dropped_has : (told index dropped : List Item) (x : Item) → IsDropped told index dropped x → Contains (leaving_unstable told index dropped) x
dropped_has told index dropped x d =
    apart_has (filter is_package (lacking (living told dropped) index)) (tellable told index dropped) x
    (filter_has is_package (lacking (living told dropped) index) x
    (lacking_has (living told dropped) index x (higher_has told dropped x d.there d.alive) d.gone) d.binary)
    d.alone

above_both : (xs ys : List Item) (x : Item) → IsAboveAll xs x → IsAboveAll ys x → IsAboveAll (xs ++ ys) x
above_both xs ys x a b = λ y c key. elim (Contains-append_cases xs ys y c) [
  | inl d ↦ a y d key
  | inr d ↦ b y d key
]

above_first : (xs ys : List Item) (x : Item) → IsAboveAll (xs ++ ys) x → IsAboveAll xs x
above_first xs ys x a = λ y c key. a y (Contains-append_left xs ys y c) key

above_last : (xs ys : List Item) (x : Item) → IsAboveAll (xs ++ ys) x → IsAboveAll ys x
above_last xs ys x a = λ y c key. a y (Contains-append_right xs ys y c) key

kept_first : (xs ys : List Item) (x : Item) → IsKeptOut xs x → IsKeptOut (xs ++ ys) x
kept_first xs ys x k = (k.0, Contains-append_left xs ys k.0 k.1, k.2, k.3)

kept_last : (xs ys : List Item) (x : Item) → IsKeptOut ys x → IsKeptOut (xs ++ ys) x
kept_last xs ys x k = (k.0, Contains-append_right xs ys k.0 k.1, k.2, k.3)

-- unstable has what was told and is above all drops
is_there : (told dropped : List Item) (x : Item) → AreInOrder told → Contains told x → IsAboveAll dropped x → IsUnstable told dropped x
is_there told dropped x order c a = (c, a, λ y d key _ h. no_other told x y order c d key h)

-- 6. After the mail.
abbrev Behind : List Item → List Item → List Item → Item → Type 0
Behind told index dropped x = IsUnstable (told ++ tellable told index dropped) (dropped ++ leaving_unstable told index dropped) x

-- what was told stays, unless it is dropped or another version of it is told
stays : (told index dropped : List Item) (x : Item) → AreInOrder told → Contains told x → IsAboveAll dropped x → (Contains (leaving_unstable told index dropped) x → ⊥) → ((y : Item) → Contains (tellable told index dropped) y → AreOfOneKey x y → ⊥) → Behind told index dropped x
stays told index dropped x order c a kept alone = (
  Contains-append_left told (tellable told index dropped) x c,
  above_both dropped (leaving_unstable told index dropped) x a (λ d e key.
      absurd (kept (subst (Contains (leaving_unstable told index dropped)) (sym (only_one told x d order c (dropped_of told index dropped d e).there key)) e))),
  λ y d key alive h. elim (Contains-append_cases told (tellable told index dropped) y d) [
    | inl e ↦ no_other told x y order c e key h
    | inr e ↦ alone y e key
  ],
)

-- what is told is there
comes : (told index dropped : List Item) (x : Item) → AreInOrder index → Contains (tellable told index dropped) x → Behind told index dropped x
comes told index dropped x order c =
    let t = is_told told index dropped x c in (
      Contains-append_right told (tellable told index dropped) x c,
      above_both dropped (leaving_unstable told index dropped) x t.2 (λ d e key. absurd ((dropped_of told index dropped d e).alone x c (key_back x d key))),
      λ y d key alive h. elim (Contains-append_cases told (tellable told index dropped) y d) [
        | inl e ↦ not_both x.version y.version (t.1 y e key) h
        | inr e ↦ no_other index x y order (of_index told index dropped x c) (of_index told index dropped y e) key h
      ],
    )

inside : (told index dropped : List Item) (x : Item) → AreInOrder told → AreInOrder index → Behind told index dropped x → is_package x ≡ true → Contains index x
inside told index dropped x order one b binary = elim (Contains-append_cases told (tellable told index dropped) x b.0) [
  | inr c ↦ of_index told index dropped x c
  | inl c ↦ elim (has_or_not (meets Whole index x) index x refl) [
    | inl d ↦ d
    | inr gone ↦ elim (key_or_not (meets Key (tellable told index dropped) x) (tellable told index dropped) x refl) [
      | inl k ↦ absurd (b.2 k.0 (Contains-append_right told (tellable told index dropped) k.0 k.1) k.2
          (comes told index dropped k.0 one k.1).1
          ((is_told told index dropped k.0 k.1).1 x c (key_back x k.0 k.2)))
      | inr alone ↦
          let d = dropped_has told index dropped x (record {
            there = c;
            alive = above_first dropped (leaving_unstable told index dropped) x b.1;
            binary = binary;
            gone = gone;
            alone = alone;
          }) in
          absurd (not_itself x.version (b.1 x (Contains-append_right dropped (leaving_unstable told index dropped) x d) (refl, refl)))
    ]
  ]
]

whole : (told index dropped : List Item) (x : Item) → AreInOrder told → AreInOrder index → Contains index x
    → Behind told index dropped x ⊎ Contains (lacking (lacking index (living told dropped)) (tellable told index dropped)) x
whole told index dropped x order one c = elim (has_or_not (meets Whole (living told dropped) x) (living told dropped) x refl) [
  | inl d ↦
      let h = higher_of told dropped x d in
      inl (stays told index dropped x order h.0 h.1 (λ e. (dropped_of told index dropped x e).gone c) (λ y e key.
      let same = only_one index x y one c (of_index told index dropped y e) key in
      not_itself x.version (subst (λ z. IsAbove z.version x.version) (sym same) ((is_told told index dropped y e).1 x h.0 (key_back x y key)))))
  | inr lacks ↦ elim (has_or_not (meets Whole (tellable told index dropped) x) (tellable told index dropped) x refl) [
    | inl d ↦ inl (comes told index dropped x one d)
    | inr other ↦ inr (lacking_has (lacking index (living told dropped)) (tellable told index dropped) x (lacking_has index (living told dropped) x c lacks) other)
  ]
]

left_of : (told index dropped : List Item) (x : Item) → Contains (lacking (lacking index (living told dropped)) (tellable told index dropped)) x
    → Contains index x × (IsUnstable told dropped x → ⊥) × IsKeptOut (told ++ dropped) x
left_of told index dropped x c =
    let l = lacking_of (lacking index (living told dropped)) (tellable told index dropped) x c in
    let other = lacking_not (lacking index (living told dropped)) (tellable told index dropped) x c in (
      lacking_of index (living told dropped) x l,
      λ u. lacking_not index (living told dropped) x l (higher_has told dropped x u.0 u.1),
      elim (above_or_kept (meets AtMost told x) told x refl) [
        | inr k ↦ kept_first told dropped x k
        | inl a ↦ elim (above_or_kept (meets AtMost dropped x) dropped x refl) [
          | inr k ↦ kept_last told dropped x k
          | inl b ↦ absurd (other (told_has told index dropped x l a b))
        ]
      ],
    )

pub order_packages : (xs : List Item) → AreInOrder xs → AreInOrder (filter is_package xs)
order_packages xs order = AllPairs-filter (λ x y. key_cmp x y ≡ Less) is_package xs order

pub order_told : (told index dropped : List Item) → AreInOrder index → AreInOrder (tellable told index dropped)
order_told told index dropped order =
    order_picked AtMost false (picked_from AtMost false (lacking index (living told dropped)) told) dropped
    (order_picked AtMost false (lacking index (living told dropped)) told (order_picked Whole false index (living told dropped) order))

order_left : (told index dropped : List Item) → AreInOrder told → AreInOrder (leaving_unstable told index dropped)
order_left told index dropped order =
    order_picked Key false (filter is_package (lacking (living told dropped) index)) (tellable told index dropped)
    (order_packages (lacking (living told dropped) index) (order_picked Whole false (living told dropped) index (order_picked AtMost false told dropped order)))

pub is_sync : (told index dropped : List Item) (gone : ℕ) (due : Due) → AreInOrder told → AreInOrder index → AreDue told index dropped due
    → length (leaving_unstable told index dropped) ≤ gone → IsSync told index dropped gone due
is_sync told index dropped gone due order one due_is few =
    let told_is : (x : Item) → Contains due.tells.items x → Contains (tellable told index dropped) x = λ x c. subst (λ xs. Contains xs x) due_is.tells c in
    let dropped_is : (x : Item) → Contains due.drops.items x → Contains (leaving_unstable told index dropped) x = λ x c. subst (λ xs. Contains xs x) due_is.drops c in
    let after : (x : Item) → IsAfter told dropped due x → Behind told index dropped x =
    λ x a. subst (λ ts. IsUnstable (told ++ ts) (dropped ++ leaving_unstable told index dropped) x) due_is.tells (subst (λ ds. IsUnstable (told ++ due.tells.items) (dropped ++ ds) x) due_is.drops a) in
    let back : (x : Item) → Behind told index dropped x → IsAfter told dropped due x =
    λ x a. subst (λ ts. IsUnstable (told ++ ts) (dropped ++ due.drops.items) x) (sym due_is.tells) (subst (λ ds. IsUnstable (told ++ tellable told index dropped) (dropped ++ ds) x) (sym due_is.drops) a) in
    record {
      inside = λ x a binary. inside told index dropped x order one (after x a) binary;
      whole = λ x c. elim (whole told index dropped x order one c) [
        | inl b ↦ inl (back x b)
        | inr l ↦ inr (subst (λ xs. Contains xs x) (sym due_is.left) l)
      ];
      left = λ x c. left_of told index dropped x (subst (λ xs. Contains xs x) due_is.left c);
      tells = λ x c.
          let t = is_told told index dropped x (told_is x c) in
          (of_index told index dropped x (told_is x c), above_both told dropped x t.1 t.2);
      drops = λ x c.
          let d = dropped_of told index dropped x (dropped_is x c) in
          (is_there told dropped x order d.there d.alive, d.binary, d.gone, λ y e key. d.alone y (told_is y e) key);
      order = (
        subst AreInOrder (sym due_is.tells) (order_told told index dropped one),
        subst AreInOrder (sym due_is.drops) (order_left told index dropped order),
        subst AreInOrder (sym due_is.left) (order_picked Whole false (lacking index (living told dropped)) (tellable told index dropped) (order_picked Whole false index (living told dropped) one)),
      );
      brake = few;
    }

-- 7. Laws.
pub nothing_due : (told index dropped : List Item) (gone : ℕ) (due : Due) → IsSync told index dropped gone due → ((x : Item) → IsUnstable told dropped x ↔ Contains index x)
    → (due.tells.items ≡ []) × (due.drops.items ≡ []) × (due.left.items ≡ [])
nothing_due told index dropped gone due is same = (
  empty_from_none due.tells.items (λ x c.
      let t = is.tells x c in
      not_itself x.version (t.1 x (Contains-append_left told dropped x ((same x).1 t.0).0) (refl, refl))),
  empty_from_none due.drops.items (λ x c. let d = is.drops x c in d.2 ((same x).0 d.0)),
  empty_from_none due.left.items (λ x c. let l = is.left x c in l.1 ((same x).1 l.0)),
)

pub crowd_refuses_due : (told index dropped : List Item) (gone : ℕ) (fault : PlanFault) → IsCrowd (length (leaving_unstable told index dropped)) gone fault → RefusesDue told index dropped gone fault
crowd_refuses_due told index dropped gone (Lacks items) h other due is = absurd h
crowd_refuses_due told index dropped gone (Backward items) h other due is = absurd h
crowd_refuses_due told index dropped gone (TooMany count) h other due is = let few = is.brake in let many = h.1 in let same = h.0 in absurd (omega (arith, few, many, same))
crowd_refuses_due told index dropped gone NoMemory h other due is = absurd (other refl)

-- a drop at least as high keeps out what is kept out by a lower one
kept_over : (ds : List Item) (x y : Item) → AreOfOneKey x y → (IsAbove x.version y.version → ⊥) → IsKeptOut ds y → IsAboveAll ds x → ⊥
kept_over ds x y key low k above =
    low (above_lower x.version k.0.version y.version _ refl (above k.0 k.1 (key_over x y k.0 key k.2)) k.3)

pub second_none : (told index dropped told2 dropped2 : List Item) (gone gone2 : ℕ) (due due2 : Due) → AreInOrder told → AreInOrder index
    → IsSync told index dropped gone due → IsTold told dropped due told2 dropped2 → IsSync told2 index dropped2 gone2 due2
    → (due2.tells.items ≡ []) × (due2.drops.items ≡ [])
second_none told index dropped told2 dropped2 gone gone2 due due2 order one is now is2 = (
  empty_from_none due2.tells.items (λ x c.
      let t = is2.tells x c in
      let rows = above_first told2 dropped2 x t.1 in
      let drops = above_last told2 dropped2 x t.1 in
      let stays_out : (y : Item) → Contains (dropped ++ due.drops.items) y → AreOfOneKey x y → (IsAbove x.version y.version → ⊥) → ⊥ =
      λ y d key low. kept_over dropped2 x y key low (now.drops y d) drops in
      elim (is.whole x t.0) [
        | inl a ↦ not_itself x.version (rows x ((now.rows x).1 a) (refl, refl))
        | inr l ↦
            let k = (is.left x l).2 in
            let y = k.0 in
            elim (Contains-append_cases told dropped y k.1) [
              | inr d ↦ stays_out y (Contains-append_left dropped due.drops.items y d) k.2 k.3
              | inl d ↦ elim (has_or_not (meets Whole due.drops.items y) due.drops.items y refl) [
                | inl e ↦ stays_out y (Contains-append_right dropped due.drops.items y e) k.2 k.3
                | inr kept ↦ elim (above_or_kept (meets AtMost dropped y) dropped y refl) [
                  | inr m ↦ kept_over dropped2 x m.0 (key_over x y m.0 k.2 m.2)
                      (λ h. k.3 (above_lower x.version m.0.version y.version _ refl h m.3))
                      (now.drops m.0 (Contains-append_left dropped due.drops.items m.0 m.1)) drops
                  | inl alive ↦ elim (key_or_not (meets Key due.tells.items y) due.tells.items y refl) [
                    | inl z ↦
                        let u = is.tells z.0 z.1 in
                        let same = only_one index x z.0 one t.0 u.0 (key_over x y z.0 k.2 z.2) in
                        k.3 (subst (λ w. IsAbove w.version y.version) (sym same) (u.1 y (Contains-append_left told dropped y d) (key_back y z.0 z.2)))
                    | inr alone ↦ k.3 (rows y ((now.rows y).1 (
                      Contains-append_left told due.tells.items y d,
                      above_both dropped due.drops.items y alive (λ e f key.
                          absurd (kept (subst (Contains due.drops.items) (sym (only_one told y e order d (is.drops e f).0.0 key)) f))),
                      λ e f key _ h. elim (Contains-append_cases told due.tells.items e f) [
                        | inl g ↦ no_other told y e order d g key h
                        | inr g ↦ alone e g key
                      ],
                    )) k.2)
                  ]
                ]
              ]
            ]
      ]),
  empty_from_none due2.drops.items (λ x c.
      let d = is2.drops x c in
      d.2 (is.inside x ((now.rows x).0 d.0.0) d.1)),
)

-- 8. What the steps of the code give.
pub tells_from : (told index dropped : List Item) (alive lacks tells : List Item) → alive ≡ living told dropped → lacks ≡ lacking index alive
    → tells ≡ picked_from AtMost false (picked_from AtMost false lacks told) dropped → tells ≡ tellable told index dropped
tells_from told index dropped alive lacks tells a l t =
    t ∙ ap (λ xs. picked_from AtMost false (picked_from AtMost false xs told) dropped) (l ∙ ap (lacking index) a)

pub drops_from : (told index dropped : List Item) (alive tells drops : List Item) → alive ≡ living told dropped → tells ≡ tellable told index dropped
    → drops ≡ picked_from Key false (filter is_package (lacking alive index)) tells → drops ≡ leaving_unstable told index dropped
drops_from told index dropped alive tells drops a t d =
    d
    ∙ ap (λ xs. picked_from Key false (filter is_package (lacking xs index)) tells) a
    ∙ ap (picked_from Key false (filter is_package (lacking (living told dropped) index))) t
