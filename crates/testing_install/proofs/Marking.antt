-- What setting marks does.
use Rattle.std.proofs.Common.{◌≡◌, ℕ, zero, suc, ◌+◌, ◌<◌, Bool, true, false, cond, ◌⊎◌, List, [], ◌∷◌, ◌++◌, length, get_or, set, drop, take, replicate, ◌-◌, ◌≤◌, sym, refl, ap, ap₂, ◌∙◌, subst, inl, inr, arith}
use Rattle.std.specs.List.{Contains, count_by}
use Rattle.std.proofs.lemmas.Bool.{cases_eq, false≢true}
use Rattle.std.proofs.lemmas.List.{length-set, get_or-set_same, get_or-set_other, get_or_default, drop_more, drop_all, take_all, length-append}
use Rattle.std.proofs.lemmas.List.Elements.{Contains-append_left, Contains-push, Contains-push_cases}
use Rattle.std.proofs.lemmas.List.Sums.{sum_by-set}
use Rattle.testing_install.specs.Closed.{marked}
use Rattle.testing_install.specs.Among.{with_all}
use Rattle.testing_install.specs.Tracked.{Tracked}
use Rattle.testing_install.specs.steps.Tracked.{IsTracked, undone, confirmed}
use Rattle.testing_install.proofs.Members.{contains_first, contains_later, contains_cons, contains_none}

-- one mark

set_stays : (b : Bool) (xs : List Bool) (k p : ℕ) → marked xs p ≡ b → marked (set xs k b) p ≡ b
set_stays b [] k p h = h
set_stays b (x ∷ xs) zero zero h = refl
set_stays b (x ∷ xs) zero (suc p) h = h
set_stays b (x ∷ xs) (suc k) zero h = h
set_stays b (x ∷ xs) (suc k) (suc p) h = set_stays b xs k p h

-- only the place itself changes
set_elsewhere : (b : Bool) (xs : List Bool) (k p : ℕ) → (p ≡ k → ⊥) → marked (set xs k b) p ≡ marked xs p
set_elsewhere b xs k p n = get_or-set_other xs k p b false n

-- several marks

pub length-with_all : (b : Bool) (ks : List ℕ) (xs : List Bool) → length (with_all b ks xs) ≡ length xs
length-with_all b [] xs = refl
length-with_all b (k ∷ ks) xs = length-with_all b ks (set xs k b) ∙ length-set xs k b

pub with_stays : (b : Bool) (ks : List ℕ) (xs : List Bool) (p : ℕ) → marked xs p ≡ b → marked (with_all b ks xs) p ≡ b
with_stays b [] xs p h = h
with_stays b (k ∷ ks) xs p h = with_stays b ks (set xs k b) p (set_stays b xs k p h)

pub with_here : (b : Bool) (ks : List ℕ) (xs : List Bool) (p : ℕ) → p < length xs → Contains ks p → marked (with_all b ks xs) p ≡ b
with_here b [] xs p h c = absurd (contains_none p c)
with_here b (k ∷ ks) xs p h c = elim (contains_cons k p ks c) [
  | inl same ↦ (
      let at : marked (set xs k b) p ≡ b = ap (λ q. get_or (set xs k b) q false) same ∙ get_or-set_same xs k b false (omega (arith, h, same)) in
      with_stays b ks (set xs k b) p at)
  | inr later ↦ with_here b ks (set xs k b) p (omega (arith, h, length-set xs k b)) later
]

-- a place where the mark differs is one of those
pub with_elsewhere : (b c : Bool) (ks : List ℕ) (xs : List Bool) (p : ℕ) → marked (with_all b ks xs) p ≡ c → (marked xs p ≡ c) ⊎ Contains ks p
with_elsewhere b c [] xs p h = inl h
with_elsewhere b c (k ∷ ks) xs p h = elim (with_elsewhere b c ks (set xs k b) p h) [
  | inl before ↦ elim (cases_eq p k) [
    | inl e ↦ inr (subst (λ q. Contains (k ∷ ks) q) (sym e) (contains_first k ks))
    | inr n ↦ inl (sym (set_elsewhere b xs k p n) ∙ before)
  ]
  | inr later ↦ inr (contains_later k p ks later)
]

-- a mark is within the list
pub mark_within : (xs : List Bool) (p : ℕ) → marked xs p ≡ true → p < length xs
mark_within [] p h = absurd (false≢true h)
mark_within (x ∷ xs) zero h = omega arith
mark_within (x ∷ xs) (suc p) h = omega (arith, mark_within xs p h)

-- a mark more
pub one_more : (marks : List Bool) (k : ℕ) → k < length marks → marked marks k ≡ false → count_by (λ b. b) (set marks k true) ≡ count_by (λ b. b) marks + 1
one_more marks k h e =
    let changed = sum_by-set (λ b. cond b 1 0) marks k true false h in
    let one : ℕ = 1 in
    let counted : cond (get_or marks k false) one 0 ≡ 0 = ap (λ b. cond b one 0) e in
    omega (arith, changed, counted)

-- two lists of one length with the same marks are the same
pub same_list : (xs ys : List Bool) → length xs ≡ length ys → ((k : ℕ) → get_or xs k false ≡ get_or ys k false) → xs ≡ ys
same_list [] [] e h = refl
same_list [] (y ∷ ys) e h = absurd (omega (arith, e))
same_list (x ∷ xs) [] e h = absurd (omega (arith, e))
same_list (x ∷ xs) (y ∷ ys) e h = ap₂ (λ z zs. z ∷ zs) (h zero) (same_list xs ys (omega (arith, e)) (λ k. h (suc k)))

-- marks of more rows, where those behind have none

pub marked_longer : (xs : List Bool) (n k : ℕ) → marked (xs ++ replicate n false) k ≡ marked xs k
marked_longer [] zero k = refl
marked_longer [] (suc n) zero = refl
marked_longer [] (suc n) (suc k) = marked_longer [] n k
marked_longer (x ∷ xs) n zero = refl
marked_longer (x ∷ xs) n (suc k) = marked_longer xs n k

-- what `resize` gives
pub grown_to : (xs ys : List Bool) (n len : ℕ) → ys ≡ take n xs ++ replicate (n - len) false → len ≡ length xs → length xs ≤ n → ys ≡ xs ++ replicate (n - length xs) false
grown_to xs ys n len e long h = e ∙ ap (λ zs. zs ++ replicate (n - len) false) (take_all n xs h) ∙ ap (λ l. xs ++ replicate (n - l) false) long

pub tracked_longer : (current kept new_current new_kept : List Bool) (touched : List ℕ) (n : ℕ) → new_current ≡ current ++ replicate (n - length current) false → new_kept ≡ kept ++ replicate (n - length kept) false → IsTracked current kept touched → IsTracked new_current new_kept touched
tracked_longer current kept new_current new_kept touched n ec ek t =
    let behind : List Bool = replicate (n - length current) false in
    let same : new_kept ≡ kept ++ behind = ek ∙ ap (λ l. kept ++ replicate (n - l) false) (sym t.long) in
    record {
      long = omega (arith, ap length ec, ap length same, length-append current behind, length-append kept behind, t.long);
      touched_in = λ k c. omega (arith, t.touched_in k c, ap length ec, length-append current behind);
      same = λ k. elim (t.same k) [
        | inl e ↦ inl (ap (λ xs. marked xs k) ec ∙ marked_longer current (n - length current) k ∙ e ∙ sym (ap (λ xs. marked xs k) same ∙ marked_longer kept (n - length current) k))
        | inr c ↦ inr c
      ];
    }

-- the way back

pub tracked_none : (xs : List Bool) → IsTracked xs xs []
tracked_none xs = record { long = refl; touched_in = λ k c. absurd (contains_none k c); same = λ k. inl refl }

pub tracked_set : (current kept : List Bool) (touched : List ℕ) (k : ℕ) (b : Bool) → IsTracked current kept touched → k < length current → IsTracked (set current k b) kept (touched ++ k ∷ [])
tracked_set current kept touched k b t h = record {
  long = length-set current k b ∙ t.long;
  touched_in = λ p c. elim (Contains-push_cases touched k p c) [
    | inl before ↦ omega (arith, t.touched_in p before, length-set current k b)
    | inr same ↦ omega (arith, h, same, length-set current k b)
  ];
  same = λ p. elim (cases_eq p k) [
    | inl e ↦ inr (subst (λ q. Contains (touched ++ k ∷ []) q) (sym e) (Contains-push touched k))
    | inr n ↦ elim (t.same p) [
      | inl alike ↦ inl (set_elsewhere b current k p n ∙ alike)
      | inr there ↦ inr (Contains-append_left touched (k ∷ []) p there)
    ]
  ];
}

-- one place more that is touched does no harm
pub tracked_more : (current kept : List Bool) (touched : List ℕ) (k : ℕ) → IsTracked current kept touched → k < length current → IsTracked current kept (touched ++ k ∷ [])
tracked_more current kept touched k t h = record {
  long = t.long;
  touched_in = λ p c. elim (Contains-push_cases touched k p c) [ inl before ↦ t.touched_in p before | inr same ↦ omega (arith, h, same) ];
  same = λ p. elim (t.same p) [ inl alike ↦ inl alike | inr there ↦ inr (Contains-append_left touched (k ∷ []) p there) ];
}

-- the last of the touched places
pub last_touched : (current kept : List Bool) (touched front : List ℕ) (k : ℕ) → IsTracked current kept touched → touched ≡ front ++ k ∷ [] → k < length current
last_touched current kept touched front k t last = t.touched_in k (subst (λ xs. Contains xs k) (sym last) (Contains-push front k))

-- it is made alike
tracked_alike : (current kept : List Bool) (touched front : List ℕ) (k : ℕ) → IsTracked current kept touched → touched ≡ front ++ k ∷ [] → (new_current new_kept : List Bool) → length new_current ≡ length new_kept → length new_current ≡ length current → get_or new_current k false ≡ get_or new_kept k false → ((p : ℕ) → (p ≡ k → ⊥) → (get_or new_current p false ≡ get_or current p false) × (get_or new_kept p false ≡ get_or kept p false)) → IsTracked new_current new_kept front
tracked_alike current kept touched front k t last new_current new_kept long as_before here others = record {
  long = long;
  touched_in = λ p c. omega (arith, as_before, t.touched_in p (subst (λ xs. Contains xs p) (sym last) (Contains-append_left front (k ∷ []) p c)));
  same = λ p. elim (cases_eq p k) [
    | inl e ↦ inl (ap (λ q. get_or new_current q false) e ∙ here ∙ ap (λ q. get_or new_kept q false) (sym e))
    | inr n ↦ elim (t.same p) [
      | inl alike ↦ inl ((others p n).0 ∙ alike ∙ sym (others p n).1)
      | inr there ↦ elim (Contains-push_cases front k p (subst (λ xs. Contains xs p) last there)) [
        | inl left ↦ inr left
        | inr same ↦ absurd (n (sym same))
      ]
    ]
  ];
}

pub tracked_undo : (current kept : List Bool) (touched front : List ℕ) (k : ℕ) → IsTracked current kept touched → touched ≡ front ++ k ∷ [] → IsTracked (set current k (get_or kept k false)) kept front
tracked_undo current kept touched front k t last =
    let h = last_touched current kept touched front k t last in
    tracked_alike current kept touched front k t last (set current k (get_or kept k false)) kept (length-set current k (get_or kept k false) ∙ t.long) (length-set current k (get_or kept k false)) (get_or-set_same current k (get_or kept k false) false h) (λ p n. (get_or-set_other current k p (get_or kept k false) false n, refl))

pub tracked_keep : (current kept : List Bool) (touched front : List ℕ) (k : ℕ) → IsTracked current kept touched → touched ≡ front ++ k ∷ [] → IsTracked current (set kept k (get_or current k false)) front
tracked_keep current kept touched front k t last =
    let h = last_touched current kept touched front k t last in
    tracked_alike current kept touched front k t last current (set kept k (get_or current k false)) (t.long ∙ sym (length-set kept k (get_or current k false))) refl (sym (get_or-set_same kept k (get_or current k false) false (omega (arith, h, t.long)))) (λ p n. (refl, get_or-set_other kept k p (get_or current k false) false n))

-- the same where the value was read
read_alike : (xs : List Bool) (k : ℕ) (b : Bool) → k < length xs → b ≡ get_or xs k b → get_or xs k false ≡ b
read_alike xs k b h e = get_or_default xs k false b h ∙ sym e

pub tracked_undo_by : (current kept : List Bool) (touched front : List ℕ) (k : ℕ) (b : Bool) → IsTracked current kept touched → touched ≡ front ++ k ∷ [] → b ≡ get_or kept k b → IsTracked (set current k b) kept front
tracked_undo_by current kept touched front k b t last e =
    let h = last_touched current kept touched front k t last in
    subst (λ c. IsTracked (set current k c) kept front) (read_alike kept k b (omega (arith, h, t.long)) e) (tracked_undo current kept touched front k t last)

pub tracked_keep_by : (current kept : List Bool) (touched front : List ℕ) (k : ℕ) (b : Bool) → IsTracked current kept touched → touched ≡ front ++ k ∷ [] → b ≡ get_or current k b → IsTracked current (set kept k b) front
tracked_keep_by current kept touched front k b t last e =
    let h = last_touched current kept touched front k t last in
    subst (λ c. IsTracked current (set kept k c) front) (read_alike current k b h e) (tracked_keep current kept touched front k t last)

-- once nothing is touched the two are one
tracked_end : (current kept : List Bool) (touched : List ℕ) → IsTracked current kept touched → length touched ≡ 0 → current ≡ kept
tracked_end current kept touched t none = same_list current kept t.long (λ k. elim (t.same k) [
  | inl alike ↦ alike
  | inr there ↦ absurd (omega (arith, there.1, none))
])

pub undone_is : (current kept : List Bool) (touched : List ℕ) (value : Tracked) → IsTracked current kept touched → length touched ≡ 0 → kept ≡ value.kept → (record { current = current; kept = kept }) ≡ undone value
undone_is current kept touched value t none same =
    let make : List Bool → List Bool → Tracked = λ a b. record { current = a; kept = b } in
    ap₂ make (tracked_end current kept touched t none ∙ same) same

pub confirmed_is : (current kept : List Bool) (touched : List ℕ) (value : Tracked) → IsTracked current kept touched → length touched ≡ 0 → current ≡ value.current → (record { current = current; kept = kept }) ≡ confirmed value
confirmed_is current kept touched value t none same =
    let make : List Bool → List Bool → Tracked = λ a b. record { current = a; kept = b } in
    ap₂ make same (sym (tracked_end current kept touched t none) ∙ same)

-- several marks, one at a time
pub set_more : (b : Bool) (places : List ℕ) (i place : ℕ) (old new whole : List Bool) → i < length places → place ≡ get_or places i place → new ≡ set old place b → with_all b (drop i places) old ≡ whole → with_all b (drop (i + 1) places) new ≡ whole
set_more b places i place old new whole h at e so_far =
    let cut : drop i places ≡ place ∷ drop (i + 1) places = drop_more places i place h ∙ ap (λ p. p ∷ drop (i + 1) places) (sym at) in
    ap (λ xs. with_all b (drop (i + 1) places) xs) e ∙ sym (ap (λ ps. with_all b ps old) cut) ∙ so_far

pub set_done : (b : Bool) (places : List ℕ) (i : ℕ) (xs whole : List Bool) → length places ≤ i → with_all b (drop i places) xs ≡ whole → xs ≡ whole
set_done b places i xs whole h so_far = sym (ap (λ ps. with_all b ps xs) (drop_all i places h)) ∙ so_far
