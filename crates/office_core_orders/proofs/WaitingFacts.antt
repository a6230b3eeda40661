-- What a run waits for, by counts and by orders, and why it isn't ready.
use Rattle.std.proofs.Common.{◌≡◌, ◌⊎◌, ⊎_elim, inl, inr, ℕ, zero, suc, ◌+◌, ◌<◌, ◌≤◌, ◌↔◌, List, [], ◌∷◌, ◌++◌, length, map, slice_index, Option, Some, None, IsSome, refl, sym, ap, subst, ◌∙◌, arith, nat_cmp, Less}
use Rattle.std.specs.Prelude.{Contains}
use Rattle.std.specs.FinMap.{get}
use Rattle.std.specs.List.{AllByRecursion}
use Rattle.std.specs.List.Sorted.{IsStrictlySortedBy}
use Rattle.std.proofs.lemmas.Bool.{cases_lt}
use Rattle.std.proofs.lemmas.Bool.Decides.{nat_tests}
use Rattle.std.proofs.lemmas.List.{get_or_past}
use Rattle.std.proofs.lemmas.List.Elements.{Contains-append_left, Contains-push, Contains-push_cases}
use Rattle.testing_rules_items.proofs.Members.{none_among, head_of, tail_of}
use Rattle.testing_rules_model.proofs.Sets.{first_or_rest}
use Rattle.office_mail.specs.declared.message.RunOrder.{RunOrder}
use Rattle.office_mail.specs.Lists.{Lists}
use Rattle.office_mail.specs.Kept.{Kept, Within}
use Rattle.office_mail.specs.Runs.{IsReady, IsReadyCount, order_at}
use Rattle.office_mail.proofs.RunFacts.{order_at-later}
use Rattle.office_core_orders.specs.declared.wait_lines.Lack.{Lack}
use Rattle.office_core_orders.specs.declared.wait_lines.Awaited.{Awaited}
use Rattle.office_core_orders.specs.declared.wait_lines.Awaited.TheVariants.{Order, Mail}
use Rattle.office_core_orders.specs.Ready.{HasNumbers, HasEach}
use Rattle.office_core_orders.specs.steps.Ready.{IsReached}
use Rattle.office_core_orders.specs.Waiting.{IsFirstGap, IsLack, AreLacks, AwaitsBy, Awaits, AwaitsSome}
use Rattle.office_core_orders.proofs.OrderFacts.{covers_are_whole}
use Rattle.office_core_orders.proofs.ReadyCount.{ready_more, ready_each}

-- what is kept isn't missing
some_or_none : {A : Type 0} (o : Option A) → IsSome o ⊎ (o ≡ None)
some_or_none (Some x) = inl refl
some_or_none None = inr refl

not_missing : {A : Type 0} {P : Type 0} (o : Option A) → IsSome o → o ≡ None → P
not_missing o some none = absurd (cc (subst IsSome none some))

-- a sender has one first gap
no_lower_gap : (kept : Kept) (s a b : ℕ) → IsFirstGap kept s a → IsFirstGap kept s b → a < b → ⊥
no_lower_gap kept s a b x y lt = not_missing (get kept (s, a)) (y.before a x.above (omega (arith, lt))) x.missing

same_gap : (kept : Kept) (s a b : ℕ) → IsFirstGap kept s a → IsFirstGap kept s b → a ≡ b
same_gap kept s a b x y = ⊎_elim
    (λ (lt : a < b). absurd (no_lower_gap kept s a b x y lt))
    (λ (le : b ≤ a). ⊎_elim
    (λ (lt : b < a). absurd (no_lower_gap kept s b a y x lt))
    (λ (ge : a ≤ b). omega (arith, le, ge))
    (cases_lt b a))
    (cases_lt a b)

-- and one lack
lack_by_parts : (a b : Lack) → a.sender ≡ b.sender → a.number ≡ b.number → a.cover ≡ b.cover → a ≡ b
lack_by_parts a b s n c = λ i. record { sender = s i; number = n i; cover = c i }

same_lack : (kept : Kept) (order : RunOrder) (a b : Lack) → IsLack kept order a → IsLack kept order b → a.sender ≡ b.sender → a ≡ b
same_lack kept order a b x y same =
    lack_by_parts a b same
    (same_gap kept a.sender a.number b.number x.gap (subst (λ (s : ℕ). IsFirstGap kept s b.number) (sym same) y.gap))
    (x.cover ∙ ap (slice_index order.covers) same ∙ sym y.cover)

-- lists by sender, with one more at the end

less : (m n : ℕ) → m < n → nat_cmp m n ≡ Less
less m n h = grind (arith, nat_tests)

abbrev senders_of : List Lack → List ℕ
senders_of lacks = map (λ (lack : Lack). lack.sender) lacks

above_push : (n : ℕ) (ys : List Lack) (x : Lack) → AllByRecursion (λ k. nat_cmp n k ≡ Less) (senders_of ys) → nat_cmp n x.sender ≡ Less → AllByRecursion (λ k. nat_cmp n k ≡ Less) (senders_of (ys ++ x ∷ []))
above_push n [] x h e = (e, tt)
above_push n (y ∷ ys) x h e = (h.0, above_push n ys x h.1 e)

senders_push : (ys : List Lack) (x : Lack) → IsStrictlySortedBy nat_cmp (senders_of ys) → ((y : Lack) → Contains ys y → y.sender < x.sender) → IsStrictlySortedBy nat_cmp (senders_of (ys ++ x ∷ []))
unfolding IsStrictlySortedBy
senders_push [] x h below = (tt, tt)
senders_push (y ∷ ys) x h below = (
  above_push y.sender ys x h.0 (less y.sender x.sender (below y (head_of y ys))),
  senders_push ys x h.1 (λ z c. below z (tail_of y ys z c)),
)

-- the lacks of more and more senders

pub lacks_none : (kept : Kept) (order : RunOrder) (lacks : List Lack) → lacks ≡ [] → AreLacks kept order 0 lacks
unfolding IsStrictlySortedBy
lacks_none kept order lacks e =
    let none : AreLacks kept order 0 [] = record { each = λ y. (λ c. none_among y c, λ own. absurd (omega (arith, own.0))); by_sender = tt } in
    subst (AreLacks kept order 0) (sym e) none

lacks_more : (kept : Kept) (order : RunOrder) (n : ℕ) (lacks : List Lack) (x : Lack) → AreLacks kept order n lacks → x.sender ≡ n → IsLack kept order x → AreLacks kept order (n + 1) (lacks ++ x ∷ [])
lacks_more kept order n lacks x are at is = record {
  each = λ y. (
    λ c. ⊎_elim
        (λ before. let own = (are.each y).0 before in (omega (arith, own.0), own.1))
        (λ (same : x ≡ y). subst (λ (z : Lack). (z.sender < n + 1) × IsLack kept order z) same (omega (arith, at), is))
        (Contains-push_cases lacks x y c),
    λ own. ⊎_elim
        (λ (lt : y.sender < n). Contains-append_left lacks (x ∷ []) y ((are.each y).1 (lt, own.1)))
        (λ (le : n ≤ y.sender). subst (λ (z : Lack). Contains (lacks ++ x ∷ []) z) (same_lack kept order x y is own.1 (omega (arith, at, le, own.0))) (Contains-push lacks x))
        (cases_lt y.sender n),
  );
  by_sender = senders_push lacks x are.by_sender (λ y c. let own = (are.each y).0 c in omega (arith, own.0, at));
}

lacks_stay : (kept : Kept) (order : RunOrder) (n : ℕ) (lacks : List Lack) → AreLacks kept order n lacks → ((y : Lack) → y.sender ≡ n → IsLack kept order y → ⊥) → AreLacks kept order (n + 1) lacks
lacks_stay kept order n lacks are none = record {
  each = λ y. (
    λ c. let own = (are.each y).0 c in (omega (arith, own.0), own.1),
    λ own. ⊎_elim
        (λ (lt : y.sender < n). (are.each y).1 (lt, own.1))
        (λ (le : n ≤ y.sender). absurd (none y (omega (arith, le, own.0)) own.1))
        (cases_lt y.sender n),
  );
  by_sender = are.by_sender;
}

-- a sender whose count doesn't reach its cover lacks the next number
pub lacks_found : (kept : Kept) (order : RunOrder) (counts : List ℕ) (n : ℕ) (lacks new : List Lack) (x : Lack) → new ≡ lacks ++ x ∷ [] → HasEach kept counts → IsReached kept order.covers counts n
    → x.sender ≡ n → x.number ≡ slice_index counts n + 1 → x.cover ≡ slice_index order.covers n → slice_index counts n < slice_index order.covers n
    → AreLacks kept order n lacks → AreLacks kept order (n + 1) new
lacks_found kept order counts n lacks new x push each reached s m c lt are =
    let gap : IsFirstGap kept n (slice_index counts n + 1) = record {
      above = omega arith;
      before = λ j low high. each n j low (omega (arith, high));
      missing = reached lt;
    } in
    let own : IsFirstGap kept x.sender x.number = subst (λ (k : ℕ). IsFirstGap kept k x.number) (sym s) (subst (IsFirstGap kept n) (sym m) gap) in
    let is : IsLack kept order x = record { gap = own; cover = c ∙ ap (slice_index order.covers) (sym s); stated = omega (arith, m, c, lt) } in
    subst (AreLacks kept order (n + 1)) (sym push) (lacks_more kept order n lacks x are s is)

-- one whose count reaches it lacks nothing
pub lacks_skipped : (kept : Kept) (order : RunOrder) (counts : List ℕ) (n : ℕ) (lacks : List Lack) → HasEach kept counts → slice_index order.covers n ≤ slice_index counts n → AreLacks kept order n lacks → AreLacks kept order (n + 1) lacks
lacks_skipped kept order counts n lacks each le are = lacks_stay kept order n lacks are (λ y at is.
    let cover : y.cover ≡ slice_index order.covers n = is.cover ∙ ap (slice_index order.covers) at in
    let stated = is.stated in
    let some : IsSome (get kept (n, y.number)) = each n y.number is.gap.above (omega (arith, stated, cover, le)) in
    not_missing (get kept (y.sender, y.number)) (subst (λ (k : ℕ). IsSome (get kept (k, y.number))) (sym at) some) is.gap.missing)

-- two lists by sender with the same elements are one

more : (m n : ℕ) → nat_cmp m n ≡ Less → m < n
more m n h = grind (arith, nat_tests)

above_all : (n : ℕ) (xs : List Lack) (z : Lack) → AllByRecursion (λ k. nat_cmp n k ≡ Less) (senders_of xs) → Contains xs z → n < z.sender
above_all n [] z a c = none_among z c
above_all n (x ∷ xs) z a c = elim (first_or_rest x xs z c) [
  | inl same ↦ subst (λ (y : Lack). n < y.sender) same (more n x.sender a.0)
  | inr among ↦ above_all n xs z a.1 among
]

rest_same : (x y : Lack) (xs ys : List Lack) → x ≡ y → AllByRecursion (λ k. nat_cmp x.sender k ≡ Less) (senders_of xs) → ((z : Lack) → Contains (x ∷ xs) z → Contains (y ∷ ys) z) → (z : Lack) → Contains xs z → Contains ys z
rest_same x y xs ys e above same z c = elim (first_or_rest y ys z (same z (tail_of x xs z c))) [
  | inl own ↦ let at : x.sender ≡ z.sender = ap (λ (l : Lack). l.sender) (e ∙ own) in absurd (omega (arith, at, above_all x.sender xs z above c))
  | inr among ↦ among
]

head_same : (x y : Lack) (xs ys : List Lack) → AllByRecursion (λ k. nat_cmp x.sender k ≡ Less) (senders_of xs) → AllByRecursion (λ k. nat_cmp y.sender k ≡ Less) (senders_of ys) → Contains (y ∷ ys) x → Contains (x ∷ xs) y → x ≡ y
head_same x y xs ys r q c d = elim (first_or_rest y ys x c) [
  | inl e ↦ sym e
  | inr low ↦ elim (first_or_rest x xs y d) [
    | inl e ↦ e
    | inr high ↦ absurd (omega (arith, above_all y.sender ys x q low, above_all x.sender xs y r high))
  ]
]

same_by_sender : (xs ys : List Lack) → IsStrictlySortedBy nat_cmp (senders_of xs) → IsStrictlySortedBy nat_cmp (senders_of ys) → ((z : Lack) → Contains xs z → Contains ys z) → ((z : Lack) → Contains ys z → Contains xs z) → xs ≡ ys
unfolding IsStrictlySortedBy
same_by_sender [] [] r q to from = refl
same_by_sender [] (y ∷ ys) r q to from = none_among y (from y (head_of y ys))
same_by_sender (x ∷ xs) [] r q to from = none_among x (to x (head_of x xs))
same_by_sender (x ∷ xs) (y ∷ ys) r q to from =
    let e : x ≡ y = head_same x y xs ys r.0 q.0 (to x (head_of x xs)) (from y (head_of y ys)) in
    let tails = same_by_sender xs ys r.1 q.1 (rest_same x y xs ys e r.0 to) (rest_same y x ys xs (sym e) q.0 from) in
    ap (λ z. z ∷ xs) e ∙ ap (λ zs. y ∷ zs) tails

pub one_list : (kept : Kept) (order : RunOrder) (n : ℕ) (xs ys : List Lack) → AreLacks kept order n xs → AreLacks kept order n ys → xs ≡ ys
one_list kept order n xs ys a b = same_by_sender xs ys a.by_sender b.by_sender (λ z c. (b.each z).1 ((a.each z).0 c)) (λ z c. (a.each z).1 ((b.each z).0 c))

-- where no number up to one is a first gap, all of them are kept
numbers_there : (kept : Kept) (s m : ℕ) → ((g : ℕ) → g ≤ m → IsFirstGap kept s g → ⊥) → HasNumbers kept s m
numbers_there kept s zero none = λ j low high. absurd (omega (arith, low, high))
numbers_there kept s (suc m) none =
    let before : HasNumbers kept s m = numbers_there kept s m (λ g le gap. none g (omega (arith, le)) gap) in
    let last : IsSome (get kept (s, suc m)) = ⊎_elim
    (λ some. some)
    (λ missing. absurd (none (suc m) (omega arith) (record { above = omega arith; before = λ j low high. before j low (omega (arith, high)); missing = missing })))
    (some_or_none (get kept (s, suc m))) in
    λ j low high. ⊎_elim
    (λ (lt : j < suc m). before j low (omega (arith, lt)))
    (λ (le : suc m ≤ j). let at : suc m ≡ j = omega (arith, le, high) in subst (λ (k : ℕ). IsSome (get kept (s, k))) at last)
    (cases_lt j (suc m))

nothing_in : (xs : List Lack) → ((x : Lack) → Contains xs x → ⊥) → xs ≡ []
nothing_in [] none = refl
nothing_in (x ∷ xs) none = absurd (none x (head_of x xs))

-- where nothing is lacking, all that the order states is there
all_there : (setup : Lists) (kept : Kept) (k : ℕ) (order : RunOrder) (lacks : List Lack) → order_at setup kept k ≡ Some order → AreLacks kept order (length setup.senders) lacks → lacks ≡ [] → HasEach kept order.covers
all_there setup kept k order lacks at are none = λ s. numbers_there kept s (slice_index order.covers s) (λ g le gap. ⊎_elim
    (λ (lt : s < length setup.senders).
    let lack : Lack = record { sender = s; number = g; cover = slice_index order.covers s } in
    let is : IsLack kept order lack = record { gap = gap; cover = refl; stated = le } in
    none_among lack (subst (λ (xs : List Lack). Contains xs lack) none ((are.each lack).1 (lt, is))))
    (λ (past : length setup.senders ≤ s).
    let long = covers_are_whole setup kept k order at in
    let low = gap.above in
    absurd (omega (arith, low, le, get_or_past order.covers s 0 (omega (arith, long, past)))))
    (cases_lt s (length setup.senders)))

-- what is lacking is missing, also where an order states more than is there
missing_there : (setup : Lists) (small large : Kept) (n : ℕ) (order : RunOrder) (lacks : List Lack) (lack : Lack) → order_at setup large (n + 1) ≡ Some order → AreLacks small order (length setup.senders) lacks → Contains lacks lack → IsReady setup large (n + 1) → IsSome (get large (lack.sender, lack.number))
missing_there setup small large n order lacks lack at are c ready =
    let is : IsLack small order lack = ((are.each lack).0 c).1 in
    let stated = is.stated in
    let cover = is.cover in
    ready_each setup large n order at ready lack.sender lack.number is.gap.above (omega (arith, stated, cover))

-- a run isn't ready since something is lacking, and only then
pub lacks_tell : (setup : Lists) (kept : Kept) (n : ℕ) (order : RunOrder) (lacks : List Lack) → IsReady setup kept n → order_at setup kept (n + 1) ≡ Some order → AreLacks kept order (length setup.senders) lacks → (lacks ≡ []) ↔ IsReady setup kept (n + 1)
lacks_tell setup kept n order lacks ready at are = (
  λ none. ready_more setup kept n order ready at (all_there setup kept (n + 1) order lacks at are none),
  λ next. nothing_in lacks (λ x c. not_missing (get kept (x.sender, x.number)) (missing_there setup kept kept n order lacks x at are c next) (((are.each x).0 c).1).gap.missing),
)

some_of : {A : Type 0} (o : Option A) (x : A) → o ≡ Some x → IsSome o
some_of o x e = rw e refl

-- each number that is lacking is there in all mail that makes the run ready
pub lacks_come : (setup : Lists) (small large : Kept) (n : ℕ) (order : RunOrder) (lacks : List Lack) (lack : Lack) → Within small large → order_at setup small (n + 1) ≡ Some order → AreLacks small order (length setup.senders) lacks → Contains lacks lack → get large (lack.sender, lack.number) ≡ None → IsReady setup large (n + 1) → ⊥
lacks_come setup small large n order lacks lack within at are c none ready =
    let there : order_at setup large (n + 1) ≡ Some order = order_at-later setup small large (n + 1) within (some_of (order_at setup small (n + 1)) order at) ∙ at in
    not_missing (get large (lack.sender, lack.number)) (missing_there setup small large n order lacks lack there are c ready) none

pub order_comes : (setup : Lists) (kept : Kept) (n : ℕ) → order_at setup kept (n + 1) ≡ None → IsReady setup kept (n + 1) → ⊥
order_comes setup kept n none ready = not_missing (order_at setup kept (n + 1)) (ready.orders (n + 1) (omega arith) (omega arith)) none

-- behind the last ready run something is lacking

some_in : (xs : List Lack) → (xs ≡ [] → ⊥) → 1 ≤ length xs
some_in [] h = absurd (h refl)
some_in (x ∷ xs) h = omega arith

awaits_some : (setup : Lists) (kept : Kept) (n : ℕ) (o : Option RunOrder) (awaited : Awaited) → order_at setup kept (n + 1) ≡ o → IsReadyCount setup kept n → AwaitsBy setup kept o awaited → AwaitsSome awaited
awaits_some setup kept n None Order at greatest h = tt
awaits_some setup kept n None (Mail lacks) at greatest h = absurd h
awaits_some setup kept n (Some order) Order at greatest h = absurd h
awaits_some setup kept n (Some order) (Mail lacks) at greatest are = some_in lacks.items (λ none.
    let next : IsReady setup kept (n + 1) = (lacks_tell setup kept n order lacks.items greatest.holds at are).0 none in
    absurd (omega (arith, greatest.none_above (n + 1) next)))

pub awaited_some : (setup : Lists) (kept : Kept) (n : ℕ) (awaited : Awaited) → IsReadyCount setup kept n → Awaits setup kept (n + 1) awaited → AwaitsSome awaited
awaited_some setup kept n awaited greatest h = awaits_some setup kept n (order_at setup kept (n + 1)) awaited refl greatest h
