-- When the next run is ready.
use Rattle.std.proofs.Common.{◌≡◌, ⊎_elim, ℕ, zero, suc, ◌+◌, ◌<◌, ◌≤◌, Bool, false, ◌↔◌, IsTrue, nat_eq, max, List, [], ◌∷◌, ◌++◌, length, slice_index, get_or, Option, Some, None, Result, IsSome, IfOk, option_and_then, option_to_list, sym, ap, subst, ◌∙◌, refl, arith}
use Rattle.std.proofs.lemmas.Bool.{cases_lt}
use Rattle.std.proofs.lemmas.Bool.Decides.{nat_tests}
use Rattle.std.proofs.lemmas.List.{length-append}
use Rattle.std.proofs.Math.Seq.{get_or-append_seam}
use Rattle.std.proofs.lemmas.Result.{IfOk-weaker}
use Rattle.std.specs.FinMap.{get}
use Rattle.office_mail.specs.declared.message.Message.{Message}
use Rattle.office_mail.specs.declared.message.MailFault.{MailFault}
use Rattle.office_mail.specs.declared.message.RunOrder.{RunOrder}
use Rattle.office_mail.specs.Lists.{Lists}
use Rattle.office_mail.specs.Kept.{Kept, Place, IsPlace}
use Rattle.office_mail.specs.Read.{read}
use Rattle.office_mail.specs.Runs.{runs, order_in, order_at, orders_to, cover, cover_of, IsReady, IsReadyCount, IsGreatest, IsReadyRun}
use Rattle.office_mail.specs.steps.ReadSteps.{order_in_answer}
use Rattle.office_mail.proofs.ReadyFacts.{cover_of-push}
use Rattle.office_mail.proofs.RunFacts.{IsReady-before}
use Rattle.office_core_store.specs.declared.faults.StoreFault.{StoreFault}
use Rattle.office_core_orders.specs.Ready.{HasEach, HasPlaces}
use Rattle.office_core_orders.specs.steps.Ready.{FirstOrders, IsReached}

pub order_at-none : (setup : Lists) (kept : Kept) (k : ℕ) → get kept (runs setup, k) ≡ None → order_at setup kept k ≡ None
unfolding order_at
order_at-none setup kept k e = ap (option_and_then (order_in setup)) e

pub order_at-some : (setup : Lists) (kept : Kept) (k : ℕ) (text : List ℕ) (answer : Result Message MailFault) → get kept (runs setup, k) ≡ Some text → read setup text ≡ answer → order_at setup kept k ≡ order_in_answer answer
unfolding order_at
order_at-some setup kept k text answer e is = ap (option_and_then (order_in setup)) e ∙ ap order_in_answer is

-- the order in a kept text is the kept order
pub order_at-read : (setup : Lists) (kept : Kept) (k : ℕ) (text : List ℕ) (order : Option RunOrder) → get kept (runs setup, k) ≡ Some text → order ≡ order_in setup text → order ≡ order_at setup kept k
order_at-read setup kept k text order e is = is ∙ sym (order_at-some setup kept k text (read setup text) e refl)

pub orders_to-zero : (setup : Lists) (kept : Kept) → orders_to setup kept 0 ≡ []
unfolding orders_to
orders_to-zero setup kept = refl

orders_to-suc : (setup : Lists) (kept : Kept) (k : ℕ) (order : RunOrder) → order_at setup kept (k + 1) ≡ Some order → orders_to setup kept (k + 1) ≡ orders_to setup kept k ++ order ∷ []
unfolding orders_to
orders_to-suc setup kept k order e =
    let one : k + 1 ≡ suc k = omega arith in
    ap (orders_to setup kept) one ∙ ap (λ o. orders_to setup kept k ++ option_to_list o) (ap (order_at setup kept) (sym one) ∙ e)

-- one order more
orders_more : (setup : Lists) (kept : Kept) (orders : List RunOrder) (order : RunOrder) → orders ≡ orders_to setup kept (length orders) → order_at setup kept (length orders + 1) ≡ Some order → orders ++ order ∷ [] ≡ orders_to setup kept (length (orders ++ order ∷ []))
orders_more setup kept orders order same e =
    ap (λ (os : List RunOrder). os ++ order ∷ []) same ∙ sym (orders_to-suc setup kept (length orders) order e) ∙ ap (orders_to setup kept) (sym (length-append orders (order ∷ [])))

some_of : {A : Type 0} (o : Option A) (x : A) → o ≡ Some x → IsSome o
some_of o x e = rw e refl

each_more : (setup : Lists) (kept : Kept) (n : ℕ) (order : RunOrder) → ((j : ℕ) → 1 ≤ j → j ≤ n → IsSome (order_at setup kept j)) → order_at setup kept (n + 1) ≡ Some order → (j : ℕ) → 1 ≤ j → j ≤ n + 1 → IsSome (order_at setup kept j)
each_more setup kept n order each e j low high = ⊎_elim
    (λ (lt : n < j). let at : j ≡ n + 1 = omega arith in rw at (some_of (order_at setup kept (n + 1)) order e))
    (λ (le : j ≤ n). each j low le)
    (cases_lt n j)

not_both : {A : Type 0} (o : Option A) → (IsSome o → ⊥) → o ≡ None
not_both None h = refl
not_both (Some x) h = absurd (h refl)

-- past the greatest number nothing is kept
order_at-past : (setup : Lists) (kept : Kept) (k : ℕ) → ((p : Place) → IsSome (get kept p) → IsPlace setup p) → 999_999_999 < k → order_at setup kept k ≡ None
order_at-past setup kept k places past = order_at-none setup kept k (not_both (get kept (runs setup, k)) (λ h. absurd (omega (arith, (places (runs setup, k) h).below, past))))

length-orders_to : (setup : Lists) (kept : Kept) (k : ℕ) → ((j : ℕ) → 1 ≤ j → j ≤ k → IsSome (order_at setup kept j)) → length (orders_to setup kept k) ≡ k
unfolding orders_to
length-orders_to setup kept zero h = refl
length-orders_to setup kept (suc k) h =
    length-append (orders_to setup kept k) (option_to_list (order_at setup kept (suc k)))
    ∙ omega (arith, length-orders_to setup kept k (λ j low high. h j low (omega arith)), one_of (order_at setup kept (suc k)) (h (suc k) (omega arith) (omega arith)))
  where
    one_of : (o : Option RunOrder) → IsSome o → length (option_to_list o) ≡ 1
    one_of (Some x) e = refl
    one_of None e = absurd (cc e)

last_by : (setup : Lists) (kept : Kept) (orders : List RunOrder) (n : ℕ) (d : RunOrder) (o : Option RunOrder) → FirstOrders setup kept orders → length orders ≡ n + 1 → order_at setup kept (n + 1) ≡ o → IsSome o → order_at setup kept (n + 1) ≡ Some (get_or orders n d)
last_by setup kept orders n d (Some x) first size at some =
    let before : List RunOrder = orders_to setup kept n in
    let here : length before ≡ n = length-orders_to setup kept n (λ j low high. first.each j low (omega (arith, high, size))) in
    let last : get_or orders n d ≡ x =
    ap (λ (os : List RunOrder). get_or os n d) (first.same ∙ ap (orders_to setup kept) size ∙ orders_to-suc setup kept n x at)
    ∙ ap (λ (k : ℕ). get_or (before ++ x ∷ []) k d) (sym here)
    ∙ get_or-append_seam before x [] d in
    at ∙ ap Some (sym last)
last_by setup kept orders n d None first size at some = absurd (cc (some))

-- the last of the first orders
last_order : (setup : Lists) (kept : Kept) (orders : List RunOrder) (n : ℕ) (d : RunOrder) → FirstOrders setup kept orders → length orders ≡ n + 1 → order_at setup kept (n + 1) ≡ Some (get_or orders n d)
last_order setup kept orders n d first size = last_by setup kept orders n d (order_at setup kept (n + 1)) first size refl (first.each (n + 1) (omega arith) (omega (arith, size)))

-- one order more is read
pub FirstOrders-more : (setup : Lists) (kept : Kept) (orders : List RunOrder) (order : RunOrder) → FirstOrders setup kept orders → order_at setup kept (length orders + 1) ≡ Some order → FirstOrders setup kept (orders ++ order ∷ [])
FirstOrders-more setup kept orders order first at =
    let size : length (orders ++ order ∷ []) ≡ length orders + 1 = length-append orders (order ∷ []) in
    record {
      same = orders_more setup kept orders order first.same at;
      each = λ j low high. each_more setup kept (length orders) order first.each at j low (omega (arith, size, high));
    }

-- the next order covers its own numbers too
cover_next : (setup : Lists) (kept : Kept) (n s : ℕ) (order : RunOrder) → order_at setup kept (n + 1) ≡ Some order → cover setup kept (n + 1) s ≡ max (cover setup kept n s) (slice_index order.covers s)
cover_next setup kept n s order at = ap (λ (os : List RunOrder). cover_of os s) (orders_to-suc setup kept n order at) ∙ cover_of-push (orders_to setup kept n) order s

-- all that an order states is within some counts
abbrev pub IsWithin : RunOrder → List ℕ → Type 0
IsWithin order unbroken = (s : ℕ) → slice_index order.covers s ≤ slice_index unbroken s

one_cover : (order : RunOrder) (s : ℕ) → cover_of (order ∷ []) s ≡ slice_index order.covers s
unfolding cover_of
one_cover order s = omega arith

is_one : (n : ℕ) → IsTrue (nat_eq n 1) → n ≡ 1
is_one n h = grind (arith, nat_tests)

-- of one order alone, the greatest ready run says whether all that it states is there
pub within_one : (order : RunOrder) (unbroken : List ℕ) (n : ℕ) → IsGreatest (IsReadyRun (order ∷ []) unbroken) n → IsTrue (nat_eq n 1) ↔ IsWithin order unbroken
within_one order unbroken n greatest = (
  λ t s.
      let holds : IsReadyRun (order ∷ []) unbroken 1 = subst (IsReadyRun (order ∷ []) unbroken) (is_one n t) greatest.holds in
      omega (arith, holds.mail s, one_cover order s),
  λ within.
      let one : IsReadyRun (order ∷ []) unbroken 1 = record { orders = omega arith; mail = λ s. omega (arith, within s, one_cover order s) } in
      let same : n ≡ 1 = omega (arith, greatest.none_above 1 one, greatest.holds.orders) in
      rw same refl,
)

pub ready_more : (setup : Lists) (kept : Kept) (n : ℕ) (order : RunOrder) → IsReady setup kept n → order_at setup kept (n + 1) ≡ Some order → HasEach kept order.covers → IsReady setup kept (n + 1)
ready_more setup kept n order ready at each = record {
  orders = each_more setup kept n order ready.orders at;
  mail = λ s number low high. ⊎_elim
      (λ (over : cover setup kept n s < number). each s number low (omega (arith, over, high, cover_next setup kept n s order at)))
      (λ (le : number ≤ cover setup kept n s). ready.mail s number low le)
      (cases_lt (cover setup kept n s) number);
}

pub ready_each : (setup : Lists) (kept : Kept) (n : ℕ) (order : RunOrder) → order_at setup kept (n + 1) ≡ Some order → IsReady setup kept (n + 1) → HasEach kept order.covers
ready_each setup kept n order at ready = λ s j low high. ready.mail s j low (omega (arith, high, cover_next setup kept n s order at))

-- behind a ready run the next one is ready where all that its order states is there
pub ready_by : (setup : Lists) (kept : Kept) (n : ℕ) (order : RunOrder) (b : Bool) → IsReady setup kept n → order_at setup kept (n + 1) ≡ Some order → (IsTrue b ↔ HasEach kept order.covers) → IsTrue b ↔ IsReady setup kept (n + 1)
ready_by setup kept n order b ready at there =
    (λ t. ready_more setup kept n order ready at (there.0 t), λ next. there.1 (ready_each setup kept n order at next))

-- what is within the counts is there
within_there : (kept : Kept) (order : RunOrder) (counts : List ℕ) → HasEach kept counts → IsWithin order counts → HasEach kept order.covers
within_there kept order counts each within = λ s j low high. each s j low (omega (arith, high, within s))

-- past the senders nothing is kept
none_past : (setup : Lists) (kept : Kept) (s j : ℕ) → HasPlaces setup kept → length setup.senders ≤ s → IsSome (get kept (s, j)) → ⊥
none_past setup kept s j places past some = omega (arith, past, (places (s, j) some).sender)

reached_within : (setup : Lists) (kept : Kept) (order : RunOrder) (counts : List ℕ) → HasPlaces setup kept → ((s : ℕ) → s < length setup.senders → IsReached kept order.covers counts s) → HasEach kept order.covers → IsWithin order counts
reached_within setup kept order counts places reached each = λ s. ⊎_elim
    (λ (over : slice_index counts s < slice_index order.covers s).
    let some = each s (slice_index counts s + 1) (omega arith) (omega (arith, over)) in
    ⊎_elim
    (λ (lt : s < length setup.senders). absurd (cc (subst IsSome (reached s lt over) some)))
    (λ (le : length setup.senders ≤ s). absurd (none_past setup kept s (slice_index counts s + 1) places le some))
    (cases_lt s (length setup.senders)))
    (λ (le : slice_index order.covers s ≤ slice_index counts s). le)
    (cases_lt (slice_index counts s) (slice_index order.covers s))

-- where each count reaches its cover or stops before a gap, the counts tell whether all is there
pub there_by : (setup : Lists) (kept : Kept) (order : RunOrder) (counts : List ℕ) (b : Bool) → HasPlaces setup kept → HasEach kept counts → ((s : ℕ) → s < length setup.senders → IsReached kept order.covers counts s) → (IsTrue b ↔ IsWithin order counts) → IsTrue b ↔ HasEach kept order.covers
there_by setup kept order counts b places each reached within =
    (λ t. within_there kept order counts each (within.0 t), λ there. within.1 (reached_within setup kept order counts places reached there))

-- there are no more runs than numbers
pub ready_bound : (setup : Lists) (kept : Kept) (n : ℕ) → HasPlaces setup kept → IsReady setup kept n → n ≤ 999_999_999
ready_bound setup kept n places ready = ⊎_elim
    (λ (past : 999_999_999 < n). absurd (cc (subst IsSome (order_at-past setup kept n places past) (ready.orders n (omega arith) (omega arith)))))
    (λ (le : n ≤ 999_999_999). le)
    (cases_lt 999_999_999 n)

-- behind the greatest number no run is ready
pub none_behind : (setup : Lists) (kept : Kept) (n : ℕ) → HasPlaces setup kept → 999_999_999 ≤ n → IsTrue false ↔ IsReady setup kept (n + 1)
none_behind setup kept n places past = (λ t. absurd (cc (t)), λ ready. absurd (omega (arith, past, ready_bound setup kept (n + 1) places ready)))

-- whether a run is ready, by what its order states
pub ready_after : (setup : Lists) (kept : Kept) (n : ℕ) (order : RunOrder) (r : Result Bool StoreFault) → IsReady setup kept n → order_at setup kept (n + 1) ≡ Some order → IfOk r (λ there. IsTrue there ↔ HasEach kept order.covers) → IfOk r (λ ready. IsTrue ready ↔ IsReady setup kept (n + 1))
ready_after setup kept n order r ready at given = IfOk-weaker r _ _ (λ b there. ready_by setup kept n order b ready at there) given

-- the same where the order is the last of those that were read
pub ready_after_last : (setup : Lists) (kept : Kept) (orders : List RunOrder) (n : ℕ) (order : RunOrder) (r : Result Bool StoreFault) → IsReady setup kept n → FirstOrders setup kept orders → length orders ≤ n + 1 → n < length orders → order ≡ get_or orders n order → IfOk r (λ there. IsTrue there ↔ HasEach kept order.covers) → IfOk r (λ ready. IsTrue ready ↔ IsReady setup kept (n + 1))
ready_after_last setup kept orders n order r ready first few more at given =
    let size : length orders ≡ n + 1 = omega (arith, few, more) in
    ready_after setup kept n order r ready (last_order setup kept orders n order first size ∙ ap Some (sym at)) given

-- each run before a ready one is ready
pub IsReady-down : (setup : Lists) (kept : Kept) (n m : ℕ) → m ≤ n → IsReady setup kept n → IsReady setup kept m
IsReady-down setup kept zero m le ready = let none : m ≡ 0 = omega arith in rw none ready
IsReady-down setup kept (suc n) m le ready = ⊎_elim
    (λ (lt : n < m). let all : m ≡ suc n = omega arith in rw all ready)
    (λ (low : m ≤ n). IsReady-down setup kept n m low (IsReady-before setup kept n ready))
    (cases_lt n m)

-- a ready run that none follows is the last
pub ready_count : (setup : Lists) (kept : Kept) (n : ℕ) → IsReady setup kept n → (IsReady setup kept (n + 1) → ⊥) → IsReadyCount setup kept n
ready_count setup kept n ready none = record {
  holds = ready;
  none_above = λ m above. ⊎_elim
      (λ (lt : n < m). absurd (none (IsReady-down setup kept m (n + 1) (omega arith) above)))
      (λ (le : m ≤ n). le)
      (cases_lt n m);
}
