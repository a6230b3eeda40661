-- Facts that have the kept rows stand for the covered mail of the finished runs.
use Rattle.std.proofs.Common.{◌≡◌, ⊎_elim, inl, inr, ℕ, zero, suc, ◌+◌, ◌-◌, ◌<◌, ◌≤◌, Bool, true, false, cond, List, [], ◌∷◌, ◌++◌, length, take, drop, max, slice_index, Option, Some, None, option_to_list, sym, ap, subst, ◌∙◌, refl, arith}
use Rattle.std.specs.Prelude.{Contains}
use Rattle.std.proofs.lemmas.Bool.{cases_lt}
use Rattle.std.proofs.lemmas.Bool.Decides.{nat_tests}
use Rattle.std.proofs.lemmas.List.{get_or_append_left, get_or_push, length-append, length_push, take-append-drop, take_at}
use Rattle.std.proofs.lemmas.List.Sums.{sum_by-cons}
use Rattle.testing_rules_items.proofs.Members.{none_among, tail_of}
use Rattle.testing_rules_model.proofs.Sets.{first_or_rest, at_front}
use Rattle.testing_rules_model.proofs.SameFacts.{stands-same}
use Rattle.testing_rules_model.specs.declared.fact_row.FactRow.{FactRow}
use Rattle.testing_rules_model.specs.FactRows.{rows_of, is_row, times}
use Rattle.testing_rules_model.specs.Tells.{Tells}
use Rattle.testing_rules_model.specs.Covered.{Covered, CoveredItem}
use Rattle.testing_rules_model.specs.FactLists.{FactLists}
use Rattle.testing_rules_model.specs.SameMessages.{SameElements, HasOneOfEach}
use Rattle.testing_rules_model.specs.StandsFor.{StandsFor}
use Rattle.testing_rules_laws.proofs.Restoring.{same_stand}
use Rattle.testing_rules_laws.proofs.Said.{more_tell, stand_tell}
use Rattle.testing_rules_laws.proofs.Telling.{same_facts}
use Rattle.office_mail.specs.declared.message.RunOrder.{RunOrder}
use Rattle.office_mail.specs.Kept.{Kept}
use Rattle.office_mail.specs.Lists.{Lists}
use Rattle.office_mail.specs.Runs.{cover, cover_of, order_at, orders_to}
use Rattle.office_store_keeper.specs.Content.{Content}
use Rattle.office_store_keeper.proofs.FactSets.{row_same}
use Rattle.office_store_keeper.specs.FactSet.{count_in}
use Rattle.office_core_facts.specs.declared.covered.KnownFacts.{KnownFacts}
use Rattle.office_core_facts.specs.Known.{AreKnown, said_all}
use Rattle.office_core_facts.specs.Outcome.{covered_items}
use Rattle.office_core_orders.specs.steps.Ready.{FirstOrders}
use Rattle.office_core_facts.specs.State.{IsOffice}
use Rattle.office_core_facts.specs.steps.Walk.{said_within}
use Rattle.office_core_facts.proofs.SaidFacts.{one_of_all, said_at_place}
use Rattle.office_core_facts.proofs.TakenFacts.{said_within-same}
use Rattle.office_core_facts.proofs.WalkFacts.{of_text, one_of_each, same_messages, within_place}

-- what is said up to some numbers is said in the kept mail
pub said_among : (setup : Lists) (kept : Kept) (covers : ℕ → ℕ) (n : ℕ) (m : CoveredItem) → Contains (said_within setup kept covers n) m → Contains (said_all setup kept) m
said_among setup kept covers n m c =
    let p = within_place setup kept covers n m c in
    let text = of_text setup p.0 _ m p.1.is in
    said_at_place setup kept p.0 text.0 m text.1 text.2

-- rows that stand as often

counts_first : (b : Bool) (r x : FactRow) (xs : List FactRow) → is_row r x ≡ b → 1 ≤ cond b 1 0 + times r xs → (1 ≤ times r xs → Contains xs r) → Contains (x ∷ xs) r
counts_first true r x xs e h rest = at_front x r xs (row_same r x e)
counts_first false r x xs e h rest = tail_of x xs r (rest (omega (arith, h)))

counted_among : (r : FactRow) (xs : List FactRow) → 1 ≤ times r xs → Contains xs r
counted_among r [] h = absurd (omega (arith, h))
counted_among r (x ∷ xs) h = counts_first (is_row r x) r x xs refl (subst (λ n. 1 ≤ n) (sum_by-cons (λ y. cond (is_row r y) 1 0) x xs) h) (counted_among r xs)

row_itself : (r : FactRow) → is_row r r ≡ true
row_itself r = grind (arith, nat_tests)

among_counted : (r : FactRow) (xs : List FactRow) → Contains xs r → 1 ≤ times r xs
among_counted r [] c = none_among r c
among_counted r (x ∷ xs) c =
    let sum = sum_by-cons (λ y. cond (is_row r y) 1 0) x xs in
    elim (first_or_rest x xs r c) [
      | inl e ↦ let one : ◌≡◌ {A = ℕ} (cond (is_row r x) 1 0) 1 = ap (λ y. cond (is_row r y) 1 0) e ∙ ap (λ b. cond b 1 0) (row_itself r) in omega (arith, sum, one)
      | inr among ↦ let rest = among_counted r xs among in omega (arith, sum, rest)
    ]

same_rows : (xs ys : List FactRow) → ((r : FactRow) → times r xs ≡ times r ys) → SameElements xs ys
same_rows xs ys same = (
  λ r c. counted_among r ys (subst (λ n. 1 ≤ n) (same r) (among_counted r xs c)),
  λ r c. counted_among r xs (subst (λ n. 1 ≤ n) (sym (same r)) (among_counted r ys c)),
)

-- Facts that kept mail says, whose rows are the kept ones, stand where the kept rows are those of facts that stand.
pub rows_stand : (setup : Lists) (content : Content) (f : FactLists) (covers : ℕ → ℕ) → IsOffice setup content → Tells f (said_all setup content.kept) → ((r : FactRow) → times r (rows_of f) ≡ count_in content.facts r)
    → ((s : ℕ) → s < length setup.senders → covers s ≡ cover setup content.kept (length content.reports) s) → StandsFor f (said_within setup content.kept covers (length setup.senders)) content.testing
rows_stand setup content f covers office tells rows same =
    let kept = content.kept in
    let k = length content.reports in
    let n = length setup.senders in
    let t = content.testing in
    let g = office.facts.facts in
    let small : Covered = covered_items setup kept k in
    let walked : Covered = said_within setup kept (cover setup kept k) n in
    let messages = same_messages setup kept k office.places in
    let g_tells : Tells g (said_all setup kept) = more_tell small (said_all setup kept) (λ m c. said_among setup kept (cover setup kept k) n m (messages.1 m c)) g (stand_tell g small t office.facts.kept.stand) in
    let is = same_facts (said_all setup kept) (one_of_all setup kept) g f g_tells.said tells.said g_tells.orderly tells.orderly
    (same_rows (rows_of g) (rows_of f) (λ r. office.facts.rows r ∙ sym (rows r))) in
    let stand : StandsFor f small t = same_stand g f small t is office.facts.kept.stand in
    let one : HasOneOfEach small = λ m o cm co. one_of_each setup kept (cover setup kept k) n m o (messages.1 m cm) (messages.1 o co) in
    subst (λ (l : Covered). StandsFor f l t) (sym (said_within-same setup kept covers (cover setup kept k) n same))
    (stands-same small walked (messages.1, messages.0) one f t stand)

-- what is known stands
pub known_stand : (setup : Lists) (content : Content) (known : KnownFacts) → IsOffice setup content → AreKnown setup content known → StandsFor known.facts (said_within setup content.kept (slice_index known.taken.items) (length setup.senders)) content.testing
known_stand setup content known office are =
    rows_stand setup content known.facts (slice_index known.taken.items) office are.facts.tells
    (λ r.
    let a : times r known.facts.came ≡ 0 = ap (times r) are.came in
    let b : times r known.facts.left ≡ 0 = ap (times r) are.left in
    let c = are.facts.rows r in
    omega (arith, a, b, c))
    are.covers

-- the orders of the finished runs

-- fewer orders cover no more
cover_of-append : (xs ys : List RunOrder) (s : ℕ) → cover_of (xs ++ ys) s ≡ max (cover_of xs s) (cover_of ys s)
unfolding cover_of
cover_of-append [] ys s = let none : cover_of [] s ≡ 0 = refl in omega (arith, none)
cover_of-append (x ∷ xs) ys s =
    let all : cover_of (x ∷ xs ++ ys) s ≡ max (slice_index x.covers s) (cover_of (xs ++ ys) s) = refl in
    let front : cover_of (x ∷ xs) s ≡ max (slice_index x.covers s) (cover_of xs s) = refl in
    let rest = cover_of-append xs ys s in
    omega (arith, all, front, rest)

pub cover_of-take : (k : ℕ) (orders : List RunOrder) (s : ℕ) → cover_of (take k orders) s ≤ cover_of orders s
cover_of-take k orders s =
    let both = ap (λ (os : List RunOrder). cover_of os s) (sym (take-append-drop k orders)) ∙ cover_of-append (take k orders) (drop k orders) s in
    omega (arith, both)

at_most_one : (o : Option RunOrder) → length (option_to_list o) ≤ 1
at_most_one None = omega arith
at_most_one (Some x) = omega arith

orders_at_most : (setup : Lists) (kept : Kept) (k : ℕ) → length (orders_to setup kept k) ≤ k
unfolding orders_to
orders_at_most setup kept zero = omega arith
orders_at_most setup kept (suc k) =
    let rest = orders_at_most setup kept k in
    let last = at_most_one (order_at setup kept (suc k)) in
    let sum = length-append (orders_to setup kept k) (option_to_list (order_at setup kept (suc k))) in
    omega (arith, rest, last, sum)

orders_before : (setup : Lists) (kept : Kept) (k : ℕ) → length (orders_to setup kept (suc k)) ≡ suc k → take k (orders_to setup kept (suc k)) ≡ orders_to setup kept k
unfolding orders_to
orders_before setup kept k all =
    let rest = orders_at_most setup kept k in
    let last = at_most_one (order_at setup kept (suc k)) in
    let sum = length-append (orders_to setup kept k) (option_to_list (order_at setup kept (suc k))) in
    take_at (orders_to setup kept k) (option_to_list (order_at setup kept (suc k))) k (omega (arith, rest, last, sum, all))

-- all but the last of the orders of the next run are those of the finished ones
pub finished_orders : (setup : Lists) (kept : Kept) (orders : List RunOrder) (k : ℕ) → FirstOrders setup kept orders → length orders ≡ k + 1 → take (length orders - 1) orders ≡ orders_to setup kept k
finished_orders setup kept orders k first size =
    let more : length orders ≡ suc k = omega (arith, size) in
    let less : length orders - 1 ≡ k = omega (arith, size) in
    let are : orders ≡ orders_to setup kept (suc k) = first.same ∙ ap (orders_to setup kept) more in
    ap (λ i. take i orders) less ∙ ap (take k) are ∙ orders_before setup kept k (ap length (sym are) ∙ more)

-- covers of one sender more
pub pushed_covers : (taken more : List ℕ) (cover n : ℕ) (covers : ℕ → ℕ) → length taken ≡ n → ((s : ℕ) → s < n → slice_index taken s ≡ covers s) → more ≡ taken ++ cover ∷ [] → cover ≡ covers n
    → (length more ≡ n + 1) × ((s : ℕ) → s < n + 1 → slice_index more s ≡ covers s)
pushed_covers taken more cover n covers size same are is = (
  ap length are ∙ length_push taken cover ∙ ap (λ k. k + 1) size,
  λ s low. ⊎_elim
      (λ (lt : s < n). ap (λ (l : List ℕ). slice_index l s) are ∙ get_or_append_left taken (cover ∷ []) 0 s (omega (arith, lt, size)) ∙ same s lt)
      (λ (le : n ≤ s).
      let at : s ≡ n = omega (arith, le, low) in
      ap (λ (l : List ℕ). slice_index l s) are ∙ get_or_push taken cover 0 s (size ∙ sym at) ∙ is ∙ ap covers (sym at))
      (cases_lt s n),
)
