-- What is known of the finished runs.
use Rattle.std.proofs.Common.{◌≡◌, ⊎_elim, ℕ, ◌+◌, ◌<◌, ◌≤◌, List, [], length, slice_index, Option, Some, None, Result, Ok, Err, IfOk, IfSome, IsSome, sym, ap, subst, ◌∙◌, arith}
use Rattle.std.proofs.lemmas.Bool.{cases_lt}
use Rattle.testing_rules_model.specs.declared.fact_row.FactRow.{FactRow}
use Rattle.testing_rules_model.specs.FactLists.{FactLists, no_facts}
use Rattle.testing_rules_model.specs.FactRows.{rows_of}
use Rattle.testing_rules_facts.specs.Uploads.{AreByMessage}
use Rattle.office_mail.specs.declared.message.RunOrder.{RunOrder}
use Rattle.office_mail.specs.Lists.{Lists}
use Rattle.office_mail.specs.Kept.{Kept}
use Rattle.office_mail.specs.Runs.{cover_of, order_at, orders_to}
use Rattle.office_store_keeper.specs.Content.{Content}
use Rattle.office_store_keeper.specs.FactSet.{rows_in}
use Rattle.office_core_store.specs.declared.faults.StoreFault.{StoreFault}
use Rattle.office_core_orders.proofs.ReadyCount.{orders_to-zero}
use Rattle.office_core_orders.specs.Ready.{HasEach}
use Rattle.office_core_orders.specs.steps.Ready.{FirstOrders}
use Rattle.office_core_facts.specs.declared.covered.KnownFacts.{KnownFacts}
use Rattle.office_core_facts.specs.Known.{AreKnown, said_all}
use Rattle.office_core_facts.specs.State.{IsOffice}
use Rattle.office_core_facts.specs.steps.Taking.{HavePutBack}
use Rattle.office_core_facts.proofs.RestoringFacts.{back_logs, known_whole}

some_or_none : {A : Type 0} {P : Type 0} (o : Option A) → IsSome o → o ≡ None → P
some_or_none o some none = absurd (cc (subst IsSome none some))

pub first_none : (setup : Lists) (kept : Kept) → FirstOrders setup kept []
first_none setup kept = record { same = sym (orders_to-zero setup kept); each = λ j low high. absurd (omega (arith, low, high)) }

-- of an office all orders up to that of the last finished run are kept
pub orders_all : (setup : Lists) (content : Content) (orders : List RunOrder) (run : ℕ) → IsOffice setup content → run ≡ length content.reports → length orders ≤ run
    → (length orders < run → order_at setup content.kept (length orders + 1) ≡ None) → length orders ≡ length content.reports
orders_all setup content orders run office is low none = ⊎_elim
    (λ (lt : length orders < run). some_or_none (order_at setup content.kept (length orders + 1)) (office.ready.orders (length orders + 1) (omega arith) (omega (arith, lt, is))) (none lt))
    (λ (le : run ≤ length orders). omega (arith, le, low, is))
    (cases_lt (length orders) run)

-- the first orders up to that of the last finished run
pub orders_whole : (setup : Lists) (content : Content) (orders : List RunOrder) (run : ℕ) → IsOffice setup content → run ≡ length content.reports → FirstOrders setup content.kept orders → length orders ≤ run
    → (length orders < run → order_at setup content.kept (length orders + 1) ≡ None) → orders ≡ orders_to setup content.kept (length content.reports)
orders_whole setup content orders run office is first low none = first.same ∙ ap (orders_to setup content.kept) (orders_all setup content orders run office is low none)

-- facts that were put back whole are known, where each number is kept that the finished runs cover
pub known_are : (setup : Lists) (content : Content) (orders : List RunOrder) (rows : List FactRow) (f : FactLists) (known : KnownFacts) → known.facts ≡ f → AreByMessage known.facts.uploads → length (rows_of f) ≡ length rows → rows ≡ rows_in content.facts
    → HavePutBack (said_all setup content.kept) rows no_facts f → FirstOrders setup content.kept orders → length orders ≡ length content.reports
    → ((s : ℕ) → s < length setup.senders → slice_index known.taken.items s ≡ cover_of orders s) → HasEach content.kept known.taken.items → AreKnown setup content known
known_are setup content orders rows f known same by size are back first all taken numbers =
    let whole = known_whole setup content rows f known.facts same by size are back in
    let logs = back_logs (said_all setup content.kept) rows f back in
    let is : orders ≡ orders_to setup content.kept (length content.reports) = first.same ∙ ap (orders_to setup content.kept) all in
    record {
      numbers = numbers;
      orders = λ j low high. first.each j low (omega (arith, high, all));
      covers = λ s low. taken s low ∙ ap (λ (os : List RunOrder). cover_of os s) is;
      facts = whole.way;
      came = ap (λ (g : FactLists). g.came) same ∙ logs.0;
      left = ap (λ (g : FactLists). g.left) same ∙ logs.1;
    }

pub if_known_are : (setup : Lists) (content : Content) (known : KnownFacts) (r : Result (Option KnownFacts) StoreFault) → IfOk r (λ found. IfSome found (λ (left : KnownFacts). left ≡ known)) → IfOk r (λ found. IfSome found (λ (left : KnownFacts). HasEach content.kept left.taken.items))
    → (HasEach content.kept known.taken.items → AreKnown setup content known) → IfOk r (λ found. IfSome found (λ (left : KnownFacts). AreKnown setup content left))
if_known_are setup content known (Ok None) same each so = tt
if_known_are setup content known (Ok (Some left)) same each so = subst (AreKnown setup content) (sym same) (so (subst (λ (k : KnownFacts). HasEach content.kept k.taken.items) same each))
if_known_are setup content known (Err fault) same each so = tt

-- what is known after three calls that only ask: for the count of the finished runs, for their orders, and for their mail
pub known_after : (setup : Lists) (content one two three : Content) (count : ℕ) (orders given : List RunOrder) (old new : Option KnownFacts) → one ≡ content → two ≡ one → three ≡ two → given ≡ orders
    → count ≡ length content.reports → FirstOrders setup one.kept orders → IfSome old (λ (k : KnownFacts). AreKnown setup content k)
    → (FirstOrders setup two.kept given → count ≡ length two.reports → IfSome old (λ (k : KnownFacts). AreKnown setup two k) → IfSome new (λ (k : KnownFacts). AreKnown setup two k))
    → IfSome new (λ (k : KnownFacts). AreKnown setup three k)
known_after setup content one two three count orders given old new a b c lent is first was next =
    let there : FirstOrders setup content.kept given = subst (FirstOrders setup content.kept) (sym lent) (subst (λ (m : Content). FirstOrders setup m.kept orders) a first) in
    subst (λ (m : Content). IfSome new (λ (k : KnownFacts). AreKnown setup m k)) (sym (c ∙ b ∙ a))
    (subst (λ (m : Content). FirstOrders setup m.kept given → count ≡ length m.reports → IfSome old (λ (k : KnownFacts). AreKnown setup m k) → IfSome new (λ (k : KnownFacts). AreKnown setup m k)) (b ∙ a) next there is was)
