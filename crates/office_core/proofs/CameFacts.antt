-- A settled office has finished a run exactly if all came that the run needs.
use Rattle.std.proofs.Common.{◌≡◌, ℕ, zero, suc, ◌≤◌, ◌↔◌, Bool, true, cond, List, [], ◌∷◌, ◌++◌, length, Option, Some, None, Result, Ok, Err, IsSome, option_and_then, option_to_list, inl, inr, refl, sym, ap, subst, ◌∙◌, arith}
use Rattle.std.specs.FinMap.{get, empty, get-insert, insert}
use Rattle.std.specs.Ordering.{is_eq}
use Rattle.std.specs.Cmp.{tied_itself}
use Rattle.office_mail.specs.Kept.{Kept, Place, kept_from, place_of}
use Rattle.office_mail.specs.Laws.{IsOneOf}
use Rattle.office_mail.specs.Lists.{Lists}
use Rattle.office_mail.specs.Read.{read}
use Rattle.office_mail.specs.Runs.{IsReady, IsReadyCount, cover, cover_of, order_at, order_in, orders_to, runs}
use Rattle.office_mail.specs.declared.message.MailFault.{MailFault}
use Rattle.office_mail.specs.declared.message.Message.{Message}
use Rattle.office_mail.specs.declared.message.RunOrder.{RunOrder}
use Rattle.office_mail.specs.steps.ReadSteps.{placed_as, order_in_answer}
use Rattle.office_mail.proofs.KeptFacts.{places_total, kept_from-append, kept_from-free, kept_from-Within}
use Rattle.office_core_orders.proofs.ReadyCount.{IsReady-down}
use Rattle.office_core.specs.Came.{AllCame, Came, CameBeside}
use Rattle.office_core.specs.History.{Step, Follow, is_settled, texts_in}
use Rattle.office_core.specs.Visible.{Visible, new_office}
use Rattle.office_core.proofs.HistoryFacts.{came_of, follow_kept, settled_all}
use Rattle.office_core.proofs.OfficeFacts.{IsOffice-new, own_texts-kept_from, some_of}
use Rattle.office_core.proofs.OrderTexts.{is_order}

some_same : {A : Type 0} (a b : A) → Some a ≡ Some b → a ≡ b
some_same a b e = cc

then_some : {A B : Type 0} (f : A → Option B) (o : Option A) → IsSome (option_and_then f o) → IsSome o
then_some f (Some x) h = refl
then_some f None h = h

-- ---- a message that came has its place filled

put_here : (kept : Kept) (p : Place) (text : List ℕ) → get (insert kept p text) p ≡ Some text
put_here kept p text = get-insert places_total kept p text p ∙ ap (λ (b : Bool). cond b (Some text) (get kept p)) (ap is_eq (tied_itself places_total p))

one_there : (setup : Lists) (kept : Kept) (text : List ℕ) (m : Message) (found : Option (List ℕ)) → read setup text ≡ Ok m → get kept (place_of m) ≡ found → IsSome (get (kept_from setup kept (text ∷ [])) (place_of m))
one_there setup kept text m (Some stored) e at =
    let some : IsSome (get kept (place_of m)) = some_of (get kept (place_of m)) stored at in
    subst IsSome (sym (kept_from-Within setup kept (text ∷ []) (place_of m) some)) some
one_there setup kept text m None e at =
    subst (λ (k : Kept). IsSome (get k (place_of m))) (sym (kept_from-free setup kept text m e at)) (some_of (get (insert kept (place_of m) text) (place_of m)) text (put_here kept (place_of m) text))

stays : (setup : Lists) (kept : Kept) (xs ys : List (List ℕ)) (p : Place) → IsSome (get (kept_from setup kept xs) p) → IsSome (get (kept_from setup kept (xs ++ ys)) p)
stays setup kept xs ys p some =
    subst (λ (k : Kept). IsSome (get k p)) (kept_from-append setup kept xs ys)
    (subst IsSome (sym (kept_from-Within setup (kept_from setup kept xs) ys p some)) some)

filled : (setup : Lists) (texts : List (List ℕ)) (kept : Kept) (text : List ℕ) (m : Message) → IsOneOf text texts → read setup text ≡ Ok m → IsSome (get (kept_from setup kept texts) (place_of m))
filled setup [] kept text m there e = absurd there
filled setup (t ∷ ts) kept text m (inl same) e =
    let is : read setup t ≡ Ok m = subst (λ (x : List ℕ). read setup x ≡ Ok m) same e in
    stays setup kept (t ∷ []) ts (place_of m) (one_there setup kept t m (get kept (place_of m)) is refl)
filled setup (t ∷ ts) kept text m (inr there) e =
    subst (λ (k : Kept). IsSome (get k (place_of m))) (kept_from-append setup kept (t ∷ []) ts) (filled setup ts (kept_from setup kept (t ∷ [])) text m there e)

came_is_kept : (setup : Lists) (texts : List (List ℕ)) (p : Place) → Came setup texts p → IsSome (get (kept_from setup empty texts) p)
came_is_kept setup texts p came =
    subst (λ (q : Place). IsSome (get (kept_from setup empty texts) q)) came.place (filled setup texts empty came.text came.message came.delivers.there came.delivers.reads)

-- ---- what is kept came, and is a message under its own place

placed_by : (text : List ℕ) (p : Place) (r : Result Message MailFault) → placed_as text r ≡ Some (p, text) → (m : Message) × (r ≡ Ok m) × (place_of m ≡ p)
placed_by text p (Ok m) e = (m, refl, ap (λ (x : Place × List ℕ). x.0) (some_same (place_of m, text) (p, text) e))
placed_by text p (Err fault) e = absurd (cc (e))

came_at : (setup : Lists) (texts : List (List ℕ)) (p : Place) (text : List ℕ) → get (kept_from setup empty texts) p ≡ Some text → (came : Came setup texts p) × (came.text ≡ text)
came_at setup texts p text at =
    let is = placed_by text p (read setup text) (own_texts-kept_from setup empty texts (IsOffice-new setup).texts p text at) in
    (record { text = text; message = is.0; delivers = record { there = came_of setup texts p text at; reads = is.1 }; place = is.2 }, refl)

kept_came : (setup : Lists) (texts : List (List ℕ)) (p : Place) (o : Option (List ℕ)) → get (kept_from setup empty texts) p ≡ o → IsSome o → Came setup texts p
kept_came setup texts p (Some text) at h = (came_at setup texts p text at).0
kept_came setup texts p None at h = absurd (cc (h))

-- ---- each message of the sender of runs is an order

answer_order : (setup : Lists) (text : List ℕ) (m : Message) → read setup text ≡ Ok m → m.sender ≡ runs setup → IsSome (order_in setup text)
answer_order setup text m e own = subst (λ (r : Result Message MailFault). IsSome (order_in_answer r)) (sym e) (is_order setup text m e own)

order_there : (setup : Lists) (texts : List (List ℕ)) (j : ℕ) (o : Option (List ℕ)) → get (kept_from setup empty texts) (runs setup, j) ≡ o → IsSome o → IsSome (option_and_then (order_in setup) o)
order_there setup texts j (Some text) at h =
    let came = came_at setup texts (runs setup, j) text at in
    let reads : read setup text ≡ Ok came.0.message = subst (λ (x : List ℕ). read setup x ≡ Ok came.0.message) came.1 came.0.delivers.reads in
    answer_order setup text came.0.message reads (ap (λ (p : Place). p.0) came.0.place)
order_there setup texts j None at h = absurd (cc (h))

order_came : (setup : Lists) (texts : List (List ℕ)) (j : ℕ) → Came setup texts (runs setup, j) → IsSome (order_at setup (kept_from setup empty texts) j)
unfolding order_at
order_came setup texts j came = order_there setup texts j (get (kept_from setup empty texts) (runs setup, j)) refl (came_is_kept setup texts (runs setup, j) came)

came_order : (setup : Lists) (texts : List (List ℕ)) (j : ℕ) → IsSome (order_at setup (kept_from setup empty texts) j) → Came setup texts (runs setup, j)
unfolding order_at
came_order setup texts j some =
    kept_came setup texts (runs setup, j) (get (kept_from setup empty texts) (runs setup, j)) refl (then_some (order_in setup) (get (kept_from setup empty texts) (runs setup, j)) some)

-- ---- a run is ready exactly if all came that it needs

ready_by : (setup : Lists) (texts : List (List ℕ)) (k : ℕ) → AllCame setup texts k → IsReady setup (kept_from setup empty texts) k
ready_by setup texts k all = record {
  orders = λ j low high. order_came setup texts j (all.orders j low high);
  mail = λ s n low high. came_is_kept setup texts (s, n) (all.mail s n low high);
}

all_came : (setup : Lists) (texts : List (List ℕ)) (k : ℕ) → IsReady setup (kept_from setup empty texts) k → AllCame setup texts k
all_came setup texts k ready = record {
  orders = λ j low high. came_order setup texts j (ready.orders j low high);
  mail = λ s n low high. kept_came setup texts (s, n) (get (kept_from setup empty texts) (s, n)) refl (ready.mail s n low high);
}

pub finished_by : (setup : Lists) (steps : List Step) (office : Visible) (k : ℕ) → Follow setup new_office steps office → is_settled steps ≡ true → AllCame setup (texts_in steps) k ↔ (k ≤ length office.reports)
finished_by setup steps office k leads settled =
    let kept : office.kept ≡ kept_from setup empty (texts_in steps) = follow_kept setup steps new_office office leads in
    let count : IsReadyCount setup (kept_from setup empty (texts_in steps)) (length office.reports) = subst (λ (m : Kept). IsReadyCount setup m (length office.reports)) kept (settled_all setup steps office leads settled) in (
      λ all. count.none_above k (ready_by setup (texts_in steps) k all),
      λ low. all_came setup (texts_in steps) k (IsReady-down setup (kept_from setup empty (texts_in steps)) (length office.reports) k low count.holds),
    )

-- ---- what came beside

among : (setup : Lists) (sent texts : List (List ℕ)) (k : ℕ) (p : Place) → CameBeside setup sent texts k → Came setup sent p → Came setup texts p
among setup sent texts k p beside came = record {
  text = came.text;
  message = came.message;
  delivers = record { there = beside.each came.text came.message came.delivers; reads = came.delivers.reads };
  place = came.place;
}

-- an order has one text, which is kept in both
both_some : {A : Type 0} (o p : Option A) → IsSome o → IsSome p → ((x y : A) → o ≡ Some x → p ≡ Some y → x ≡ y) → o ≡ p
both_some (Some x) (Some y) h l same = ap Some (same x y refl refl)
both_some (Some x) None h l same = absurd (cc (l))
both_some None p h l same = absurd (cc (h))

same_order : (setup : Lists) (sent texts : List (List ℕ)) (k j : ℕ) → CameBeside setup sent texts k → j ≤ k → Came setup sent (runs setup, j) → get (kept_from setup empty texts) (runs setup, j) ≡ get (kept_from setup empty sent) (runs setup, j)
same_order setup sent texts k j beside high came =
    let p : Place = (runs setup, j) in
    both_some (get (kept_from setup empty texts) p) (get (kept_from setup empty sent) p)
    (came_is_kept setup texts p (among setup sent texts k p beside came)) (came_is_kept setup sent p came)
    (λ u t at_u at_t.
    let of_t = came_at setup sent p t at_t in
    let of_u = came_at setup texts p u at_u in
    let number : of_t.0.message.number ≡ j = ap (λ (q : Place). q.1) of_t.0.place in
    sym (sym of_t.1 ∙ beside.orders of_t.0.text of_u.0.text of_t.0.message of_u.0.message of_t.0.delivers of_u.0.delivers (of_t.0.place ∙ sym of_u.0.place) (ap (λ (q : Place). q.0) of_t.0.place) (omega (arith, number, high)) ∙ of_u.1))

order_same : (setup : Lists) (a b : Kept) (j : ℕ) → get a (runs setup, j) ≡ get b (runs setup, j) → order_at setup a j ≡ order_at setup b j
unfolding order_at
order_same setup a b j e = ap (option_and_then (order_in setup)) e

orders_same : (setup : Lists) (a b : Kept) (k : ℕ) → ((j : ℕ) → 1 ≤ j → j ≤ k → order_at setup a j ≡ order_at setup b j) → orders_to setup a k ≡ orders_to setup b k
unfolding orders_to
orders_same setup a b zero each = refl
orders_same setup a b (suc k) each =
    ap (λ (os : List RunOrder). os ++ option_to_list (order_at setup a (suc k))) (orders_same setup a b k (λ j low high. each j low (omega (arith, high))))
    ∙ ap (λ (o : Option RunOrder). orders_to setup b k ++ option_to_list o) (each (suc k) (omega arith) (omega arith))

beside_all : (setup : Lists) (sent texts : List (List ℕ)) (k : ℕ) → CameBeside setup sent texts k → AllCame setup sent k → AllCame setup texts k
beside_all setup sent texts k beside all =
    let same : orders_to setup (kept_from setup empty texts) k ≡ orders_to setup (kept_from setup empty sent) k =
    orders_same setup (kept_from setup empty texts) (kept_from setup empty sent) k (λ j low high. order_same setup (kept_from setup empty texts) (kept_from setup empty sent) j (same_order setup sent texts k j beside high (all.orders j low high))) in
    record {
      orders = λ j low high. among setup sent texts k (runs setup, j) beside (all.orders j low high);
      mail = λ s n low high.
          let cover_is : cover setup (kept_from setup empty texts) k s ≡ cover setup (kept_from setup empty sent) k s = ap (λ (os : List RunOrder). cover_of os s) same in
          among setup sent texts k (s, n) beside (all.mail s n low (omega (arith, cover_is, high)));
    }

pub finished_beside : (setup : Lists) (sent : List (List ℕ)) (steps : List Step) (office : Visible) (k : ℕ) → Follow setup new_office steps office → is_settled steps ≡ true → AllCame setup sent k → CameBeside setup sent (texts_in steps) k → k ≤ length office.reports
finished_beside setup sent steps office k leads settled all beside = (finished_by setup steps office k leads settled).0 (beside_all setup sent (texts_in steps) k beside all)
