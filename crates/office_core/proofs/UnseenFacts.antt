-- Mail of one sender that a run doesn't cover changes nothing of it.
use Rattle.std.proofs.Common.{◌≡◌, ◌≢◌, ◌⊎◌, ⊎_elim, inl, inr, ℕ, zero, suc, ◌<◌, ◌≤◌, ◌↔◌, Bool, true, false, cond, ◌&&◌, nat_le, List, ◌∷◌, [], ◌++◌, filter_map, Option, None, IsSome, option_and_then, option_to_list, refl, sym, ap, subst, ◌∙◌, arith}
use Rattle.std.specs.FinMap.{get, entries, get-retain_keys}
use Rattle.std.proofs.lemmas.Bool.{cases_lt, leb-true}
use Rattle.testing_rules_model.specs.Covered.{Covered}
use Rattle.office_mail.specs.Kept.{Kept, Place}
use Rattle.office_mail.specs.Lists.{Lists}
use Rattle.office_mail.specs.Runs.{IsReady, cover, cover_of, covered, is_covered, latest_day, order_at, order_in, orders_to, runs}
use Rattle.office_mail.specs.declared.message.RunOrder.{RunOrder}
use Rattle.office_mail.proofs.KeptFacts.{exact_places, same_kept}
use Rattle.office_mail.proofs.RunFacts.{cover-suc}
use Rattle.office_store_keeper.specs.declared.values.Reports.{Reports}
use Rattle.office_core_facts.specs.Outcome.{Outcome, covered_items, item_at, outcome_of, outcome_on, reports_from, reports_of, reports_to}
use Rattle.office_core.specs.OneSender.{ButOf, IsUnseen}

pub same_or_not : (m n : ℕ) → (m ≡ n) ⊎ (m ≢ n)
same_or_not m n = ⊎_elim
    (λ (lt : m < n). inr (λ (e : m ≡ n). omega (arith, lt, e)))
    (λ (le : n ≤ m). ⊎_elim
    (λ (gt : n < m). inr (λ (e : m ≡ n). omega (arith, gt, e)))
    (λ (ge : m ≤ n). inl (omega (arith, le, ge)))
    (cases_lt n m))
    (cases_lt m n)

-- ---- the orders are the same, and so are the covers

order_same : (setup : Lists) (s : ℕ) (a b : Kept) (j : ℕ) → ButOf s a b → s ≢ runs setup → order_at setup a j ≡ order_at setup b j
unfolding order_at
order_same setup s a b j alone other = ap (option_and_then (order_in setup)) (alone (runs setup, j) (λ (e : runs setup ≡ s). other (sym e)))

orders_same : (setup : Lists) (s : ℕ) (a b : Kept) (k : ℕ) → ButOf s a b → s ≢ runs setup → orders_to setup a k ≡ orders_to setup b k
unfolding orders_to
orders_same setup s a b zero alone other = refl
orders_same setup s a b (suc k) alone other =
    ap (λ (os : List RunOrder). os ++ option_to_list (order_at setup a (suc k))) (orders_same setup s a b k alone other)
    ∙ ap (λ (o : Option RunOrder). orders_to setup b k ++ option_to_list o) (order_same setup s a b (suc k) alone other)

pub cover_same : (setup : Lists) (s : ℕ) (a b : Kept) (k q : ℕ) → ButOf s a b → s ≢ runs setup → cover setup a k q ≡ cover setup b k q
cover_same setup s a b k q alone other = ap (λ (os : List RunOrder). cover_of os q) (orders_same setup s a b k alone other)

-- ---- so is the covered mail

seen_same : (setup : Lists) (s k : ℕ) (a b : Kept) (q : Place) → IsUnseen setup s k a b → 1 ≤ q.1 → q.1 ≤ cover setup a k q.0 → get a q ≡ get b q
seen_same setup s k a b q u low high = ⊎_elim
    (λ (is : q.0 ≡ s). subst (λ (x : ℕ). q.1 ≤ cover setup a k x → get a (x, q.1) ≡ get b (x, q.1)) (sym is) (u.beyond q.1 low) high)
    (λ (no : q.0 ≢ s). u.alone q no)
    (same_or_not q.0 s)

both_true : (x y : Bool) → x && y ≡ true → (x ≡ true) × (y ≡ true)
both_true true true e = (refl, refl)
both_true true false e = absurd (cc (e))
both_true false y e = absurd (cc (e))

chosen_same : (c : Bool) (o p : Option (List ℕ)) → (c ≡ true → o ≡ p) → cond c o None ≡ cond c p None
chosen_same true o p h = h refl
chosen_same false o p h = refl

covered_same : (setup : Lists) (s k : ℕ) (a b : Kept) → IsUnseen setup s k a b → covered setup a k ≡ covered setup b k
unfolding covered
covered_same setup s k a b u = same_kept _ _ (λ q.
    let same : is_covered (cover setup a k) q ≡ is_covered (cover setup b k) q = ap (λ (c : ℕ). nat_le 1 q.1 && nat_le q.1 c) (cover_same setup s a b k q.0 u.alone u.other) in
    get-retain_keys a (is_covered (cover setup a k)) q (λ x e. ap (is_covered (cover setup a k)) (sym (exact_places q x e)))
    ∙ chosen_same (is_covered (cover setup a k) q) (get a q) (get b q) (λ t.
    let within = both_true (nat_le 1 q.1) (nat_le q.1 (cover setup a k q.0)) t in
    seen_same setup s k a b q u (leb-true 1 q.1 within.0) (leb-true q.1 (cover setup a k q.0) within.1))
    ∙ ap (λ (c : Bool). cond c (get b q) None) same
    ∙ sym (get-retain_keys b (is_covered (cover setup b k)) q (λ x e. ap (is_covered (cover setup b k)) (sym (exact_places q x e)))))

items_same : (setup : Lists) (s k : ℕ) (a b : Kept) → IsUnseen setup s k a b → covered_items setup a k ≡ covered_items setup b k
unfolding covered_items
items_same setup s k a b u = ap (λ (m : Kept). filter_map (item_at setup) (entries m)) (covered_same setup s k a b u)

-- ---- and what the runs up to it decide

unseen_down : (setup : Lists) (s k : ℕ) (a b : Kept) → IsUnseen setup s (suc k) a b → IsUnseen setup s k a b
unseen_down setup s k a b u = record {
  alone = u.alone;
  other = u.other;
  beyond = λ n low high. u.beyond n low (omega (arith, high, cover-suc setup a k s));
}

pub outcome_same : (setup : Lists) (s k : ℕ) (a b : Kept) → IsUnseen setup s k a b → outcome_of setup a k ≡ outcome_of setup b k
unfolding outcome_of
outcome_same setup s zero a b u = refl
outcome_same setup s (suc k) a b u =
    ap (λ (os : List RunOrder). outcome_on setup (suc k) (latest_day os) (covered_items setup a (suc k)) (outcome_of setup a k).testing) (orders_same setup s a b (suc k) u.alone u.other)
    ∙ ap (λ (mail : Covered). outcome_on setup (suc k) (latest_day (orders_to setup b (suc k))) mail (outcome_of setup a k).testing) (items_same setup s (suc k) a b u)
    ∙ ap (λ (o : Outcome). outcome_on setup (suc k) (latest_day (orders_to setup b (suc k))) (covered_items setup b (suc k)) o.testing) (outcome_same setup s k a b (unseen_down setup s k a b u))

pub reports_same : (setup : Lists) (s k : ℕ) (a b : Kept) → IsUnseen setup s k a b → reports_to setup a k ≡ reports_to setup b k
unfolding reports_to
reports_same setup s zero a b u = refl
reports_same setup s (suc k) a b u =
    ap (λ (rs : List Reports). rs ++ reports_of setup a (suc k) ∷ []) (reports_same setup s k a b (unseen_down setup s k a b u))
    ∙ ap (λ (o : Outcome). reports_to setup b k ++ reports_from o ∷ []) (outcome_same setup s (suc k) a b u)

-- ---- and whether it is ready

unseen_back : (setup : Lists) (s k : ℕ) (a b : Kept) → IsUnseen setup s k a b → IsUnseen setup s k b a
unseen_back setup s k a b u = record {
  alone = λ p no. sym (u.alone p no);
  other = u.other;
  beyond = λ n low high. sym (u.beyond n low (omega (arith, high, cover_same setup s a b k s u.alone u.other)));
}

ready_to : (setup : Lists) (s k : ℕ) (a b : Kept) → IsUnseen setup s k a b → IsReady setup a k → IsReady setup b k
ready_to setup s k a b u ready = record {
  orders = λ j low high. subst IsSome (order_same setup s a b j u.alone u.other) (ready.orders j low high);
  mail = λ q n low high.
      let within : n ≤ cover setup a k q = omega (arith, high, cover_same setup s a b k q u.alone u.other) in
      subst IsSome (seen_same setup s k a b (q, n) u low within) (ready.mail q n low within);
}

pub ready_same : (setup : Lists) (s k : ℕ) (a b : Kept) → IsUnseen setup s k a b → IsReady setup a k ↔ IsReady setup b k
ready_same setup s k a b u = (ready_to setup s k a b u, ready_to setup s k b a (unseen_back setup s k a b u))
