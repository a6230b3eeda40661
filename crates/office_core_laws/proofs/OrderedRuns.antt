-- The next order, once it has come, covers just what was seen before.
use Rattle.std.proofs.Common.{◌≡◌, ⊎_elim, ℕ, suc, ◌+◌, ◌<◌, ◌≤◌, List, [], ◌∷◌, ◌++◌, length, max, slice_index, Option, Some, None, Result, Ok, Err, IsSome, option_to_list, sym, ap, subst, ◌∙◌, refl, arith, append-nil}
use Rattle.std.specs.Prelude.{Contains}
use Rattle.std.specs.FinMap.{get}
use Rattle.std.proofs.lemmas.Bool.{cases_lt}
use Rattle.testing_rules_items.specs.Words.{Text}
use Rattle.testing_rules_items.proofs.Members.{none_among}
use Rattle.testing_rules_model.specs.declared.suite.RowIn.{RowIn}
use Rattle.testing_rules_model.specs.Covered.{Covered, CoveredItem}
use Rattle.testing_rules_model.specs.SameMessages.{HasOneOfEach, SameElements}
use Rattle.testing_rules_model.specs.Unstable.{unstable_rows}
use Rattle.office_mail.specs.declared.message.Body.{Body}
use Rattle.office_mail.specs.declared.message.Body.TheVariants.{Item, Run}
use Rattle.office_mail.specs.declared.message.MailFault.{MailFault}
use Rattle.office_mail.specs.declared.message.Message.{Message}
use Rattle.office_mail.specs.declared.message.RunOrder.{RunOrder}
use Rattle.office_mail.specs.Kept.{Kept, Place, place_of, placed}
use Rattle.office_mail.specs.steps.ReadSteps.{placed_as}
use Rattle.office_mail.specs.Lists.{Lists}
use Rattle.office_mail.specs.Read.{read}
use Rattle.office_mail.specs.Runs.{cover, cover_of, covered, order_at, order_in_body, orders_to, runs}
use Rattle.office_mail.proofs.ReadyFacts.{cover_of-push}
use Rattle.office_mail.proofs.RunFacts.{orders_to-later}
use Rattle.office_core_facts.specs.Outcome.{covered_items, item_at, item_in_body}
use Rattle.office_core_facts.specs.steps.Walk.{item_in_answer}
use Rattle.office_core_facts.specs.Seen.{IsSeen, IsUnbroken, items_within}
use Rattle.office_core_facts.proofs.CoveredFacts.{SaysWithin, says_within, within_says}
use Rattle.office_core.proofs.OrderTexts.{is_order}
use Rattle.office_core_laws.specs.Checked.{IsOrdered}
use Rattle.office_core_laws.proofs.MailedItems.{row_before}

not_missing : {A : Type 0} {P : Type 0} (o : Option A) → IsSome o → o ≡ None → P
not_missing o some none = absurd (cc (subst IsSome none some))

is_some : {A : Type 0} (o : Option A) (x : A) → o ≡ Some x → IsSome o
is_some o x e = rw e refl

-- The sender of runs says nothing of unstable.

placed_here : (text : List ℕ) (p q : Place) → ◌≡◌ {A = Option (Place × List ℕ)} (Some (q, text)) (Some (p, text)) → q ≡ p
placed_here text p q e = let same : (q, text) ≡ (p, text) = cc in ap (λ (x : Place × List ℕ). x.0) same

by_body : {P : Type 0} (p : Place) (body : Body) (m : CoveredItem) → IsSome (order_in_body body) → item_in_body p body ≡ Some m → P
by_body p (Item said) m some e = absurd (cc some)
by_body p (Run order) m some e = absurd (cc e)

by_answer : {P : Type 0} (setup : Lists) (p : Place) (text : List ℕ) (m : CoveredItem) (r : Result Message MailFault) → read setup text ≡ r → placed_as text r ≡ Some (p, text) → p.0 ≡ runs setup → item_in_answer p r ≡ Some m → P
by_answer setup p text m (Err fault) is own at e = absurd (cc e)
by_answer setup p text m (Ok message) is own at e =
    by_body p message.body m (is_order setup text message is (ap (λ (q : Place). q.0) (placed_here text p (place_of message) own) ∙ at)) e

no_item : {P : Type 0} (setup : Lists) (p : Place) (text : List ℕ) (m : CoveredItem) → placed setup text ≡ Some (p, text) → p.0 ≡ runs setup → item_at setup (p, text) ≡ Some m → P
unfolding item_at
no_item setup p text m own at e = by_answer setup p text m (read setup text) refl own at e

-- how far mail has no gap is one number
one_gap : (kept : Kept) (s n m : ℕ) → IsUnbroken kept s n → IsUnbroken kept s m → n ≤ m
one_gap kept s n m one two = ⊎_elim
    (λ (lt : m < n). not_missing (get kept (s, m + 1)) (one.each (m + 1) (omega arith) (omega (arith, lt))) two.gap)
    (λ (le : n ≤ m). le)
    (cases_lt m n)

-- what a run covers is what its numbers cover
covered_within : (setup : Lists) (kept : Kept) (k : ℕ) → covered_items setup kept k ≡ items_within setup kept (cover setup kept k)
unfolding covered_items items_within covered
covered_within setup kept k = refl

module _ (setup : Lists) (kept late : Kept) (k : ℕ) (seen : Covered) (sees : IsSeen setup kept seen) (is : IsOrdered setup kept late k) where
  abbrev now : ℕ → ℕ
  now = cover setup late (k + 1)

  orders_are : orders_to setup late (k + 1) ≡ orders_to setup kept k ++ is.order ∷ []
  unfolding orders_to
  orders_are =
      let one : k + 1 ≡ suc k = omega arith in
      let ordered : order_at setup late (suc k) ≡ Some is.order = ap (order_at setup late) (sym one) ∙ is.ordered in
      ap (orders_to setup late) one
      ∙ ap (λ (os : List RunOrder). os ++ option_to_list (order_at setup late (suc k))) (orders_to-later setup kept late k is.within is.ready.orders)
      ∙ ap (λ (o : Option RunOrder). orders_to setup kept k ++ option_to_list o) ordered

  both : (s : ℕ) → now s ≡ max (cover setup kept k s) (slice_index is.order.covers s)
  both s = ap (λ (os : List RunOrder). cover_of os s) orders_are ∙ cover_of-push (orders_to setup kept k) is.order s

  now_is : (s : ℕ) → s < length setup.senders → (s ≡ runs setup → ⊥) → now s ≡ sees.covers s
  now_is s low other =
      let whole = sees.unbroken s low in
      let stated = is.covers s low other in
      let ahead : cover setup kept k s ≤ sees.covers s = ⊎_elim
      (λ (lt : sees.covers s < cover setup kept k s). not_missing (get kept (s, sees.covers s + 1)) (is.ready.mail s (sees.covers s + 1) (omega arith) (omega (arith, lt))) whole.gap)
      (λ (le : cover setup kept k s ≤ sees.covers s). le)
      (cases_lt (sees.covers s) (cover setup kept k s)) in
      omega (arith, both s, one_gap kept s (slice_index is.order.covers s) (sees.covers s) stated whole, one_gap kept s (sees.covers s) (slice_index is.order.covers s) whole stated, ahead)

  then_seen : (m : CoveredItem) → Contains (items_within setup late now) m → Contains (items_within setup kept sees.covers) m
  then_seen m c =
      let says : SaysWithin setup late now m = says_within setup late now m c in
      let low = (is.places says.place (is_some (get late says.place) says.text says.there)).sender in
      let other : says.place.0 ≡ runs setup → ⊥ = λ at. no_item setup says.place says.text m (is.own says.place says.text says.there) at says.is in
      let high : says.place.1 ≤ sees.covers says.place.0 = omega (arith, says.high, now_is says.place.0 low other) in
      let old = is.within says.place ((sees.unbroken says.place.0 low).each says.place.1 says.low high) in
      within_says setup kept sees.covers m (record { place = says.place; text = says.text; there = sym old ∙ says.there; is = says.is; low = says.low; high = high })

  seen_then : (m : CoveredItem) → Contains (items_within setup kept sees.covers) m → Contains (items_within setup late now) m
  seen_then m c =
      let says : SaysWithin setup kept sees.covers m = says_within setup kept sees.covers m c in
      let at : get late says.place ≡ Some says.text = is.within says.place (is_some (get kept says.place) says.text says.there) ∙ says.there in
      let low = (is.places says.place (is_some (get late says.place) says.text at)).sender in
      let other : says.place.0 ≡ runs setup → ⊥ = λ own. no_item setup says.place says.text m (is.own says.place says.text at) own says.is in
      within_says setup late now m (record { place = says.place; text = says.text; there = at; is = says.is; low = says.low; high = omega (arith, says.high, now_is says.place.0 low other) })

  same_seen : SameElements (covered_items setup late (k + 1)) seen
  same_seen = (
    λ m c. subst (λ xs. Contains xs m) (sym sees.is) (then_seen m (subst (λ xs. Contains xs m) (covered_within setup late (k + 1)) c)),
    λ m c. subst (λ xs. Contains xs m) (sym (covered_within setup late (k + 1))) (seen_then m (subst (λ xs. Contains xs m) sees.is c)),
  )

  -- the run of that order sees no other row of unstable
  pub row_seen : HasOneOfEach (covered_items setup late (k + 1)) → (archs : List Text) (r : RowIn) → Contains (unstable_rows archs (covered_items setup late (k + 1))) r → Contains (unstable_rows archs seen) r
  row_seen one archs r c =
      let none : SameElements (covered_items setup late (k + 1)) (seen ++ []) = subst (SameElements (covered_items setup late (k + 1))) (sym (append-nil seen)) same_seen in
      row_before seen [] (covered_items setup late (k + 1)) one none archs (λ b d. none_among b d) r c
