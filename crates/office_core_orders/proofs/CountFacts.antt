-- What is known beside the mail, after a delivery and after a run.
use Rattle.std.proofs.Common.{◌≡◌, ℕ, zero, suc, ◌≤◌, List, [], ◌∷◌, ◌++◌, length, replicate, slice_index, IsSome, sym, subst, ◌∙◌, refl, arith}
use Rattle.std.specs.FinMap.{get}
use Rattle.office_mail.specs.declared.message.RunOrder.{RunOrder}
use Rattle.office_mail.specs.Lists.{Lists}
use Rattle.office_mail.specs.Kept.{Kept, Place, Within}
use Rattle.office_mail.proofs.RunFacts.{order_at-later, orders_to-later}
use Rattle.office_store_keeper.specs.Content.{Content}
use Rattle.office_core_orders.specs.steps.Ready.{FirstOrders, IsCounted}
use Rattle.office_core_orders.proofs.ReadyCount.{orders_to-zero}

none_there : (m s : ℕ) → slice_index (replicate m 0) s ≡ 0
none_there zero s = refl
none_there (suc m) zero = refl
none_there (suc m) (suc s) = none_there m s

-- room for more senders changes no count
pub slice_index-room : (xs : List ℕ) (m s : ℕ) → slice_index (xs ++ replicate m 0) s ≡ slice_index xs s
slice_index-room [] m s = none_there m s
slice_index-room (x ∷ xs) m zero = refl
slice_index-room (x ∷ xs) m (suc s) = slice_index-room xs m s

pub IsCounted-new : (setup : Lists) (content : Content) (counts : List ℕ) (orders : List RunOrder) → counts ≡ [] → orders ≡ [] → IsCounted setup content counts orders
IsCounted-new setup content counts orders u o = rw (u, o) (record {
  numbers = λ s j low high. absurd (omega (arith, low, high));
  first = record { same = sym (orders_to-zero setup content.kept); each = λ j low high. absurd (omega (arith, low, high)) };
  next = omega arith;
})

FirstOrders-later : (setup : Lists) (small large : Kept) (orders : List RunOrder) → Within small large → FirstOrders setup small orders → FirstOrders setup large orders
FirstOrders-later setup small large orders within first = record {
  same = first.same ∙ sym (orders_to-later setup small large (length orders) within first.each);
  each = λ j low high. let some = first.each j low high in subst IsSome (sym (order_at-later setup small large j within some)) some;
}

pub some_later : (small large : Kept) (p : Place) → Within small large → IsSome (get small p) → IsSome (get large p)
some_later small large p within some = subst IsSome (sym (within p some)) some

-- later mail and a finished run leave what is counted
pub IsCounted-later : (setup : Lists) (old new : Content) (counts : List ℕ) (orders : List RunOrder) → Within old.kept new.kept → length old.reports ≤ length new.reports → IsCounted setup old counts orders → IsCounted setup new counts orders
IsCounted-later setup old new counts orders within grows counted = record {
  numbers = λ s j low high. some_later old.kept new.kept (s, j) within (counted.numbers s j low high);
  first = FirstOrders-later setup old.kept new.kept orders within counted.first;
  next = omega (arith, grows, counted.next);
}
