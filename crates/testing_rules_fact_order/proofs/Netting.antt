-- What is put and what is gone, turn by turn.
use Rattle.std.specs.Prelude.{ℕ, zero, suc, ◌+◌, ◌<◌, ◌≤◌, ◌==◌, ◌&&◌, Bool, true, false, cond, List, [], ◌∷◌, ◌++◌, length, take, get_or}
use Rattle.std.proofs.Common.{◌≡◌, refl, sym, ap, ◌∙◌, subst, inl, inr, ◌⊎◌, arith}
use Rattle.std.specs.Cmp.{IsTotalOrder}
use Rattle.std.specs.List.Sorted.{IsSorted}
use Rattle.std.specs.declared.cmp.Ordering.{Ordering}
use Rattle.std.specs.declared.cmp.Ordering.TheVariants.{Less, Equal, Greater}
use Rattle.std.specs.Ordering.{is_lt}
use Rattle.std.proofs.lemmas.Bool.{false≢true}
use Rattle.std.proofs.lemmas.Bool.Decides.{nat_tests}
use Rattle.std.proofs.lemmas.Cmp.{nat_cmp_total, on_total, then_total, tied_itself}
use Rattle.std.proofs.lemmas.List.{take_all}
use Rattle.std.proofs.lemmas.List.Sorted.{sorted_far, ranks_by}
use Rattle.std.proofs.lemmas.List.Sums.{sum_by_push, sum_by_more}
use Rattle.testing_rules_model.specs.declared.fact_row.FactRow.{FactRow}
use Rattle.testing_rules_model.specs.FactRows.{number_of, is_kind, is_row, times, row_order}
use Rattle.testing_rules_model.specs.declared.fact_row.FactKind.TheVariants.{Source}
use Rattle.testing_rules_model.proofs.FactKinds.{kind_is}
use Rattle.testing_rules_fact_order.specs.declared.row_changes.Side.TheVariants.{Came, Left}
use Rattle.testing_rules_fact_order.specs.steps.Net.{IsBelowFrom, IsNet, IsTurn}
use Rattle.testing_rules_model.specs.FactDifference.{IsDifference}

pub row_total : IsTotalOrder row_order
row_total =
    then_total (on_total (λ (r : FactRow). number_of r.kind) nat_cmp_total)
    (then_total (on_total (λ (r : FactRow). r.sender) nat_cmp_total) (then_total (on_total (λ (r : FactRow). r.number) nat_cmp_total) (on_total (λ (r : FactRow). r.place) nat_cmp_total)))

both_are : (a b : Bool) → (a && b) ≡ true → (a ≡ true) × (b ≡ true)
both_are true b h = (refl, h)
both_are false b h = absurd (false≢true h)

same_nat : (a b : ℕ) → (a == b) ≡ true → a ≡ b
same_nat a b e = grind (arith, nat_tests)

pub row_same : (r x : FactRow) → is_row r x ≡ true → x ≡ r
row_same r x h =
    let a = both_are (is_kind x.kind r.kind) _ h in
    let b = both_are (x.sender == r.sender) _ a.1 in
    let c = both_are (x.number == r.number) (x.place == r.place) b.1 in
    let step1 : ◌≡◌ {A = FactRow} x (record { kind = r.kind; sender = x.sender; number = x.number; place = x.place }) =
    ap (λ k. record { kind = k; sender = x.sender; number = x.number; place = x.place }) (kind_is x.kind r.kind a.0) in
    step1
    ∙ ap (λ k. record { kind = r.kind; sender = k; number = x.number; place = x.place }) (same_nat x.sender r.sender b.0)
    ∙ ap (λ k. record { kind = r.kind; sender = r.sender; number = k; place = x.place }) (same_nat x.number r.number c.0)
    ∙ ap (λ k. record { kind = r.kind; sender = r.sender; number = r.number; place = k }) (same_nat x.place r.place c.1)

not_below_itself : {P : Type 0} (r : FactRow) → is_lt (row_order r r) ≡ true → P
not_below_itself r h = absurd (false≢true (sym (ap is_lt (tied_itself row_total r)) ∙ h))

-- below one, and so below what isn't below that one
below_at : (o : Ordering) (x y z : FactRow) → row_order x z ≡ o → is_lt (row_order x y) ≡ true → is_lt (row_order z y) ≡ false → is_lt (row_order x z) ≡ true
below_at Less x y z e h k = ap is_lt e
below_at Equal x y z e h k = absurd (false≢true (sym k ∙ ap is_lt (sym (row_total.congr x z y e)) ∙ h))
below_at Greater x y z e h k =
    let low : row_order z x ≡ Less = row_total.antisymm z x ∙ rw e refl in
    absurd (false≢true (sym k ∙ ap is_lt (row_total.trans z x y low (less_of (row_order x y) h))))
  where
    less_of : (o : Ordering) → is_lt o ≡ true → o ≡ Less
    less_of Less h = refl
    less_of Equal h = absurd (false≢true h)
    less_of Greater h = absurd (false≢true h)

-- the next row of a list in order is below what is above the next of the other
pub below_all : (rows : List FactRow) (x : FactRow) (j : ℕ) → IsSorted row_order rows → (j < length rows → (d : FactRow) → is_lt (row_order x (get_or rows j d)) ≡ true) → IsBelowFrom x rows j
below_all rows x j sorted h k d from within =
    below_at (row_order x (get_or rows k d)) x (get_or rows j d) (get_or rows k d) refl (h (omega (arith, from, within)) d)
    (sorted_far (λ a b. is_lt (row_order a b)) (ranks_by row_total (λ (r : FactRow). r)) rows sorted j k d from within)

bit : FactRow → FactRow → ℕ
bit r x = cond (is_row r x) 1 0

pushed : (r x : FactRow) (rows : List FactRow) → times r (rows ++ x ∷ []) ≡ times r rows + cond (is_row r x) 1 0
pushed r x rows = sum_by_push (λ y. cond (is_row r y) 1 0) rows x

more : (r x : FactRow) (rows : List FactRow) (i : ℕ) → i < length rows → x ≡ get_or rows i x → times r (take (i + 1) rows) ≡ times r (take i rows) + cond (is_row r x) 1 0
more r x rows i within is = sum_by_more (λ y. cond (is_row r y) 1 0) rows i x within ∙ ap (λ y. times r (take i rows) + cond (is_row r y) 1 0) (sym is)

no_or_some : (n : ℕ) → (n ≡ 0) ⊎ (0 < n)
no_or_some zero = inl refl
no_or_some (suc n) = inr (omega arith)

-- The turn of a row that came alone.
module _ (came left put gone : List FactRow) (i j : ℕ) (net : IsNet came left put gone i j) (x : FactRow) (within : i < length came) (is : x ≡ get_or came i x) (below : IsBelowFrom x left j) where
  none_gone : (r : FactRow) → is_row r x ≡ true → times r gone ≡ 0
  none_gone r e = elim (no_or_some (times r gone)) [
    | inl none ↦ none
    | inr some ↦ let low = net.gone_below r some i x (omega arith) within in
        not_below_itself r (subst (λ y. is_lt (row_order r y) ≡ true) (sym is ∙ row_same r x e) low)
  ]

  apart_at : (b : Bool) (r : FactRow) → is_row r x ≡ b → (times r (put ++ x ∷ []) ≡ 0) ⊎ (times r gone ≡ 0)
  apart_at true r e = inr (none_gone r e)
  apart_at false r e = elim (net.apart r) [ inl none ↦ inl (pushed r x put ∙ ap (λ b. times r put + cond b 1 0) e ∙ omega (arith, none)) | inr none ↦ inr none ]

  below_then : (b : Bool) (r : FactRow) → is_row r x ≡ b → 0 < times r (put ++ x ∷ []) → IsBelowFrom r left j
  below_then true r e some = subst (λ y. IsBelowFrom y left j) (row_same r x e) below
  below_then false r e some = net.put_below r (let n = pushed r x put ∙ ap (λ b. times r put + cond b 1 0) e in omega (arith, n, some))

  pub came_net : IsNet came left (put ++ x ∷ []) gone (i + 1) j
  came_net = record {
    balance = λ r. omega (arith, net.balance r, pushed r x put, more r x came i within is);
    apart = λ r. apart_at (is_row r x) r refl;
    put_below = λ r some. below_then (is_row r x) r refl some;
    gone_below = λ r some k d from high. net.gone_below r some k d (omega (arith, from)) high;
  }

-- the same seen from the other side
pub turned : (came left put gone : List FactRow) (i j : ℕ) → IsNet came left put gone i j → IsNet left came gone put j i
turned came left put gone i j net = record {
  balance = λ r. sym (net.balance r);
  apart = λ r. elim (net.apart r) [ inl a ↦ inr a | inr b ↦ inl b ];
  put_below = net.gone_below;
  gone_below = net.put_below;
}

pub left_net : (came left put gone : List FactRow) (i j : ℕ) → IsNet came left put gone i j → (x : FactRow) → j < length left → x ≡ get_or left j x → IsBelowFrom x came i
    → IsNet came left put (gone ++ x ∷ []) i (j + 1)
left_net came left put gone i j net x within is below =
    turned left came (gone ++ x ∷ []) put (j + 1) i (came_net left came gone put j i (turned came left put gone i j net) x within is below)

pub both_net : (came left put gone : List FactRow) (i j : ℕ) → IsNet came left put gone i j → i < length came → j < length left → ((d e : FactRow) → get_or came i d ≡ get_or left j e)
    → IsNet came left put gone (i + 1) (j + 1)
both_net came left put gone i j net low high same = record {
  balance = λ r.
      let d : FactRow = record { kind = Source; sender = 0; number = 0; place = 0 } in
      let a = sum_by_more (λ y. cond (is_row r y) 1 0) came i d low in
      let b = sum_by_more (λ y. cond (is_row r y) 1 0) left j d high in
      let e : ◌≡◌ {A = ℕ} (cond (is_row r (get_or came i d)) 1 0) (cond (is_row r (get_or left j d)) 1 0) = ap (λ (y : FactRow). cond (is_row r y) (suc zero) zero) (same d d) in
      omega (arith, net.balance r, a, b, e);
  apart = net.apart;
  put_below = λ r some k d from within. net.put_below r some k d (omega (arith, from)) within;
  gone_below = λ r some k d from within. net.gone_below r some k d (omega (arith, from)) within;
}

-- at first, and at the end
pub no_net : (came left : List FactRow) → IsNet came left [] [] 0 0
no_net came left = record { balance = λ r. refl; apart = λ r. inl refl; put_below = λ r some. absurd (let no : 0 < 0 = some in omega (arith, no)); gone_below = λ r some. absurd (let no : 0 < 0 = some in omega (arith, no)) }

pub net_done : (came left put gone : List FactRow) (i j : ℕ) → IsNet came left put gone i j → length came ≤ i → length left ≤ j → IsDifference came left put gone
net_done came left put gone i j net all both = record {
  balance = λ r. ap (λ l. times r put + times r l) (sym (take_all j left both)) ∙ net.balance r ∙ ap (λ l. times r gone + times r l) (take_all i came all);
  apart = net.apart;
}

-- an element is read with any default
pub same_default : (rows : List FactRow) (i : ℕ) (d e : FactRow) → i < length rows → get_or rows i d ≡ get_or rows i e
same_default [] i d e h = absurd (omega (arith, h))
same_default (x ∷ rows) zero d e h = refl
same_default (x ∷ rows) (suc i) d e h = same_default rows i d e (omega (arith, h))

-- a whole turn of each kind
pub came_turn : (came left put gone new : List FactRow) (i j : ℕ) (d : FactRow) → IsSorted row_order left → IsNet came left put gone i j → IsTurn came left i j Came → new ≡ put ++ get_or came i d ∷ []
    → IsNet came left new gone (i + 1) j
came_turn came left put gone new i j d sorted net turn is =
    let x = get_or came i d in
    subst (λ items. IsNet came left items gone (i + 1) j) (sym is)
    (came_net came left put gone i j net x turn.0 (same_default came i d x turn.0) (below_all left x j sorted (λ h e. turn.1 h d e)))

pub left_turn : (came left put gone new : List FactRow) (i j : ℕ) (d : FactRow) → IsSorted row_order came → IsNet came left put gone i j → IsTurn came left i j Left → new ≡ gone ++ get_or left j d ∷ []
    → IsNet came left put new i (j + 1)
left_turn came left put gone new i j d sorted net turn is =
    let x = get_or left j d in
    subst (λ items. IsNet came left put items i (j + 1)) (sym is)
    (left_net came left put gone i j net x turn.0 (same_default left j d x turn.0) (below_all came x i sorted (λ h e. turn.1 h e d)))

pub net_between : (came left put gone came_in left_in : List FactRow) → ((r : FactRow) → times r came ≡ times r came_in) → ((r : FactRow) → times r left ≡ times r left_in)
    → IsDifference came left put gone → IsDifference came_in left_in put gone
net_between came left put gone came_in left_in a b d = record { balance = λ r. omega (arith, d.balance r, a r, b r); apart = d.apart }
