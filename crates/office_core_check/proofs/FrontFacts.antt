-- The mail that was taken up to a place.
use Rattle.std.proofs.Common.{◌≡◌, ⊎_elim, ℕ, ◌+◌, ◌<◌, ◌≤◌, Bool, true, false, cond, List, length, Option, Some, None, IsSome, sym, ap, subst, ◌∙◌, refl, arith}
use Rattle.std.specs.Ordering.{eq_by_cmp, is_eq}
use Rattle.std.specs.Cmp.{tied_itself}
use Rattle.std.specs.FinMap.{get, insert, len, empty, get-empty, get-insert}
use Rattle.std.proofs.lemmas.Bool.{cases_lt}
use Rattle.office_mail.specs.Kept.{Kept, Place, place_cmp}
use Rattle.office_mail.specs.Lists.{Lists}
use Rattle.office_mail.proofs.KeptFacts.{places_total, same_kept, tied}
use Rattle.office_store_keeper.specs.declared.values.Letter.{Letter}
use Rattle.office_store_keeper.proofs.KeyCounts.{len_low, keys_same}
use Rattle.office_core_check.specs.steps.Reading.{IsFront, IsNextLetter, NoneWithin}
use Rattle.office_core_check.specs.Whole.{AreOfSenders}

at_tie : (b : Bool) (x : List ℕ) (o : Option (List ℕ)) → b ≡ true → cond b (Some x) o ≡ Some x
at_tie true x o e = refl
at_tie false x o e = absurd (cc (e))

at_no_tie : (b : Bool) (x : List ℕ) (o : Option (List ℕ)) → (b ≡ true → ⊥) → cond b (Some x) o ≡ o
at_no_tie true x o apart = absurd (apart refl)
at_no_tie false x o apart = refl

-- what another place has after a text is put at a place
put_other : (kept : Kept) (p q : Place) (text : List ℕ) → (q ≡ p → ⊥) → get (insert kept p text) q ≡ get kept q
put_other kept p q text apart = get-insert places_total kept p text q ∙ at_no_tie (eq_by_cmp place_cmp q p) text (get kept q) (λ e. apart (tied p q e))

-- at the start
pub front_none : (kept : Kept) → IsFront kept 0 0 empty
front_none kept = record {
  before = λ p low. absurd (omega (arith, low));
  below = λ n low. absurd (omega (arith, low));
  above = λ n low. get-empty place_cmp (0, n);
  behind = λ p low. get-empty place_cmp p;
}

-- and what that place has
pub put_here : (kept : Kept) (p : Place) (text : List ℕ) → get (insert kept p text) p ≡ Some text
put_here kept p text = get-insert places_total kept p text p ∙ at_tie (eq_by_cmp place_cmp p p) text (get kept p) (ap is_eq (tied_itself places_total p))

-- a sender's numbers with one more
below_more : (kept made : Kept) (s from n : ℕ) (text : List ℕ) → IsFront kept s from made → from ≤ n → get kept (s, n) ≡ Some text → NoneWithin kept s from n → (m : ℕ) → m < n + 1 → get (insert made (s, n) text) (s, m) ≡ get kept (s, m)
below_more kept made s from n text so first at none m low = ⊎_elim
    (λ (lt : m < n).
    put_other made (s, n) (s, m) text (λ e. let same : m ≡ n = ap (λ (q : Place). q.1) e in omega (arith, lt, same))
    ∙ ⊎_elim (λ (under : m < from). so.below m under) (λ (over : from ≤ m). so.above m over ∙ sym (none m over lt)) (cases_lt m from))
    (λ (le : n ≤ m).
    let is : n ≡ m = omega (arith, low, le) in
    subst (λ k. get (insert made (s, n) text) (s, k) ≡ get kept (s, k)) is (put_here made (s, n) text ∙ sym at))
    (cases_lt m n)

-- the next letter more
pub front_more : (kept made : Kept) (s from : ℕ) (letter : Letter) → IsFront kept s from made → IsNextLetter kept s from (Some letter) → IsFront kept s (letter.number + 1) (insert made (s, letter.number) letter.text)
front_more kept made s from letter so next = record {
  before = λ p low.
      put_other made (s, letter.number) p letter.text (λ e. let same : p.0 ≡ s = ap (λ (q : Place). q.0) e in omega (arith, low, same)) ∙ so.before p low;
  below = below_more kept made s from letter.number letter.text so next.0 next.1 next.2;
  above = λ m low.
      let first = next.0 in
      put_other made (s, letter.number) (s, m) letter.text (λ e. let same : m ≡ letter.number = ap (λ (q : Place). q.1) e in omega (arith, low, same))
      ∙ so.above m (omega (arith, low, first));
  behind = λ p low.
      put_other made (s, letter.number) p letter.text (λ e. let same : p.0 ≡ s = ap (λ (q : Place). q.0) e in omega (arith, low, same)) ∙ so.behind p low;
}

of_sender : (setup : Lists) (kept : Kept) (p : Place) (o : Option (List ℕ)) → get kept p ≡ o → length setup.senders ≤ p.0 → AreOfSenders setup kept → None ≡ o
of_sender setup kept p None e high are = refl
of_sender setup kept p (Some text) e high are =
    let low = are p (subst IsSome (sym e) refl) in
    absurd (omega (arith, low, high))

-- behind the last sender it is all mail, where that is of senders of the setup
pub front_all : (setup : Lists) (kept made : Kept) → IsFront kept (length setup.senders) 0 made → AreOfSenders setup kept → made ≡ kept
front_all setup kept made so are = same_kept made kept (λ p. ⊎_elim
    (λ (lt : p.0 < length setup.senders). so.before p lt)
    (λ (le : length setup.senders ≤ p.0).
    ⊎_elim
    (λ (beyond : length setup.senders < p.0). so.behind p beyond)
    (λ (last : p.0 ≤ length setup.senders).
    let is : length setup.senders ≡ p.0 = omega (arith, le, last) in
    subst (λ k. get made (k, p.1) ≡ None) is (so.above p.1 (omega arith)))
    (cases_lt (length setup.senders) p.0)
    ∙ of_sender setup kept p (get kept p) refl le are)
    (cases_lt p.0 (length setup.senders)))

none_there : {X : Type 0} (o : Option X) → o ≡ None → IsSome o → ⊥
none_there (Some x) none there = absurd (cc (none))
none_there None none there = absurd (cc (there))

none_behind : (kept made : Kept) (n : ℕ) → IsFront kept n 0 made → (p : Place) → n ≤ p.0 → get made p ≡ None
none_behind kept made n so p le = ⊎_elim
    (λ (beyond : n < p.0). so.behind p beyond)
    (λ (last : p.0 ≤ n).
    let is : n ≡ p.0 = omega (arith, le, last) in
    subst (λ k. get made (k, p.1) ≡ None) is (so.above p.1 (omega arith)))
    (cases_lt n p.0)

-- the mail that was taken is of those senders, and is kept
front_has : (kept made : Kept) (n : ℕ) → IsFront kept n 0 made → (p : Place) → IsSome (get made p) → (p.0 < n) × IsSome (get kept p)
front_has kept made n so p there = ⊎_elim
    (λ (lt : p.0 < n). (lt, subst IsSome (so.before p lt) there))
    (λ (le : n ≤ p.0). absurd (none_there (get made p) (none_behind kept made n so p le) there))
    (cases_lt p.0 n)

-- no more mail was taken than is kept
pub front_low : (kept made : Kept) (n : ℕ) → IsFront kept n 0 made → len made ≤ len kept
front_low kept made n so = len_low places_total made kept (λ p there. (front_has kept made n so p there).1)

-- where as much was taken, all mail is of those senders
pub front_senders : (setup : Lists) (kept made : Kept) → IsFront kept (length setup.senders) 0 made → len kept ≡ len made → AreOfSenders setup kept
front_senders setup kept made so same = λ p some.
    let n = length setup.senders in
    (front_has kept made n so p (keys_same places_total made kept (λ q there. (front_has kept made n so q there).1) (omega (arith, same)) p some)).0
