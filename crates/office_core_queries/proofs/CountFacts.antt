-- What is counted of a sender's kept mail.
use Rattle.std.proofs.Common.{◌≡◌, ⊎_elim, inl, inr, ◌⊎◌, ℕ, ◌+◌, ◌<◌, ◌≤◌, Bool, true, false, cond, ◌==◌, List, [], ◌∷◌, ◌++◌, map, length, Option, Some, None, IsSome, sym, ap, subst, ◌∙◌, refl, arith}
use Rattle.std.specs.List.{AllByRecursion, range_with_len}
use Rattle.std.specs.FinMap.{get}
use Rattle.std.proofs.lemmas.Bool.{cases_lt, eqb-true, eq-eqb}
use Rattle.std.proofs.lemmas.List.{length-append, map-append}
use Rattle.office_mail.specs.Kept.{Kept}
use Rattle.office_mail.specs.Runs.{greatest}
use Rattle.office_store_keeper.specs.declared.values.Letter.{Letter}
use Rattle.office_store_keeper.specs.Content.{letters_within, IsNextNumber}
use Rattle.office_core_orders.specs.Ready.{HasNumbers}
use Rattle.office_core_queries.specs.declared.mail.MailCount.{MailCount}
use Rattle.office_core_queries.specs.Mail.{AreMailCounts, IsMailCount}
use Rattle.office_core_queries.specs.steps.Numbers.{IsCountSoFar, NoneAbove, NoneBetween, with_number}
use Rattle.office_core_queries.proofs.LetterLists.{range_joined, within_all, within_more, within_zero}

-- the numbers of letters
abbrev pub numbers_in : List Letter → List ℕ
numbers_in letters = map (λ (l : Letter). l.number) letters

-- nothing is counted yet
pub count_none : (kept : Kept) (s : ℕ) → IsCountSoFar kept (record { sender = s; count = 0; unbroken = 0; greatest = 0 })
count_none kept s = record {
  all = ap length (sym (within_zero kept s));
  each = λ j low high. absurd (omega (arith, low, high));
  gap = inl refl;
  last = ap (λ (l : List Letter). greatest (numbers_in l)) (sym (within_zero kept s));
}

greatest_pushed : (xs : List ℕ) (n : ℕ) → greatest xs ≤ n → greatest (xs ++ n ∷ []) ≡ n
greatest_pushed [] n le = omega arith
greatest_pushed (x ∷ xs) n le = omega (arith, le, greatest_pushed xs n (omega (arith, le)))

numbers_on : (kept : Kept) (s n u : ℕ) → HasNumbers kept s u → IsSome (get kept (s, n)) → n ≡ u + 1 → HasNumbers kept s n
numbers_on kept s n u each some e = λ j low high. ⊎_elim
    (λ (lt : j < n). each j low (omega (arith, lt, e)))
    (λ (le : n ≤ j). let at : n ≡ j = omega (arith, le, high) in subst (λ (k : ℕ). IsSome (get kept (s, k))) at some)
    (cases_lt j n)

each_by : (kept : Kept) (s n u : ℕ) (b : Bool) → HasNumbers kept s u → IsSome (get kept (s, n)) → (b ≡ true → n ≡ u + 1) → HasNumbers kept s (cond b n u)
each_by kept s n u true each some e = numbers_on kept s n u each some (e refl)
each_by kept s n u false each some e = each

gap_by : (kept : Kept) (s n u last : ℕ) (b : Bool) → (u ≡ last) ⊎ (get kept (s, u + 1) ≡ None) → last < n → NoneBetween kept s last n → (n ≡ u + 1 → b ≡ true) → (cond b n u ≡ n) ⊎ (get kept (s, cond b n u + 1) ≡ None)
gap_by kept s n u last true gap lt none e = inl refl
gap_by kept s n u last false gap lt none e = inr (⊎_elim
    (λ (at : u ≡ last). ⊎_elim
    (λ (below : u + 1 < n). none (u + 1) (omega (arith, at)) below)
    (λ (le : n ≤ u + 1). absurd (cc (e (omega (arith, le, at, lt)))))
    (cases_lt (u + 1) n))
    (λ g. g)
    gap)

text_at : (o : Option (List ℕ)) → IsSome o → (text : List ℕ) × (o ≡ Some text)
text_at None h = absurd (cc h)
text_at (Some text) h = (text, refl)

count_text : (kept : Kept) (c : MailCount) (n : ℕ) (text : List ℕ) → IsCountSoFar kept c → c.greatest < n → get kept (c.sender, n) ≡ Some text → IsSome (get kept (c.sender, n)) → NoneBetween kept c.sender c.greatest n → IsCountSoFar kept (with_number c n)
count_text kept c n text so lt at some none =
    let more = within_more kept c.sender c.greatest n text lt at none in
    let letter : Letter = record { number = n; text = text } in
    let before = letters_within kept c.sender 1 c.greatest in
    record {
      all = let e : c.count + 1 ≡ length before + 1 = omega (arith, so.all) in e ∙ sym (length-append before (letter ∷ [])) ∙ sym (ap length more);
      each = each_by kept c.sender n c.unbroken (n == c.unbroken + 1) so.each some (eqb-true n (c.unbroken + 1));
      gap = gap_by kept c.sender n c.unbroken c.greatest (n == c.unbroken + 1) so.gap lt none (eq-eqb n (c.unbroken + 1));
      last = sym (ap (λ (l : List Letter). greatest (numbers_in l)) more ∙ ap greatest (map-append (λ (l : Letter). l.number) before (letter ∷ [])) ∙ greatest_pushed (numbers_in before) n (omega (arith, so.last, lt)));
    }

-- one number more is counted
pub count_more : (kept : Kept) (c : MailCount) (n : ℕ) → IsCountSoFar kept c → c.greatest < n → IsNextNumber kept c.sender (c.greatest + 1) (Some n) → IsCountSoFar kept (with_number c n)
count_more kept c n so lt next =
    let found = text_at (get kept (c.sender, n)) next.1 in
    count_text kept c n found.0 so lt found.1 next.1 (λ m low high. next.2 m (omega (arith, low)) high)

none_above : (kept : Kept) (s last : ℕ) → IsNextNumber kept s (last + 1) None → NoneAbove kept s last
none_above kept s last none = λ m low. none m (omega (arith, low))

-- all are counted
pub count_all : (kept : Kept) (c : MailCount) → IsCountSoFar kept c → IsNextNumber kept c.sender (c.greatest + 1) None → c.greatest ≤ 999_999_999 → IsMailCount kept c
count_all kept c so next few =
    let none = none_above kept c.sender c.greatest next in
    let all = within_all kept c.sender c.greatest 999_999_999 few none in
    record {
      all = so.all ∙ sym (ap length all);
      each = so.each;
      gap = ⊎_elim (λ (at : c.unbroken ≡ c.greatest). none (c.unbroken + 1) (omega (arith, at))) (λ g. g) so.gap;
      last = so.last ∙ sym (ap (λ (l : List Letter). greatest (numbers_in l)) all);
    }

-- the counts of senders, one after another

each_pushed : (P : MailCount → Type 0) (xs : List MailCount) (x : MailCount) → AllByRecursion P xs → P x → AllByRecursion P (xs ++ x ∷ [])
each_pushed P [] x each h = (h, tt)
each_pushed P (y ∷ ys) x each h = (each.0, each_pushed P ys x each.1 h)

pub counts_more : (kept : Kept) (n : ℕ) (counts : List MailCount) (c : MailCount) → AreMailCounts kept n counts → IsMailCount kept c → c.sender ≡ n → AreMailCounts kept (n + 1) (counts ++ c ∷ [])
counts_more kept n counts c are is at =
    let e : 0 + n ≡ n = omega arith in
    record {
      senders = map-append (λ (x : MailCount). x.sender) counts (c ∷ [])
          ∙ ap (λ l. l ++ c.sender ∷ []) are.senders
          ∙ ap (λ s. range_with_len 0 n ++ s ∷ []) (at ∙ sym e)
          ∙ range_joined 0 n 1;
      each = each_pushed (IsMailCount kept) counts c are.each is;
    }

-- the count of what is unbroken doesn't pass a number
pub unbroken_within : (b : Bool) (n u : ℕ) → u ≤ n → cond b n u ≤ n
unbroken_within true n u le = omega arith
unbroken_within false n u le = le
