-- The letters of a sender from one number to another: what they say.
use Rattle.std.proofs.Common.{◌≡◌, ℕ, zero, suc, ◌+◌, ◌-◌, ◌≤◌, List, [], ◌∷◌, ◌++◌, Option, Some, None, option_to_list, filter_map, sym, ap, subst, ◌∙◌, refl, arith}
use Rattle.std.specs.List.{range_with_len, cons_option}
use Rattle.std.specs.FinMap.{get}
use Rattle.std.specs.Prelude.{Contains}
use Rattle.testing_rules_model.proofs.Sets.{given_by}
use Rattle.testing_rules_model.specs.Covered.{Covered}
use Rattle.office_mail.specs.Lists.{Lists}
use Rattle.office_mail.specs.Kept.{Kept}
use Rattle.office_store_keeper.specs.declared.values.Letter.{Letter}
use Rattle.office_store_keeper.specs.Content.{letter_at, letters_within}
use Rattle.office_core_facts.specs.Outcome.{item_at}
use Rattle.office_core_facts.specs.steps.Taking.{AreLettersOf}
use Rattle.office_core_facts.specs.steps.Walk.{said_by, said_in}
use Rattle.office_core_orders.proofs.LetterFacts.{with_number}
use Rattle.office_core_facts.proofs.WalkFacts.{said_by-more, said_at-none, said_at-text}

-- what letters say

pub said_in-none : (setup : Lists) (sender : ℕ) (before : Covered) → said_in setup sender [] before ≡ before
unfolding said_in
said_in-none setup sender before = refl

pub said_in-one : (setup : Lists) (sender : ℕ) (x : Letter) (before : Covered) → said_in setup sender (x ∷ []) before ≡ option_to_list (item_at setup ((sender, x.number), x.text)) ++ before
unfolding said_in
said_in-one setup sender x before = refl

-- one letter more
pub said_in-more : (setup : Lists) (sender : ℕ) (letters : List Letter) (x : Letter) (before : Covered) → said_in setup sender (letters ++ x ∷ []) before ≡ option_to_list (item_at setup ((sender, x.number), x.text)) ++ said_in setup sender letters before
unfolding said_in
said_in-more setup sender [] x before = refl
said_in-more setup sender (y ∷ ys) x before = said_in-more setup sender ys x (option_to_list (item_at setup ((sender, y.number), y.text)) ++ before)

said_next : (setup : Lists) (kept : Kept) (sender n : ℕ) (text : Option (List ℕ)) (letters : List Letter) (s : Covered) → get kept (sender, n + 1) ≡ text
    → said_in setup sender (cons_option (with_number (n + 1) text) letters) (said_by setup kept sender n ++ s) ≡ said_in setup sender letters (said_by setup kept sender (n + 1) ++ s)
unfolding said_in
said_next setup kept sender n None letters s e =
    ap (said_in setup sender letters) (ap (λ l. l ++ (said_by setup kept sender n ++ s)) (sym (said_at-none setup kept (sender, n + 1) e)) ∙ said_by-more setup kept sender n s)
said_next setup kept sender n (Some text) letters s e =
    ap (said_in setup sender letters) (ap (λ l. l ++ (said_by setup kept sender n ++ s)) (sym (said_at-text setup kept (sender, n + 1) text e)) ∙ said_by-more setup kept sender n s)

said_on : (setup : Lists) (kept : Kept) (sender n m : ℕ) (s : Covered) → said_in setup sender (filter_map (letter_at kept sender) (range_with_len (n + 1) m)) (said_by setup kept sender n ++ s) ≡ said_by setup kept sender (n + m) ++ s
said_on setup kept sender n zero s =
    let none : n ≡ n + 0 = omega arith in
    said_in-none setup sender (said_by setup kept sender n ++ s) ∙ ap (λ k. said_by setup kept sender k ++ s) none
said_on setup kept sender n (suc m) s =
    let one : n + 1 + m ≡ n + suc m = omega arith in
    said_next setup kept sender n (get kept (sender, n + 1)) (filter_map (letter_at kept sender) (range_with_len (n + 1 + 1) m)) s refl
    ∙ said_on setup kept sender (n + 1) m s
    ∙ ap (λ k. said_by setup kept sender k ++ s) one

-- the letters behind a number up to another say what the sender says there
pub said_block : (setup : Lists) (kept : Kept) (sender n to : ℕ) (s : Covered) → n ≤ to → said_in setup sender (letters_within kept sender (n + 1) to) (said_by setup kept sender n ++ s) ≡ said_by setup kept sender to ++ s
unfolding letters_within
said_block setup kept sender n to s up =
    let last : n + (to + 1 - (n + 1)) ≡ to = omega (arith, up) in
    said_on setup kept sender n (to + 1 - (n + 1)) s ∙ ap (λ k. said_by setup kept sender k ++ s) last

-- each of them is kept under its number

at_number : (number : ℕ) (text : Option (List ℕ)) (x : Letter) → with_number number text ≡ Some x → (number ≡ x.number) × (text ≡ Some x.text)
at_number number None x e = absurd (cc e)
at_number number (Some text) x e = let is : record { number = number; text = text } ≡ x = same_letter (record { number = number; text = text }) x e in (ap (λ (l : Letter). l.number) is, ap (λ (l : Letter). Some l.text) is)
  where
    same_letter : (a b : Letter) → Some a ≡ Some b → a ≡ b
    same_letter a b e = cc

pub letters_own : (kept : Kept) (sender from to : ℕ) (letters : List Letter) → letters ≡ letters_within kept sender from to → AreLettersOf kept sender letters
unfolding letters_within
letters_own kept sender from to letters e x c =
    let n = given_by (letter_at kept sender) (range_with_len from (to + 1 - from)) x (subst (λ (ls : List Letter). Contains ls x) e c) in
    let at = at_number n.0 (get kept (sender, n.0)) x n.2 in
    ap (λ (k : ℕ). get kept (sender, k)) (sym at.0) ∙ at.1
