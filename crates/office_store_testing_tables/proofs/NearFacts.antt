-- Letters that were loaded together.
use Rattle.std.proofs.Common.{◌≡◌, ℕ, ◌+◌, ◌-◌, List, Option, Some, None, option_map, sym, ap, subst, ◌∙◌}
use Rattle.std.specs.List.{range_with_len}
use Rattle.std.specs.FinMap.{get}
use Rattle.std.specs.Prelude.{Contains}
use Rattle.testing_rules_model.proofs.Sets.{given_by}
use Rattle.office_mail.specs.Kept.{Kept}
use Rattle.office_store_keeper.specs.declared.values.Letter.{Letter}
use Rattle.office_store_keeper.specs.Content.{letter_at, letters_within}
use Rattle.office_store_testing_tables.specs.steps.Loaded.{AreLettersOf}

at_number : (number : ℕ) (text : Option (List ℕ)) (x : Letter) → option_map (λ (t : List ℕ). record { number = number; text = t }) text ≡ Some x → (number ≡ x.number) × (text ≡ Some x.text)
at_number number None x e = absurd (cc e)
at_number number (Some text) x e = let is : record { number = number; text = text } ≡ x = same_letter (record { number = number; text = text }) x e in (ap (λ (l : Letter). l.number) is, ap (λ (l : Letter). Some l.text) is)
  where
    same_letter : (a b : Letter) → Some a ≡ Some b → a ≡ b
    same_letter a b e = cc

-- each of a range is kept under its number
pub letters_own : (kept : Kept) (sender from to : ℕ) (letters : List Letter) → letters ≡ letters_within kept sender from to → AreLettersOf kept sender letters
unfolding letters_within
letters_own kept sender from to letters e x c =
    let n = given_by (letter_at kept sender) (range_with_len from (to + 1 - from)) x (subst (λ (ls : List Letter). Contains ls x) e c) in
    let at = at_number n.0 (get kept (sender, n.0)) x n.2 in
    ap (λ (k : ℕ). get kept (sender, k)) (sym at.0) ∙ at.1
