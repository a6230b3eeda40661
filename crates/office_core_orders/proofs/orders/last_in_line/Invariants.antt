use Rattle.std.proofs.Common.{◌≡◌, ◌≤◌, ◌+◌, ℕ, drop}
use Rattle.office_mail.specs.Kept.{Kept}
use Rattle.office_store_keeper.specs.Content.{letters_within}
use Rattle.office_core_orders.proofs.LetterFacts.{AreLeft}
use Rattle.office_core_orders.proofs.orders.last_in_line.Given as goal

abbrev pub invariant-letters : goal.invariant-letters
invariant-letters l = record {
  within : l.last ≤ l.end;
  left : (kept : Kept) (sender : ℕ) → l.letters ≡ letters_within kept sender (l.number + 1) l.end → AreLeft kept sender l.number l.last l.end (drop l.letter-index l.letters);
}
