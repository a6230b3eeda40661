-- The letters of texts that are gathered, before they are kept together.
use Rattle.std.specs.Prelude.{◌≡◌, ℕ, List, [], ◌∷◌, Option, Some, None, Result, nat_eq, ◌&&◌, if◌then◌else◌}
use Rattle.std.specs.List.{AllByRecursion}
use Rattle.office_mail.specs.Lists.{Lists}
use Rattle.office_mail.specs.Kept.{Kept, IsPlace, kept_from}
use Rattle.office_store_keeper.specs.NewMail.{AreFree, with_letters}
use Rattle.office_store_keeper.specs.declared.values.NewLetter.{NewLetter}
use Rattle.office_core_replies.specs.declared.faults.DeliverFault.{DeliverFault}
use Rattle.office_core_replies.specs.declared.faults.Held.{Held}
use Rattle.office_core_facts.specs.State.{answer_to}
use Rattle.office_core.specs.Together.{answers_to}

-- the text of the first of these letters that has this sender and number
abbrev pub own_text : List NewLetter → ℕ → ℕ → Option (List ℕ)
own_text [] sender number = None
own_text (l ∷ ls) sender number = if nat_eq l.sender sender && nat_eq l.number number then Some l.text else own_text ls sender number

-- the letter of a text that is held
abbrev pub letter_of : Held → List ℕ → NewLetter
letter_of held text = record { sender = held.sender; number = held.number; text = text }

-- each letter is at a place that a message may have
abbrev pub ArePlaced : Lists → List NewLetter → Type 0
ArePlaced setup letters = AllByRecursion (λ l. IsPlace setup (l.sender, l.number)) letters

-- One more text is answered from what is kept and from the letters before it; these are the letters with its own.
pub record TakesText (setup : Lists) (kept : Kept) (letters later : List NewLetter) (text : List ℕ) (reply : Result Held DeliverFault) : Type 0 where
  pub free : AreFree kept letters → AreFree kept later
  pub answer : AreFree kept letters → reply ≡ answer_to setup (with_letters kept letters) text
  pub leaves : AreFree kept letters → with_letters kept later ≡ kept_from setup (with_letters kept letters) (text ∷ [])

-- A block that isn't kept yet: these letters are free next to what is kept, keeping them does what delivering these
-- texts does, and these are the answers to them.
pub record Gathers (setup : Lists) (kept : Kept) (letters : List NewLetter) (replies : List (Result Held DeliverFault)) (texts : List (List ℕ)) : Type 0 where
  pub free : AreFree kept letters
  pub kept_is : with_letters kept letters ≡ kept_from setup kept texts
  pub replies_are : replies ≡ answers_to setup kept texts
