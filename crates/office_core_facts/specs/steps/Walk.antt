-- The messages of the mail, place by place, in the order in which they are taken.
use Rattle.std.specs.Prelude.{ℕ, zero, suc, List, [], ◌∷◌, ◌++◌, Option, Some, None, Result, option_and_then, option_to_list}
use Rattle.std.specs.Result.{result_ok}
use Rattle.std.specs.FinMap.{get}
use Rattle.testing_rules_model.specs.Covered.{Covered, CoveredItem}
use Rattle.office_mail.specs.declared.message.Message.{Message}
use Rattle.office_mail.specs.declared.message.MailFault.{MailFault}
use Rattle.office_mail.specs.Lists.{Lists}
use Rattle.office_mail.specs.Kept.{Kept, Place}
use Rattle.office_store_keeper.specs.declared.values.Letter.{Letter}
use Rattle.office_core_facts.specs.Outcome.{item_at, item_in_body}

-- what an answer to a text at a place says
abbrev pub item_in_answer : Place → Result Message MailFault → Option CoveredItem
item_in_answer p answer = option_and_then (λ message. item_in_body p message.body) (result_ok answer)

-- what the text at a place says, if there is one
abbrev pub item_of : Lists → Place → Option (List ℕ) → Option CoveredItem
item_of setup p None = None
item_of setup p (Some text) = item_at setup (p, text)

-- what is said at a place of the kept mail
unfoldable pub said_at : Lists → Kept → Place → Covered
said_at setup kept p = option_to_list (item_of setup p (get kept p))

-- what a sender says from number 1 to n, the last message first
unfoldable pub said_by : Lists → Kept → ℕ → ℕ → Covered
said_by setup kept sender zero = []
said_by setup kept sender (suc n) = said_at setup kept (sender, suc n) ++ said_by setup kept sender n

-- what letters of a sender say, the last one first, and then what was said before
unfoldable pub said_in : Lists → ℕ → List Letter → Covered → Covered
said_in setup sender [] before = before
said_in setup sender (letter ∷ letters) before = said_in setup sender letters (option_to_list (item_at setup ((sender, letter.number), letter.text)) ++ before)

-- what the first n senders say, each of them up to its cover
unfoldable pub said_within : Lists → Kept → (ℕ → ℕ) → ℕ → Covered
said_within setup kept covers zero = []
said_within setup kept covers (suc n) = said_by setup kept n (covers n) ++ said_within setup kept covers n
