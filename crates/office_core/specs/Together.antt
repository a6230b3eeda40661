-- The answers to texts that are kept together.
use Rattle.std.specs.Prelude.{ℕ, ◌<◌, length, IfOk, List, [], ◌∷◌, Result}
use Rattle.std.specs.List.{AllByRecursion}
use Rattle.office_mail.specs.Lists.{Lists}
use Rattle.office_mail.specs.Kept.{Kept, kept_from}
use Rattle.office_core_replies.specs.declared.faults.DeliverFault.{DeliverFault}
use Rattle.office_core_replies.specs.declared.faults.Held.{Held}
use Rattle.office_core_facts.specs.State.{answer_to}

-- the answers to texts, one after another
abbrev pub answers_to : Lists → Kept → List (List ℕ) → List (Result Held DeliverFault)
answers_to setup kept [] = []
answers_to setup kept (t ∷ ts) = answer_to setup kept t ∷ answers_to setup (kept_from setup kept (t ∷ [])) ts

-- each message held has a sender of the setup
abbrev pub AreHeldHere : Lists → List (Result Held DeliverFault) → Type 0
AreHeldHere setup replies = AllByRecursion (λ reply. IfOk reply (λ held. held.sender < length setup.senders)) replies
