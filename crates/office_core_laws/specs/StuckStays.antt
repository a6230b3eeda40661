-- What no group frees, over runs: a source of the printed blocks, whatever `easy` hints are mailed on top.
use Rattle.std.specs.Prelude.{◌≡◌, ℕ, ◌+◌, List, Contains, Some}
use Rattle.jiff_core.specs.declared.civil.date.Date.{Date}
use Rattle.testing_rules_items.specs.declared.item.Hint.TheVariants.{Easy}
use Rattle.testing_rules_items.specs.declared.item.HintItem.{HintItem}
use Rattle.testing_rules_items.specs.declared.item.Item.TheVariants.{Hint}
use Rattle.testing_rules_model.specs.Covered.{Covered}
use Rattle.testing_rules_model.specs.Excuses.{excuses_of}
use Rattle.testing_rules_model.specs.Suite.{Suite}
use Rattle.office_mail.specs.Kept.{Kept}
use Rattle.office_mail.specs.Lists.{Lists}
use Rattle.office_store_keeper.specs.declared.values.Letter.{Letter}
use Rattle.office_core_facts.specs.Outcome.{item_at, outcome, testing_after}
use Rattle.office_core_facts.specs.Seen.{items_within, release}
use Rattle.office_core_outcome.specs.Hints.{hint_letters, with_letters}
use Rattle.office_core_outcome.specs.Proposal.{behind_standing}

-- the message says an `easy` hint of the release team
pub record SaysEasy (setup : Lists) (letter : Letter) : Type 0 where
  pub items : List HintItem
  pub says : item_at setup ((release setup, letter.number), letter.text) ≡ Some (record { sender = release setup; number = letter.number; item = Hint (Easy items) })

-- the messages of all these hints do, numbered from the one after this number
abbrev pub AreEasy : Lists → ℕ → List (List ℕ) → Type 0
AreEasy setup number hints = (letter : Letter) → Contains (hint_letters setup number hints) letter → SaysEasy setup letter

-- testing after run k + 1, over what the covers cover and the messages of these hints
abbrev pub testing_with : Lists → Kept → ℕ → Date → (ℕ → ℕ) → List (List ℕ) → Suite
testing_with setup kept k date covers hints =
    (outcome setup (k + 1) date (with_letters setup (release setup) (hint_letters setup (covers (release setup)) hints) (items_within setup kept covers)) (testing_after setup kept k)).testing

-- testing in that run after the removals and groups of the hints in force, before these hints have their turn
abbrev pub testing_standing : Lists → Kept → ℕ → Date → (ℕ → ℕ) → Suite
testing_standing setup kept k date covers =
    let mail : Covered = items_within setup kept covers in
    let before : Suite = testing_after setup kept k in
    behind_standing setup.archs mail (excuses_of setup.archs mail before date) before
