-- Facts that stand for what the senders say, and the offices in which they do.
use Rattle.std.specs.Prelude.{◌≡◌, ℕ, ◌+◌, ◌≤◌, List, length, slice_index}
use Rattle.testing_rules_model.specs.FactLists.{FactLists}
use Rattle.testing_rules_model.specs.StandsFor.{StandsFor}
use Rattle.office_mail.specs.declared.message.RunOrder.{RunOrder}
use Rattle.office_mail.specs.Lists.{Lists}
use Rattle.office_mail.specs.Runs.{cover_of, orders_to}
use Rattle.office_store_keeper.specs.Content.{Content}
use Rattle.office_core_orders.specs.steps.Ready.{FirstOrders}
use Rattle.office_core_facts.specs.declared.covered.KnownFacts.{KnownFacts}
use Rattle.office_core_facts.specs.Known.{AreUnderWay}
use Rattle.office_core_facts.specs.State.{IsOffice}
use Rattle.office_core_facts.specs.steps.Walk.{said_within}

-- facts stand over kept testing for what each sender says up to its cover
abbrev pub StandUpTo : Lists → Content → (ℕ → ℕ) → FactLists → Type 0
StandUpTo setup content covers f = StandsFor f (said_within setup content.kept covers (length setup.senders)) content.testing

-- this holds in an office whose finished runs have these orders
abbrev pub OfFinished : Lists → Content → List RunOrder → Type 0 → Type 0
OfFinished setup content orders claim = IsOffice setup content → orders ≡ orders_to setup content.kept (length content.reports) → claim

-- this holds in an office whose finished runs and the next one have these orders
abbrev pub OfNext : Lists → Content → List RunOrder → Type 0 → Type 0
OfNext setup content orders claim = IsOffice setup content → FirstOrders setup content.kept orders → length orders ≡ length content.reports + 1 → claim

-- none of these numbers is above what the orders cover of its sender
abbrev pub AreCovered : List RunOrder → List ℕ → Type 0
AreCovered orders numbers = (s : ℕ) → slice_index numbers s ≤ cover_of orders s

-- What is known is on the way from the kept rows, and stands for what is taken in the offices of `due`.
pub record AreFound (setup : Lists) (content : Content) (due : Type 0 → Type 0) (known : KnownFacts) : Type 0 where
  pub way : AreUnderWay setup content known.facts
  pub stand : due (StandUpTo setup content (slice_index known.taken.items) known.facts)
