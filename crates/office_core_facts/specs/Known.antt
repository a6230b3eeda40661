-- What an office knows of the facts of its mail from one run to the next.
use Rattle.std.specs.Prelude.{◌≡◌, ℕ, ◌<◌, ◌≤◌, [], length, slice_index, IsSome}
use Rattle.std.specs.List.{filter_map}
use Rattle.std.specs.FinMap.{entries}
use Rattle.testing_rules_model.specs.FactDifference.{IsChangedFrom}
use Rattle.testing_rules_model.specs.FactLists.{FactLists}
use Rattle.testing_rules_model.specs.Tells.{Tells}
use Rattle.testing_rules_facts.specs.Uploads.{AreByMessage}
use Rattle.testing_rules_model.specs.Covered.{Covered}
use Rattle.office_mail.specs.Lists.{Lists}
use Rattle.office_mail.specs.Kept.{Kept}
use Rattle.office_mail.specs.Runs.{cover_of, order_at, orders_to}
use Rattle.office_store_keeper.specs.Content.{Content}
use Rattle.office_store_keeper.specs.FactSet.{count_in}
use Rattle.office_core_facts.specs.declared.covered.KnownFacts.{KnownFacts}
use Rattle.office_core_facts.specs.Outcome.{item_at}
use Rattle.office_core_orders.specs.Ready.{HasEach}

-- what all kept mail says
abbrev pub said_all : Lists → Kept → Covered
said_all setup kept = filter_map (item_at setup) (entries kept)

-- Facts on the way from the kept rows: kept mail says them, and their lists are in order. Their rows are the kept ones
-- with what came and without what left.
pub record AreUnderWay (setup : Lists) (content : Content) (f : FactLists) : Type 0 where
  pub tells : Tells f (said_all setup content.kept)
  pub by_message : AreByMessage f.uploads
  pub rows : IsChangedFrom (count_in content.facts) f

-- The facts of the last finished run, as they are kept, and the numbers up to which it covered each sender. The orders
-- of all finished runs are kept, so later mail doesn't change what they cover.
pub record AreKnown (setup : Lists) (content : Content) (known : KnownFacts) : Type 0 where
  pub numbers : HasEach content.kept known.taken.items
  pub orders : (j : ℕ) → 1 ≤ j → j ≤ length content.reports → IsSome (order_at setup content.kept j)
  pub covers : (s : ℕ) → s < length setup.senders → slice_index known.taken.items s ≡ cover_of (orders_to setup content.kept (length content.reports)) s
  pub facts : AreUnderWay setup content known.facts
  pub came : known.facts.came ≡ []
  pub left : known.facts.left ≡ []
