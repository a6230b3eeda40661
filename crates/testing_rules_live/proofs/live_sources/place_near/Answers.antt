use Rattle.std.proofs.Common.{rules, of_calls}
use Rattle.std.proofs.lemmas.Fn.{always_returns_same}
use Rattle.testing_rules_live.specs.steps.LiveSources.{name_of}
use Rattle.testing_rules_items.specs.Words.{byte_cmp}
use Rattle.testing_rules_live.specs.declared.live_sources.Slot.{Slot}
use Rattle.testing_rules_live.proofs.live_sources.place_near.Goals as goal

pub returns-clause-found : goal.returns-clause-found
returns-clause-found c =
    let name = c.args.name.now in
    c.search_near.ensures.found (λ (s : Slot). byte_cmp (name_of s) name) (always_returns_same _ _ _ (λ a r f k. search (rules, of_calls)))
