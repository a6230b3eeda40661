use Rattle.std.proofs.Common.{◌∙◌}
use Rattle.testing_rules_live.proofs.LiveSlots.{by_name}
use Rattle.testing_rules_live.proofs.live_sources.LiveSources.move_group.Goals as goal

pub returns-clause-ordered : goal.returns-clause-ordered
returns-clause-ordered c = by_name c.move_sources.new.slots.items c.move_sources.ensures.ordered
