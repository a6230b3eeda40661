use Rattle.std.proofs.Common.{◌≡◌, ap, ◌∙◌}
use Rattle.std.specs.Prelude.{not, filter}
use Rattle.std.specs.Str.{bytes_eq}
use Rattle.testing_rules_model.specs.declared.suite.SourceIn.{SourceIn}
use Rattle.testing_rules_live.specs.steps.LiveSources.{sources_of}
use Rattle.testing_rules_live.proofs.LiveSlots.{by_name, sources-left}
use Rattle.testing_rules_live.proofs.live_sources.LiveSources.remove.Goals as goal

pub returns-clause-sources : goal.returns-clause-sources
returns-clause-sources c =
    let name = c.args.name.now in
    ap sources_of c.take_slot.ensures.slots ∙ sources-left name c.self.inside.slots.items ∙ ap (filter (λ (x : SourceIn). not (bytes_eq x.name name))) c.self.view_is

pub returns-clause-ordered : goal.returns-clause-ordered
returns-clause-ordered c = by_name c.take_slot.new.slots.items c.take_slot.ensures.ordered
