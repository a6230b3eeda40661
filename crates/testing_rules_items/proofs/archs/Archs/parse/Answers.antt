use Rattle.std.proofs.Common.{sym, subst, ◌∙◌}
use Rattle.testing_rules_items.specs.Archs.{IsArchs}
use Rattle.testing_rules_items.proofs.ArchFacts.{archs_kept, few_texts}
use Rattle.deb_control.proofs.Each.{texts}
use Rattle.testing_rules_items.proofs.archs.Archs.parse.Goals as goal

pub invariant_of-result : goal.invariant_of-result
invariant_of-result c =
    subst IsArchs (sym c.in_ok-names.ensures) (archs_kept (texts c.args.names.now) (sym c.are_archs.ensures ∙ c.if-not-are_archs.false) (few_texts _ c.if-names-gt16.false))
