use Rattle.std.proofs.Common.{ap, ◌∙◌}
use Rattle.std.specs.List.{cons_option}
use Rattle.testing_rules_model.specs.Covered.{drops_in}
use Rattle.testing_rules_model.proofs.MoreMail.{chosen_drops, drops-more}
use Rattle.testing_rules_laws.proofs.laws.drop_puts_one.Goals as goal

pub returns : goal.returns
returns c = λ s m d h. ap (λ o. chosen_drops (cons_option o (drops_in s))) h ∙ drops-more d (drops_in s)
