use Rattle.std.proofs.Common.{ap, ◌∙◌}
use Rattle.std.specs.List.{cons_option}
use Rattle.testing_rules_model.specs.Covered.{bugs_in}
use Rattle.testing_rules_model.proofs.MoreMail.{chosen_bugs, bugs-more}
use Rattle.testing_rules_laws.proofs.laws.bug_puts_one.Goals as goal

pub returns : goal.returns
returns c = λ s m b h. ap (λ o. chosen_bugs (cons_option o (bugs_in s))) h ∙ bugs-more b (bugs_in s)
