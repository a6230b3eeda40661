use Rattle.std.proofs.Common.{ap, ◌∙◌}
use Rattle.std.specs.List.{cons_option}
use Rattle.testing_rules_model.specs.Covered.{uploads_in}
use Rattle.testing_rules_model.proofs.MoreMail.{chosen_sources, sources-more}
use Rattle.testing_rules_laws.proofs.laws.upload_puts_one.Goals as goal

pub returns : goal.returns
returns c = λ s m u h. ap (λ o. chosen_sources (cons_option o (uploads_in s))) h ∙ sources-more u (uploads_in s)
