use Rattle.std.proofs.Common.{rules, of_calls}
use Rattle.std.proofs.lemmas.Fn.{filter_same}
use Rattle.testing_rules_model.specs.KeptFacts.{counts_beside}
use Rattle.testing_rules_fact_order.specs.steps.Trimming.{with_sources}
use Rattle.testing_rules_fact_order.proofs.trims.trim_uploads.Goals as goal

pub returns-clause-uploads : goal.returns-clause-uploads
returns-clause-uploads c = filter_same _ (counts_beside (with_sources c.args.sources.now)) _ (λ x b f r. search (rules, of_calls)) _ _ c.retain.ensures.filtered
