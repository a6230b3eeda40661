use Rattle.std.proofs.Common.{rules, of_calls}
use Rattle.std.proofs.lemmas.Fn.{always_returns_same}
use Rattle.testing_rules_model.specs.declared.facts.UploadIn.{UploadIn}
use Rattle.testing_rules_fact_order.specs.Uploads.{message_order}
use Rattle.testing_rules_fact_order.proofs.uploads.place_of_kept.Goals as goal

pub returns-clause-found : goal.returns-clause-found
returns-clause-found c = c.binary_search_by.ensures.position (λ (u : UploadIn). message_order u c.args.upload.now) (always_returns_same _ _ _ (λ a r f k. search (rules, of_calls)))
