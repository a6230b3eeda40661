use Rattle.std.specs.Prelude.{filter}
use Rattle.std.specs.Str.{bytes_eq}
use Rattle.testing_rules_model.specs.declared.facts.UploadIn.{UploadIn}
use Rattle.testing_rules_model.specs.Covered.{uploads_in}
use Rattle.testing_rules_model.proofs.Orders.{upload_total}
use Rattle.testing_rules_model.proofs.First.{least-none_below}
use Rattle.testing_rules_laws.proofs.laws.unstable_source_is_first.Goals as goal

pub returns : goal.returns
returns c = λ s name u h. least-none_below upload_total (filter (λ (v : UploadIn). bytes_eq v.source name) (uploads_in s)) u h
