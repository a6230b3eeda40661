use Rattle.std.proofs.Common.{◌∙◌, sym}
use Rattle.testing_rules_model.specs.JudgedRows.{row_of}
use Rattle.testing_rules_model.specs.Unstable.{is_current}
use Rattle.testing_rules_items.proofs.Tests.{list_any-map}
use Rattle.testing_rules_excuses.proofs.reasons.has_current.Goals as goal

pub returns : goal.returns
returns c = c.one_current.ensures ∙ sym (list_any-map (is_current c.args.upload.now) row_of c.args.rows.now)
