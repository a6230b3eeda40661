use Rattle.std.proofs.Common.{sym, ◌∙◌}
use Rattle.std.proofs.lemmas.Bool.{false≢true}
use Rattle.std.proofs.lemmas.Slice.Eq.{bytes_eq-Decides}
use Rattle.testing_rules_model.specs.JudgedRows.{row_of}
use Rattle.testing_rules_refusals.proofs.shown.is_another.Goals as goal

pub returns : goal.returns
returns c = λ off named.
    absurd (false≢true (sym off ∙ c.is_of_name.ensures ∙ (bytes_eq-Decides (row_of c.args.row.now).binary.name c.args.name.now).1 named))
