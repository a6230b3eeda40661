use Rattle.std.proofs.Common.{ap, ◌∙◌}
use Rattle.std.proofs.lemmas.Iterator.Splits.{YieldsList-from_lines}
use Rattle.office_core_queries.specs.RunLines.{word_at}
use Rattle.office_core_queries.proofs.ReadItems.{now_or, first_of}
use Rattle.office_core_queries.proofs.run_lines.date_of.Goals as goal

pub returns : goal.returns
returns c = c.word_at.ensures ∙ ap (word_at 2) (ap (λ r. r.now) c.unwrap_or.ensures ∙ now_or _ _ _ (first_of _ _ c.next.ensures.steps (YieldsList-from_lines c.args.report.now c.lines.ensures.rest)))
