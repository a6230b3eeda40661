use Rattle.std.proofs.Common.{Ok, ℕ}
use Rattle.std.proofs.lemmas.Iterator.Consumers.{map_from_collect}
use Rattle.std.proofs.lemmas.Iterator.Splits.{YieldsList-from_lines}
use Rattle.testing_rules_reports.proofs.lines.lines_of.Goals as goal

pub returns : goal.returns
returns c = map_from_collect {E = ℕ} (Ok c.in_ok-found.found) c.in_ok-found.ensures.ran (YieldsList-from_lines c.args.text.now c.lines.ensures.rest)
