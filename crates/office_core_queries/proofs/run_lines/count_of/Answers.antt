use Rattle.std.proofs.Common.{rules, tests}
use Rattle.std.proofs.lemmas.Iterator.Adapters.{YieldsList-from_skip}
use Rattle.std.proofs.lemmas.Iterator.Consumers.{YieldsList-at, YieldsList-from_filter, count_from_yields_List}
use Rattle.std.proofs.lemmas.Iterator.Splits.{YieldsList-from_lines}
use Rattle.office_core_queries.specs.RunLines.{is_line}
use Rattle.office_core_queries.proofs.run_lines.count_of.Goals as goal

pub returns : goal.returns
returns c = count_from_yields_List c.filter.result _ c.count.ensures.ran
    (YieldsList-from_filter _ (is_line c.args.kind) (YieldsList-at c.filter.ensures.source (YieldsList-from_skip 1 (YieldsList-at c.skip.ensures.source (YieldsList-from_lines c.args.report.now c.lines.ensures.rest)) c.skip.ensures.count)) c.filter.ensures.closure (λ x r q k. search (rules, tests)))
