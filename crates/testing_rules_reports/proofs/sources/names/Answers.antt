use Rattle.std.proofs.Common.{lit<, rules, of_calls}
use Rattle.std.specs.Str.{bytes_eq}
use Rattle.std.proofs.lemmas.Iterator.Adapters.{YieldsList-from_skip}
use Rattle.std.proofs.lemmas.Iterator.Consumers.{YieldsList-at}
use Rattle.std.proofs.lemmas.Iterator.Search.{any_from_yields_List}
use Rattle.std.proofs.lemmas.Iterator.Splits.{YieldsList-from_str_split}
use Rattle.testing_rules_reports.proofs.sources.names.Goals as goal

pub returns : goal.returns
returns c =
    any_from_yields_List (bytes_eq c.args.name.now) _ _ _ c.any.ensures.ran
    (YieldsList-from_skip 1 (YieldsList-at c.skip.ensures.source (YieldsList-from_str_split 32 c.args.line.now (lit< tt) c.split.ensures.text c.split.ensures.has_more c.split.ensures.pattern)) c.skip.ensures.count)
    (λ x b q r. search (rules, of_calls))
