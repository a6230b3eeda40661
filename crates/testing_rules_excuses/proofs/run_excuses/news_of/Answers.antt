use Rattle.std.proofs.Common.{arith, ◌≤◌, length}
use Rattle.std.proofs.lemmas.List.{take_all}
use Rattle.testing_rules_excuses.proofs.run_excuses.news_of.Goals as goal

pub returns : goal.returns
returns c =
    let over : length c.args.sources.now ≤ c.sources.upload-index = omega arith in
    rw (take_all c.sources.upload-index c.args.sources.now over) at c.sources.invariant
