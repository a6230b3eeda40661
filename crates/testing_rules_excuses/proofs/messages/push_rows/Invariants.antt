use Rattle.std.proofs.Common.{◌≡◌, ◌++◌, take, map}
use Rattle.testing_rules_model.specs.JudgedRows.{lent}
use Rattle.testing_rules_excuses.specs.Origins.{from_rows}
use Rattle.testing_rules_excuses.specs.steps.Origins.{origin_of}
use Rattle.testing_rules_excuses.proofs.messages.push_rows.Given as goal

-- those so far
abbrev pub invariant-loop-row : goal.invariant-loop-row
invariant-loop-row l = map origin_of l.origins.items ≡ map origin_of l.fn.origins.items ++ from_rows l.upload l.arch (lent (take l.row-index l.rows))
