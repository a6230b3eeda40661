use Rattle.std.proofs.Common.{◌≡◌, filter, take}
use Rattle.testing_rules_model.specs.JudgedRows.{lent}
use Rattle.testing_rules_refusals.specs.Needs.{is_provider}
use Rattle.testing_rules_refusals.proofs.providers.providers_among.Given as goal

-- those so far
abbrev pub invariant-loop-number : goal.invariant-loop-number
invariant-loop-number l = l.providers.items ≡ filter (is_provider (lent l.rows) l.steps l.clause) (take l.number-index l.numbers)
