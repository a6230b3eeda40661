use Rattle.std.proofs.Common.{◌≡◌, ◌++◌, filter, map}
use Rattle.std.specs.List.{range_with_len}
use Rattle.testing_rules_model.specs.Excuses.{is_missing_on}
use Rattle.testing_rules_model.specs.JudgedRows.{lent}
use Rattle.testing_rules_model.specs.declared.excuse.Reason.TheVariants.{MissingOn}
use Rattle.testing_rules_excuses.proofs.reasons.push_missing.Given as goal

-- those so far
abbrev pub invariant-loop-arch : goal.invariant-loop-arch
invariant-loop-arch l = l.reasons.items ≡ l.fn.reasons.items ++ map (λ a. MissingOn a) (filter (is_missing_on (lent l.rows) l.upload) (range_with_len 0 l.arch))
