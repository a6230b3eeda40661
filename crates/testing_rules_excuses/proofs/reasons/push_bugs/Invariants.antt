use Rattle.std.proofs.Common.{◌≡◌, ◌++◌, take, filter, map}
use Rattle.std.specs.Option.{option_copied}
use Rattle.testing_rules_model.specs.Excuses.{is_new_bug}
use Rattle.testing_rules_model.specs.declared.excuse.Reason.TheVariants.{NewBug}
use Rattle.testing_rules_excuses.proofs.reasons.push_bugs.Given as goal

-- those so far
abbrev pub invariant-loop-bug : goal.invariant-loop-bug
invariant-loop-bug l = l.reasons.items ≡ l.fn.reasons.items ++ map (λ b. NewBug b.bug) (filter (is_new_bug (option_copied l.testing) l.upload) (take l.bug-index l.bugs))
