use Rattle.std.proofs.Common.{◌≡◌, ◌++◌, string_bytes, take, filter}
use Rattle.std.specs.List.{flat_map}
use Rattle.testing_rules_model.specs.Unstable.{is_in_force}
use Rattle.office_mail.specs.Runs.{cover_of}
use Rattle.office_core_why.specs.Hints.{hint_lines}
use Rattle.office_core_why.proofs.hints.push_hints.Given as goal

-- the text so far
abbrev pub invariant-loop-hint : goal.invariant-loop-hint
invariant-loop-hint l = string_bytes l.text ≡ string_bytes l.fn.text ++ flat_map (hint_lines l.context.setup.now (cover_of l.context.orders.now) l.context.facts.now.sources l.context.testing.now) (filter (is_in_force l.context.facts.now.unhints) (take l.hint-index l.hints))
