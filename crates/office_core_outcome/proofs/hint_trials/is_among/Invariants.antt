use Rattle.std.proofs.Common.{◌≡◌, drop, List, Bool}
use Rattle.std.specs.List.{list_any}
use Rattle.std.specs.Str.{bytes_eq}
use Rattle.testing_rules_model.specs.declared.update.Moved.{Moved}
use Rattle.office_core_outcome.proofs.hint_trials.is_among.Given as goal

-- the rest decides
abbrev pub invariant-loop-item : goal.invariant-loop-item
invariant-loop-item l =
    let any : List Moved → Bool = list_any (λ m. bytes_eq m.name l.source) in
    any (drop l.item-index l.items) ≡ any l.items
