use Rattle.std.proofs.Common.{◌≡◌, ◌++◌, ◌∷◌, codes, string_bytes, take}
use Rattle.std.specs.List.{flat_map}
use Rattle.testing_rules_model.specs.declared.update.Moved.{Moved}
use Rattle.office_core_outcome.proofs.grouped.easy_text.Given as goal

-- the words so far
abbrev pub invariant-loop-moved : goal.invariant-loop-moved
invariant-loop-moved l = string_bytes l.text ≡ codes "easy" ++ flat_map (λ (m : Moved). 32 ∷ m.name ++ 47 ∷ m.version) (take l.moved-index l.group)
