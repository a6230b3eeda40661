use Rattle.std.proofs.Common.{◌≡◌, take}
use Rattle.deb_control.proofs.Each.{texts}
use Rattle.testing_rules_items.proofs.archs.texts.Given as goal

-- the texts so far
abbrev pub invariant-names : goal.invariant-names
invariant-names l = l.texts.items ≡ texts (take l.name-index l.names)
