use Rattle.std.proofs.Common.{◌≡◌, drop}
use Rattle.std.specs.List.{list_all}
use Rattle.testing_rules_items.specs.Archs.{is_arch_name}
use Rattle.deb_control.proofs.Each.{texts}
use Rattle.testing_rules_items.proofs.arch_names.are_arch_names.Given as goal

-- those so far are good
abbrev pub invariant-names : goal.invariant-names
invariant-names l = list_all is_arch_name (texts (drop l.name-index l.names)) ≡ list_all is_arch_name (texts l.names)
