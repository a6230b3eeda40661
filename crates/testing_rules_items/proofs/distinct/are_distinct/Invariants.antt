use Rattle.std.proofs.Common.{◌≡◌, drop}
use Rattle.testing_rules_items.specs.Distinct.{is_distinct}
use Rattle.deb_control.proofs.Each.{texts}
use Rattle.testing_rules_items.proofs.distinct.are_distinct.Given as goal

-- those so far stand nowhere behind
abbrev pub invariant-texts : goal.invariant-texts
invariant-texts l = is_distinct (texts (drop l.i l.texts)) ≡ is_distinct (texts l.texts)
