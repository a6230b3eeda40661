use Rattle.std.proofs.Common.{◌≡◌, drop}
use Rattle.std.specs.List.{list_any}
use Rattle.std.specs.Str.{bytes_eq}
use Rattle.deb_control.proofs.Each.{texts}
use Rattle.testing_rules_items.proofs.distinct.contains_text.Given as goal

-- the text stands among those that are left, if anywhere
abbrev pub invariant-texts : goal.invariant-texts
invariant-texts l = list_any (bytes_eq l.text) (texts (drop l.other-index l.texts)) ≡ list_any (bytes_eq l.text) (texts l.texts)
