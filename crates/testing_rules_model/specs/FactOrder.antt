-- The order in which facts are kept.
use Rattle.std.specs.Prelude.{List, map}
use Rattle.std.specs.List.Sorted.{IsStrictlySortedBy}
use Rattle.testing_rules_model.specs.declared.facts.UploadIn.{UploadIn}
use Rattle.testing_rules_model.specs.declared.facts.BuildIn.{BuildIn}
use Rattle.testing_rules_items.specs.Words.{byte_cmp}
use Rattle.testing_rules_model.specs.Unstable.{pair_order, pair_of}

-- uploads in byte order of their sources, each source once
abbrev pub AreBySource : List UploadIn → Type 0
AreBySource uploads = IsStrictlySortedBy byte_cmp (map (λ u. u.source) uploads)

-- builds by architecture and then in byte order of their names, each pair once
abbrev pub AreByPair : List BuildIn → Type 0
AreByPair builds = IsStrictlySortedBy pair_order (map pair_of builds)
