-- Messages of the worked rows.
use Rattle.std.specs.Prelude.{ℕ, ◌≤◌, List, [], ◌∷◌, ◌++◌, Option, Some, None, codes, pos}
use Rattle.std.specs.List.{flat_map}
use Rattle.std.proofs.Common.{lit≤}
use Rattle.jiff_core.specs.declared.civil.date.Date.{Date}
use Rattle.testing_rules_items.specs.Words.{Text}
use Rattle.deb_control.specs.declared.binary.Binary.{Binary}
use Rattle.deb_control.specs.declared.relation.Alternative.{Alternative}
use Rattle.deb_control.specs.declared.relation.Provision.{Provision}
use Rattle.testing_rules_items.specs.declared.item.Urgency.{Urgency}
use Rattle.testing_rules_items.specs.declared.item.Hint.{Hint}
use Rattle.testing_rules_items.specs.declared.item.HintItem.{HintItem}
use Rattle.deb_control.specs.declared.relation.Op.{Op}
use Rattle.testing_rules_items.specs.declared.item.Severity.{Severity}
use Rattle.testing_rules_items.specs.declared.item.Item.TheVariants.{Upload, Dropped, Build, Bug, Hint as Hinted, Unhint, Delays}
use Rattle.testing_rules_model.specs.Suite.{Suite}
use Rattle.testing_rules_model.specs.Covered.{CoveredItem, Covered}
use Rattle.testing_rules_model.specs.Excuses.{excuses_of}
use Rattle.testing_rules_model.specs.Updates.{update_of}
use Rattle.testing_rules_reports.specs.Reports.{excuses_text, update_text, testing_text}

abbrev pub march : (d : ℕ) → 1 ≤ d → d ≤ 31 → Date
march d low high = record { year = pos 2025; month = 3; day = d; year_in = (record { le = tt }, record { le = tt }); month_in = (lit≤ tt, lit≤ tt); day_in = (low, high) }

-- texts joined, each with a line feed
abbrev pub lines : List Text → Text
lines ls = flat_map (λ l. l ++ 10 ∷ []) ls

abbrev pub two_archs : List Text
two_archs = codes "amd64" ∷ codes "arm64" ∷ []

abbrev pub nothing_yet : Suite
nothing_yet = record { sources = []; rows = [] }

-- a binary of its source's name and version
abbrev pub binary_at : Text → Text → Text → List (List Alternative) → List Provision → Binary
binary_at name version arch clauses provides =
    record { name = name; version = version; architecture = arch; source = name; source_version = version; clauses = clauses; provides = provides }

abbrev pub upload : ℕ → Text → Text → Urgency → Date → CoveredItem
upload n source version urgency day = record { sender = 0; number = n; item = Upload source version urgency day }

abbrev pub build : ℕ → List Binary → CoveredItem
build n binaries = record { sender = 1; number = n; item = Build binaries }

abbrev pub hint : ℕ → Hint → CoveredItem
hint n h = record { sender = 3; number = n; item = Hinted h }

abbrev pub named : Text → Text → HintItem
named name version = record { name = name; version = version }

abbrev pub drop : ℕ → Text → Text → Text → CoveredItem
drop n name arch version = record { sender = 0; number = n; item = Dropped name arch version }

abbrev pub bug : ℕ → ℕ → Text → Severity → Option Text → Option Text → CoveredItem
bug n number source severity found fixed = record { sender = 2; number = n; item = Bug number source severity found fixed }

abbrev pub unhint : ℕ → ℕ → CoveredItem
unhint n number = record { sender = 3; number = n; item = Unhint number }

abbrev pub delays : ℕ → ℕ → ℕ → ℕ → ℕ → CoveredItem
delays n low medium high critical = record { sender = 3; number = n; item = Delays low medium high critical }

-- a dependency on one name, and one with a version
abbrev pub on : Text → List Alternative
on name = record { name = name; relation = None } ∷ []

abbrev pub on_version : Text → Op → Text → List Alternative
on_version name op version = record { name = name; relation = Some (record { op = op; version = version }) } ∷ []

-- the testing that a run leaves
abbrev pub after : Covered → Suite → Date → Suite
after s t date = (update_of two_archs s (excuses_of two_archs s t date) t).suite

-- both reports of a run, and the testing text after it
abbrev pub reports : ℕ → Covered → Suite → Date → Text
reports run s t date =
    let es = excuses_of two_archs s t date in
    let o = update_of two_archs s es t in
    excuses_text two_archs run date es ++ update_text two_archs run date o.decisions ++ testing_text two_archs run o.suite

-- the lines of the update alone
abbrev pub update_lines : ℕ → Covered → Suite → Date → Text
update_lines run s t date = update_text two_archs run date (update_of two_archs s (excuses_of two_archs s t date) t).decisions
