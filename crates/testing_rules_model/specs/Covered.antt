-- The covered messages of a run, all that its rules may see. This office decides that the rules go by mail. The mail
-- says what Debian's archive, builders, bug tracker and release team know (Debian Developer's Reference 5.13).
use Rattle.std.specs.Prelude.{ℕ, ◌+◌, List, [], ◌∷◌, Option, Some, None}
use Rattle.std.specs.List.{filter_map, flat_map}
use Rattle.deb_control.specs.declared.binary.Binary.{Binary}
use Rattle.testing_rules_items.specs.declared.item.Item.{Item}
use Rattle.testing_rules_items.specs.declared.item.Item.TheVariants.{Upload, Dropped, Build, Bug, Hint, Unhint, Delays}
use Rattle.testing_rules_model.specs.declared.facts.UploadIn.{UploadIn}
use Rattle.testing_rules_model.specs.declared.facts.BuildIn.{BuildIn}
use Rattle.testing_rules_model.specs.declared.facts.DropIn.{DropIn}
use Rattle.testing_rules_model.specs.declared.facts.BugIn.{BugIn}
use Rattle.testing_rules_model.specs.declared.facts.HintIn.{HintIn}
use Rattle.testing_rules_model.specs.declared.facts.UnhintIn.{UnhintIn}
use Rattle.testing_rules_model.specs.declared.facts.DelaysIn.{DelaysIn}

-- a message: its sender as a place in the setup, its number, and its content
pub record CoveredItem : Type 0 where
  pub sender : ℕ
  pub number : ℕ
  pub item : Item

-- a set of messages, in any order
abbrev pub Covered : Type 0
Covered = List CoveredItem

-- The content of messages, kind by kind.

-- an upload (Debian Policy 5.6.12, its version; 5.6.17, its urgency)
abbrev pub upload_of : CoveredItem → Option UploadIn
upload_of m =
    elim m.item [ Upload source version urgency day ↦ Some (record { source = source; version = version; urgency = urgency; day = day; sender = m.sender; number = m.number }) | _ ↦ None ]

-- a drop: a binary package that left unstable on an architecture (this office decides that mail reports it)
abbrev pub drop_of : CoveredItem → Option DropIn
drop_of m =
    elim m.item [ Dropped name arch version ↦ Some (record { name = name; arch = arch; version = version; sender = m.sender; number = m.number }) | _ ↦ None ]

-- a bug (Debian Developer's Reference 5.13.2)
abbrev pub bug_of : CoveredItem → Option BugIn
bug_of m =
    elim m.item [
      | Bug bug source severity found fixed ↦ Some (record { bug = bug; source = source; severity = severity; found = found; fixed = fixed; sender = m.sender; number = m.number })
      | _ ↦ None
    ]

-- a hint (its words are named after britney2's hints; this office decides that it comes by mail)
abbrev pub hint_of : CoveredItem → Option HintIn
hint_of m = elim m.item [ Hint h ↦ Some (record { hint = h; sender = m.sender; number = m.number }) | _ ↦ None ]

-- an unhint (this office decides it)
abbrev pub unhint_of : CoveredItem → Option UnhintIn
unhint_of m = elim m.item [ Unhint n ↦ Some (record { cancels = n; sender = m.sender; number = m.number }) | _ ↦ None ]

-- delays (this office decides that mail reports them)
abbrev pub delays_of : CoveredItem → Option DelaysIn
delays_of m = elim m.item [
  | Delays low medium high critical ↦ Some (record { delays = record { low = low; medium = medium; high = high; critical = critical }; sender = m.sender; number = m.number })
  | _ ↦ None
]

-- the binaries of a build, with places counted from the given one
abbrev pub placed_from : ℕ → ℕ → ℕ → List Binary → List BuildIn
placed_from place sender number [] = []
placed_from place sender number (b ∷ bs) =
    record { binary = b; sender = sender; number = number; place = place } ∷ placed_from (place + 1) sender number bs

-- the binaries of a build (Debian Policy 5.6.8, 7.1 and 7.5), from place 1
abbrev pub builds_of : CoveredItem → List BuildIn
builds_of m = elim m.item [ Build binaries ↦ placed_from 1 m.sender m.number binaries | _ ↦ [] ]

-- the uploads in a set of messages (this office decides these lists)
abbrev pub uploads_in : Covered → List UploadIn
uploads_in s = filter_map upload_of s

-- the builds in a set of messages, by their binaries
abbrev pub builds_in : Covered → List BuildIn
builds_in s = flat_map builds_of s

-- the drops in a set of messages
abbrev pub drops_in : Covered → List DropIn
drops_in s = filter_map drop_of s

-- the messages on bugs in a set of messages
abbrev pub bugs_in : Covered → List BugIn
bugs_in s = filter_map bug_of s

-- the hints in a set of messages
abbrev pub hints_in : Covered → List HintIn
hints_in s = filter_map hint_of s

-- the unhints in a set of messages
abbrev pub unhints_in : Covered → List UnhintIn
unhints_in s = filter_map unhint_of s

-- the messages on delays in a set of messages
abbrev pub delays_in : Covered → List DelaysIn
delays_in s = filter_map delays_of s
