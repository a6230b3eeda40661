-- The state of a row of unstable that would help a waiting source (this office decides which states exist).
use Rattle.std.specs.Prelude.{Bool, false, if◌then◌else◌, List, find, Option}
use Rattle.std.specs.Option.{option_map_or}
use Rattle.std.specs.Str.{bytes_eq}
use Rattle.testing_rules_items.specs.Words.{Text, is_empty}
use Rattle.testing_rules_model.specs.declared.excuse.Excuse.{Excuse}
use Rattle.testing_rules_model.specs.declared.facts.UploadIn.{UploadIn}
use Rattle.testing_rules_model.specs.declared.suite.RowIn.{RowIn}
use Rattle.testing_rules_model.specs.Moves.{source_in}
use Rattle.testing_rules_model.specs.Unstable.{is_current}
use Rattle.testing_rules_excuses.specs.declared.states.State.{State}
use Rattle.testing_rules_excuses.specs.declared.states.State.TheVariants.{Waits, NotCandidate, NotCurrent, ComesToo, InTesting}

-- the excuse of a source
abbrev pub excuse_of : List Excuse → Text → Option Excuse
excuse_of excuses name = find (λ e. bytes_eq e.source name) excuses

-- a source with an excuse waits if it is a candidate, else it has reasons (Debian Developer's Reference 5.13.2)
abbrev pub excused : Excuse → State
excused e = if is_empty e.reasons then Waits else NotCandidate e.reasons

-- a current row comes with its source; a source without an excuse has nothing to move (Debian Developer's Reference 5.13.2)
abbrev pub current_state : List Excuse → Text → Text → State
current_state excuses moving name = if bytes_eq name moving then ComesToo else option_map_or excused (excuse_of excuses name) InTesting

-- the row was built from its source's unstable version (Debian Developer's Reference 5.13.2.1)
abbrev pub is_current_in : List UploadIn → RowIn → Bool
is_current_in sources r = option_map_or (λ u. is_current u r) (source_in sources r.binary.source) false

-- the state of a row of unstable, with one source in question
abbrev pub state_of : List UploadIn → List Excuse → Text → RowIn → State
state_of sources excuses moving r = if is_current_in sources r then current_state excuses moving r.binary.source else NotCurrent
