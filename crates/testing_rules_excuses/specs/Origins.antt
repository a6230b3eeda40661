-- The messages that gave a reason to keep a source out (Debian Developer's Reference 5.13.2; this office decides to
-- know each fact with its message).
use Rattle.std.specs.Prelude.{ℕ, ◌==◌, ◌&&◌, ◌||◌, Bool, false, List, [], filter, map, Option, None, is_some}
use Rattle.std.specs.List.{last_or}
use Rattle.std.specs.Option.{option_map_or}
use Rattle.testing_rules_items.specs.Words.{Text}
use Rattle.testing_rules_model.specs.declared.excuse.Reason.{Reason}
use Rattle.testing_rules_model.specs.declared.excuse.Reason.TheVariants.{TooYoung, NewBug, NoBinaries, MissingOn, Blocked, RemovalAsked}
use Rattle.testing_rules_model.specs.declared.facts.BugIn.{BugIn}
use Rattle.testing_rules_model.specs.declared.facts.HintIn.{HintIn}
use Rattle.testing_rules_model.specs.declared.facts.UploadIn.{UploadIn}
use Rattle.testing_rules_model.specs.declared.suite.RowIn.{RowIn}
use Rattle.testing_rules_model.specs.Excuses.{asked_days, blocks, removes}
use Rattle.testing_rules_model.specs.Unstable.{is_of_source}
use Rattle.testing_rules_excuses.specs.Said.{SaidLists}

-- a message that gave a reason
pub data OriginIn : Type 0 where
  FromBug : BugIn → OriginIn
  FromRow : RowIn → OriginIn
  FromBlock : HintIn → OriginIn
  FromRemoval : HintIn → OriginIn

-- the last message on the bug (Debian Developer's Reference 5.13.2)
abbrev pub from_bugs : ℕ → List BugIn → List OriginIn
from_bugs number bugs = map (λ b. FromBug b) (filter (λ b. b.bug == number) bugs)

-- the row is of the architecture and names the source
abbrev pub is_row_of : UploadIn → ℕ → RowIn → Bool
is_row_of u arch r = (r.arch == arch) && is_of_source u r

-- the source's rows on an architecture where none is current: it is out of date there (Debian Developer's Reference
-- 5.13.2.1)
abbrev pub from_rows : UploadIn → ℕ → List RowIn → List OriginIn
from_rows u arch rows = map (λ r. FromRow r) (filter (is_row_of u arch) rows)

-- the hints in force that keep the source out (named after britney2's `block` and `block-all`)
abbrev pub from_blocks : UploadIn → List HintIn → List OriginIn
from_blocks u hints = map (λ h. FromBlock h) (filter (λ h. blocks u.source h.hint) hints)

-- the hint asks to remove the source, at its unstable version or at testing's (this office decides it)
abbrev pub asks_removal : UploadIn → Option Text → HintIn → Bool
asks_removal u testing h = removes u.source u.version h.hint || option_map_or (λ v. removes u.source v h.hint) testing false

-- the hints in force that ask to remove it (named after britney2's `remove`)
abbrev pub from_removals : UploadIn → Option Text → List HintIn → List OriginIn
from_removals u testing hints = map (λ h. FromRemoval h) (filter (asks_removal u testing) hints)

-- the messages that gave the reason; no single message makes a source too young or leaves it without binaries
abbrev pub origins_of : SaidLists → UploadIn → Reason → List OriginIn
origins_of said u TooYoung = []
origins_of said u (NewBug n) = from_bugs n said.bugs
origins_of said u NoBinaries = []
origins_of said u (MissingOn arch) = from_rows u arch said.rows
origins_of said u Blocked = from_blocks u said.hints
origins_of said u RemovalAsked = from_removals u said.testing said.hints

-- the hint asks for days for the source at its unstable version
abbrev pub asks_days : UploadIn → HintIn → Bool
asks_days u h = is_some (asked_days u.source u.version h.hint)

-- the last hint that asks for days for the source at its unstable version (this office decides which)
abbrev pub age_hint : List HintIn → UploadIn → Option HintIn
age_hint hints u = last_or None (filter (asks_days u) hints)
