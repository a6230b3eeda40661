-- The origins of the reasons that keep a source out (Debian Developer's Reference 5.13.2), in lines that each end with
-- a line feed. This office decides their form.
use Rattle.std.specs.Prelude.{◌≡◌, ℕ, Bool, true, false, if◌then◌else◌, List, [], ◌∷◌, ◌++◌, codes, decimal, Option, Some, None, slice_index_or}
use Rattle.std.specs.List.{flat_map}
use Rattle.jiff_core.specs.declared.civil.date.Date.{Date}
use Rattle.jiff.specs.Words.{date_text}
use Rattle.testing_rules_items.specs.Words.{Text, arch_name}
use Rattle.testing_rules_model.specs.declared.excuse.Excuse.{Excuse}
use Rattle.testing_rules_model.specs.declared.excuse.Reason.{Reason}
use Rattle.testing_rules_model.specs.declared.excuse.Reason.TheVariants.{TooYoung, NewBug, NoBinaries, MissingOn, Blocked, RemovalAsked}
use Rattle.testing_rules_model.specs.declared.facts.BugIn.{BugIn}
use Rattle.testing_rules_model.specs.declared.facts.HintIn.{HintIn}
use Rattle.testing_rules_model.specs.declared.facts.UploadIn.{UploadIn}
use Rattle.testing_rules_model.specs.declared.suite.RowIn.{RowIn}
use Rattle.testing_rules_excuses.specs.Readiness.{IsReady}
use Rattle.testing_rules_excuses.specs.Origins.{OriginIn, FromBug, FromRow, FromBlock, FromRemoval, origins_of, age_hint}
use Rattle.testing_rules_excuses.specs.Said.{SaidLists}

-- the name of the sender at a place, or empty without one
abbrev pub sender_name : List Text → ℕ → Text
sender_name senders place = slice_index_or senders place []

-- the line on the upload of the unstable source: its sender, number and day
abbrev pub upload_line : List Text → UploadIn → Text
upload_line senders u = codes "upload " ++ sender_name senders u.sender ++ 32 ∷ decimal u.number ++ 32 ∷ date_text u.day ++ 10 ∷ []

-- the end of a line: the message that is its origin
abbrev pub by_message : List Text → ℕ → ℕ → Text
by_message senders sender number = codes " by " ++ sender_name senders sender ++ 32 ∷ decimal number ++ 10 ∷ []

-- the day, or nothing if it is after the last date that can be written
abbrev pub day_words : Option Date → Text
day_words (Some day) = codes " on " ++ date_text day
day_words None = []

-- the end of a line: what sets the needed days, a hint or else the urgency
abbrev pub setter_words : List Text → Option HintIn → Text
setter_words senders (Some h) = by_message senders h.sender h.number
setter_words senders None = codes " by urgency" ++ 10 ∷ []

-- the line on the day on which the source is old enough
abbrev pub old_enough_line : List Text → Option HintIn → Option Date → Text
old_enough_line senders hint ready = codes "old enough" ++ day_words ready ++ setter_words senders hint

-- the line on the last message on a bug
abbrev pub bug_line : List Text → BugIn → Text
bug_line senders b = codes "new bug " ++ decimal b.bug ++ by_message senders b.sender b.number

-- a binary's name and version, and the version of its source
abbrev pub binary_words : RowIn → Text
binary_words r = r.binary.name ++ 32 ∷ r.binary.version ++ codes " of " ++ r.binary.source_version

-- the line on a row that isn't current (Debian Developer's Reference 5.13.2.1)
abbrev pub row_line : List Text → List Text → RowIn → Text
row_line senders archs r = codes "missing on " ++ arch_name archs r.arch ++ 32 ∷ binary_words r ++ by_message senders r.sender r.number

-- the line on a hint, in these words
abbrev pub hint_line : List Text → Text → HintIn → Text
hint_line senders words h = words ++ by_message senders h.sender h.number

-- the line on a message that gave a reason
abbrev pub origin_line : List Text → List Text → OriginIn → Text
origin_line senders archs (FromBug b) = bug_line senders b
origin_line senders archs (FromRow r) = row_line senders archs r
origin_line senders archs (FromBlock h) = hint_line senders (codes "blocked") h
origin_line senders archs (FromRemoval h) = hint_line senders (codes "removal asked") h

-- the upload still has to wait
abbrev pub is_too_young : Reason → Bool
is_too_young TooYoung = true
is_too_young (NewBug n) = false
is_too_young NoBinaries = false
is_too_young (MissingOn arch) = false
is_too_young Blocked = false
is_too_young RemovalAsked = false

-- the lines on a reason: the day on which the source is old enough, or the messages that gave the reason
abbrev pub reason_text : List Text → List Text → SaidLists → UploadIn → Option Date → Reason → Text
reason_text senders archs said u ready reason =
    if is_too_young reason then old_enough_line senders (age_hint said.hints u) ready else flat_map (origin_line senders archs) (origins_of said u reason)

-- the lines on the reasons of an excuse, in its order; none without an excuse
abbrev pub excuse_lines : List Text → List Text → SaidLists → UploadIn → Option Date → Option Excuse → Text
excuse_lines senders archs said u ready (Some e) = flat_map (reason_text senders archs said u ready) e.reasons
excuse_lines senders archs said u ready None = []

-- all lines of a source that is old enough on this day
abbrev pub origin_text : List Text → List Text → SaidLists → UploadIn → Option Excuse → Option Date → Text
origin_text senders archs said u excuse ready = upload_line senders u ++ excuse_lines senders archs said u ready excuse

-- the text has these lines, with the day on which the source is old enough
pub record IsOriginText (senders archs : List Text) (said : SaidLists) (u : UploadIn) (excuse : Option Excuse) (text : Text) : Type 0 where
  pub ready : Option Date
  pub is_ready : IsReady u excuse ready
  pub is : text ≡ origin_text senders archs said u excuse ready
