-- Testing's sources during a run: slots ordered by name; the slot of a source that isn't in testing is empty.
use Rattle.std.specs.Prelude.{List, map, Option, Some, None}
use Rattle.std.specs.List.{filter_map}
use Rattle.std.specs.List.Sorted.{IsStrictlySortedBy}
use Rattle.testing_rules_live.specs.declared.live_sources.Slot.{Slot}
use Rattle.testing_rules_live.specs.declared.live_sources.Slot.TheVariants.{Absent, Stays, Moved}
use Rattle.testing_rules_model.specs.declared.suite.SourceIn.{SourceIn}
use Rattle.testing_rules_items.specs.Words.{Text, byte_cmp, put_by}

-- the name of a slot's source
abbrev pub name_of : Slot → Text
name_of (Absent upload) = upload.now.source
name_of (Stays source) = source.now.name
name_of (Moved source) = source.value.name

-- the source, if testing has it
abbrev pub source_of : Slot → Option SourceIn
source_of (Absent upload) = None
source_of (Stays source) = Some source.now
source_of (Moved source) = Some source.value

-- testing's sources
abbrev pub sources_of : List Slot → List SourceIn
sources_of slots = filter_map source_of slots

-- slots in byte order of their names, each name once
abbrev pub AreSlots : List Slot → Type 0
AreSlots slots = IsStrictlySortedBy byte_cmp (map name_of slots)

-- the slots with one put in by name
abbrev pub put_slot : Slot → List Slot → List Slot
put_slot slot slots = put_by name_of byte_cmp slot slots
