-- The input for the lines of a source, as the code has it.
use Rattle.std.specs.Prelude.{◌≡◌, true, Option}
use Rattle.testing_rules_items.specs.Words.{Text}
use Rattle.testing_rules_model.specs.declared.excuse.Excuse.{Excuse}
use Rattle.testing_rules_model.specs.declared.excuse.Reason.{Reason}
use Rattle.testing_rules_model.specs.Boxed.{unboxed}
use Rattle.testing_rules_model.specs.steps.FactOrder.{AreByNumber}
use Rattle.testing_rules_excuses.specs.declared.reason_lines.LineInput.{LineInput}
use Rattle.testing_rules_excuses.specs.Lines.{reason_text, excuse_lines, origin_text}
use Rattle.testing_rules_excuses.specs.steps.Said.{said_lists}

-- if the bugs are declared to be in order, they are ordered by number
abbrev pub IsOrderKnown : LineInput → Type 0
IsOrderKnown a = a.ordered ≡ true → AreByNumber (unboxed a.said.now.bugs.now)

-- the lines on a reason
abbrev pub reason_told : LineInput → Reason → Text
reason_told a reason = reason_text a.senders.now a.archs.now (said_lists a.said.now) a.upload.now a.ready reason

-- the lines on the reasons of its excuse
abbrev pub excuse_told : LineInput → Option Excuse → Text
excuse_told a excuse = excuse_lines a.senders.now a.archs.now (said_lists a.said.now) a.upload.now a.ready excuse

-- all its lines
abbrev pub source_told : LineInput → Option Excuse → Text
source_told a excuse = origin_text a.senders.now a.archs.now (said_lists a.said.now) a.upload.now excuse a.ready
