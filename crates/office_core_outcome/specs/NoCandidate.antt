-- A source that isn't a candidate of a run, in a line. This office decides its form; its words are those of the other
-- lines on sources.
use Rattle.std.specs.Prelude.{if◌then◌else◌, List, [], ◌∷◌, ◌++◌, codes, Option, Some, None}
use Rattle.testing_rules_items.specs.Words.{Text, is_empty}
use Rattle.testing_rules_model.specs.declared.excuse.Excuse.{Excuse}
use Rattle.testing_rules_model.specs.declared.facts.UploadIn.{UploadIn}
use Rattle.testing_rules_model.specs.Excuses.{testing_version}
use Rattle.testing_rules_model.specs.Moves.{source_in}
use Rattle.testing_rules_model.specs.Suite.{Suite}
use Rattle.testing_rules_excuses.specs.States.{excuse_of}
use Rattle.testing_rules_refusals.specs.Texts.{reasons_text}
use Rattle.testing_rules_reports.specs.Reports.{line}

-- the words before the reasons that keep a source out
unfoldable pub words_before : Text
words_before = codes " isn't a candidate: "

-- an unstable version of a source that these reasons keep out
abbrev pub kept_out_line : Text → Text → Text → Text
kept_out_line name version reasons = codes "source " ++ name ++ 32 ∷ version ++ words_before ++ reasons ++ 10 ∷ []

-- a source with nothing to move: testing has it at a version, or a removal of the run has taken it out
abbrev pub standing_line : Text → UploadIn → Option Text → Text
standing_line name u (Some version) = line (codes "in testing" ∷ name ∷ version ∷ [])
standing_line name u None = kept_out_line name u.version (codes "removal asked")

-- a source with an excuse: none if it is a candidate
abbrev pub excused_line : List Text → Text → Excuse → Option Text
excused_line archs name e = if is_empty e.reasons then None else Some (kept_out_line name e.unstable (reasons_text archs e.reasons))

-- a source of unstable, by its excuse and its version in testing
abbrev pub unstable_line : List Text → Text → UploadIn → Option Text → Option Excuse → Option Text
unstable_line archs name u version None = Some (standing_line name u version)
unstable_line archs name u version (Some e) = excused_line archs name e

-- a source, if unstable has it
abbrev pub source_line : List Text → List Excuse → Suite → Text → Option UploadIn → Option Text
source_line archs excuses t name None = Some (line (codes "unknown" ∷ name ∷ []))
source_line archs excuses t name (Some u) = unstable_line archs name u (testing_version t name) (excuse_of excuses name)

-- The line on a source that isn't a candidate, by unstable's sources, the excuses of a run, and testing as the hints in
-- force leave it there; none for a candidate.
abbrev pub no_candidate_line : List Text → List UploadIn → List Excuse → Suite → Text → Option Text
no_candidate_line archs sources excuses t name = source_line archs excuses t name (source_in sources name)
