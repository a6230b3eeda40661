-- The hints in force over all mail without a gap, and the state of each item that they name. That they are printed so,
-- and in which words, is decided by this office.
use Rattle.std.specs.Prelude.{◌≡◌, ℕ, Bool, true, false, nat_le, if◌then◌else◌, List, [], ◌∷◌, ◌++◌, codes, decimal, flat_map, is_some, Option, Some, None}
use Rattle.testing_rules_items.specs.Words.{Text, is_same_version}
use Rattle.testing_rules_items.specs.declared.item.Hint.{Hint}
use Rattle.testing_rules_items.specs.declared.item.Hint.TheVariants.{Block, Unblock, Easy, AgeDays, Remove, BlockAll}
use Rattle.testing_rules_items.specs.declared.item.HintItem.{HintItem}
use Rattle.testing_rules_model.specs.declared.facts.HintIn.{HintIn}
use Rattle.testing_rules_model.specs.declared.facts.UploadIn.{UploadIn}
use Rattle.testing_rules_model.specs.Covered.{Covered}
use Rattle.testing_rules_model.specs.Moves.{source_in}
use Rattle.testing_rules_model.specs.Suite.{Suite}
use Rattle.testing_rules_model.specs.Unstable.{in_force, unstable_sources}
use Rattle.testing_rules_model.specs.Updates.{is_in_testing}
use Rattle.testing_rules_reports.specs.Reports.{line}
use Rattle.office_mail_setup.specs.Lists.{Lists}
use Rattle.office_mail.specs.Kept.{Kept}
use Rattle.office_mail.specs.Runs.{cover}
use Rattle.office_core_replies.specs.Replies.{name_at}
use Rattle.office_core_facts.specs.Outcome.{testing_after}
use Rattle.office_core_facts.specs.Seen.{IsSeen}

-- The state of a source at version v in a hint, by unstable's source of the name, and by whether testing has it at v.
-- It has moved, or has another version in unstable. A hint to remove it is in force at both of its versions.
abbrev pub state_words : Bool → Bool → Text → Option UploadIn → Text
state_words removes moved v None = codes "no source"
state_words removes moved v (Some u) =
    if moved then (if removes then codes "in force" else codes "moved")
    else (if is_same_version v u.version then codes "in force" else codes "unstable " ++ u.version)

-- the line on a source at a version, and on a source that `block` names
abbrev pub item_line : Text → List UploadIn → Suite → Bool → HintItem → Text
item_line front sources t removes i =
    front ++ i.name ++ 47 ∷ i.version ++ codes ": " ++ state_words removes (is_in_testing t i.name i.version) i.version (source_in sources i.name) ++ 10 ∷ []

abbrev pub name_line : Text → List UploadIn → Text → Text
name_line front sources name = front ++ name ++ codes ": " ++ (if is_some (source_in sources name) then codes "in force" else codes "no source") ++ 10 ∷ []

-- what a hint asks, in the words of its message
abbrev pub asked_words : Hint → Text
asked_words (Block names) = codes "block"
asked_words (Unblock items) = codes "unblock"
asked_words (Easy items) = codes "easy"
asked_words (AgeDays n items) = codes "age-days " ++ decimal n
asked_words (Remove items) = codes "remove"
asked_words BlockAll = codes "block-all"

-- a line on each item that a hint names
abbrev pub named_lines : Text → List UploadIn → Suite → Hint → Text
named_lines front sources t (Block names) = flat_map (name_line front sources) names
named_lines front sources t (Unblock items) = flat_map (item_line front sources t false) items
named_lines front sources t (Easy items) = flat_map (item_line front sources t false) items
named_lines front sources t (AgeDays n items) = flat_map (item_line front sources t false) items
named_lines front sources t (Remove items) = flat_map (item_line front sources t true) items
named_lines front sources t BlockAll = front ++ codes "source: in force" ++ 10 ∷ []

-- the beginning of these lines: the hint's message, whether its sender is covered so far, and what it asks
abbrev pub hint_front : Lists → (ℕ → ℕ) → HintIn → Text
hint_front setup covers h =
    name_at setup h.sender ++ 32 ∷ decimal h.number ++ (if nat_le h.number (covers h.sender) then codes " covered " else codes " new ") ++ asked_words h.hint ++ 32 ∷ []

abbrev pub hint_lines : Lists → (ℕ → ℕ) → List UploadIn → Suite → HintIn → Text
hint_lines setup covers sources t h = named_lines (hint_front setup covers h) sources t h.hint

-- the number of finished runs, and the lines on each hint in force, by number, for the covers of these runs
unfoldable pub hints_text : Lists → ℕ → (ℕ → ℕ) → Covered → Suite → Text
hints_text setup finished covers s t = line (codes "hints" ∷ decimal finished ∷ []) ++ flat_map (hint_lines setup covers (unstable_sources s) t) (in_force s)

-- the hints after k finished runs: over all mail without a gap, and the testing that the last run left
pub record IsHintsText (setup : Lists) (kept : Kept) (k : ℕ) (text : Text) : Type 0 where
  pub seen : Covered
  pub is_seen : IsSeen setup kept seen
  pub is : text ≡ hints_text setup k (cover setup kept k) seen (testing_after setup kept k)
