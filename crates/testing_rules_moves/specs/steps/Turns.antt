-- The testing against which a hint is judged: the one at the hint's turn (this office decides the order of turns).
-- Unstable has these sources and rows, and the hints are ordered by number.
use Rattle.std.specs.Prelude.{ℕ, List, map, filter, nat_lt}
use Rattle.std.specs.List.{flat_map}
use Rattle.testing_rules_items.specs.Words.{Text}
use Rattle.testing_rules_items.specs.declared.item.HintItem.{HintItem}
use Rattle.testing_rules_model.specs.declared.excuse.Excuse.{Excuse}
use Rattle.testing_rules_model.specs.declared.facts.HintIn.{HintIn}
use Rattle.testing_rules_model.specs.declared.facts.UnhintIn.{UnhintIn}
use Rattle.testing_rules_model.specs.declared.facts.UploadIn.{UploadIn}
use Rattle.testing_rules_model.specs.declared.suite.RowIn.{RowIn}
use Rattle.testing_rules_model.specs.Suite.{Suite}
use Rattle.testing_rules_model.specs.Unstable.{is_in_force}
use Rattle.testing_rules_model.specs.Updates.{in_turn, move_easy, remove_item, removals_of}

-- the hints with smaller numbers
abbrev pub hints_before : ℕ → List HintIn → List HintIn
hints_before number hints = filter (λ h. nat_lt h.number number) hints

-- testing after the turns of the removals of those hints that are in force
abbrev pub after_removals : List Text → List HintIn → List UnhintIn → Suite → Suite
after_removals archs hints unhints t = (in_turn (remove_item archs) (flat_map removals_of (filter (is_in_force unhints) hints)) t).suite

-- testing after the groups of those hints that are in force
abbrev pub after_groups : List Text → List UploadIn → List RowIn → List Excuse → List HintIn → List UnhintIn → Suite → Suite
after_groups archs sources rows excuses hints unhints t = (in_turn (move_easy archs sources rows excuses) (filter (is_in_force unhints) hints) t).suite

-- testing at the turn of the group of the hint with the number: after all removals, and the groups of earlier hints
abbrev pub turn_of_easy : List Text → List UploadIn → List RowIn → List Excuse → List HintIn → List UnhintIn → ℕ → Suite → Suite
turn_of_easy archs sources rows excuses hints unhints number t =
    after_groups archs sources rows excuses (hints_before number hints) unhints (after_removals archs hints unhints t)

-- testing at the turn of a removal of the hint with the number: after the removals of earlier hints, and its own
-- earlier items
abbrev pub turn_of_removal : List Text → List HintIn → List UnhintIn → ℕ → List HintItem → Suite → Suite
turn_of_removal archs hints unhints number earlier t =
    (in_turn (remove_item archs) (map (λ i. (number, i)) earlier) (after_removals archs (hints_before number hints) unhints t)).suite

-- testing after all removals and groups, before any source moves alone
abbrev pub behind_hints : List Text → List UploadIn → List RowIn → List Excuse → List HintIn → List UnhintIn → Suite → Suite
behind_hints archs sources rows excuses hints unhints t = after_groups archs sources rows excuses hints unhints (after_removals archs hints unhints t)
