-- The input of a run, and its progress.
use Rattle.std.specs.Prelude.{ℕ, List, [], Option, map, filter}
use Rattle.std.specs.List.{flat_map}
use Rattle.deb_control.specs.declared.relation.Clause.{Clause}
use Rattle.testing_rules_live.specs.steps.Lacks.{Lacks}
use Rattle.testing_rules_model.specs.declared.excuse.Excuse.{Excuse}
use Rattle.testing_rules_model.specs.declared.facts.HintIn.{HintIn}
use Rattle.testing_rules_model.specs.declared.facts.UnhintIn.{UnhintIn}
use Rattle.testing_rules_model.specs.declared.facts.UploadIn.{UploadIn}
use Rattle.testing_rules_model.specs.declared.suite.RowIn.{RowIn}
use Rattle.testing_rules_model.specs.declared.update.Offender.{Offender}
use Rattle.testing_rules_model.specs.Suite.{Suite}
use Rattle.testing_rules_items.specs.declared.item.HintItem.{HintItem}
use Rattle.testing_rules_items.specs.Words.{Text}
use Rattle.testing_rules_model.specs.Moves.{move_group, remove_source, offender_of}
use Rattle.testing_rules_model.specs.Unstable.{is_in_force}
use Rattle.testing_rules_model.specs.Updates.{Outcome, then_do, in_turn, remove_item, removals_of, move_easy, move_singles}
use Rattle.testing_rules_model.specs.steps.Updates.{wait_all}

-- what stays during a run: the architectures, and unstable's sources and rows
pub record RunBasis : Type 0 where
  pub archs : List Text
  pub sources : List UploadIn
  pub rows : List RowIn

-- testing at some moment of a run
pub record Moment : Type 0 where
  pub basis : RunBasis
  pub suite : Suite

-- testing after the group has moved
abbrev pub after_move : List Text → Moment → Moment
after_move group m = record { basis = m.basis; suite = move_group m.basis.sources m.basis.rows group m.suite }

-- what moving the group would break
abbrev pub broken_by_move : List Text → Moment → Option Offender
broken_by_move group m = offender_of m.basis.archs m.suite.rows (move_group m.basis.sources m.basis.rows group m.suite).rows group

-- a row that comes with the group has the clause, and no present or coming row on its architecture meets it
abbrev pub IsLacking : List Text → Moment → Clause → Type 0
IsLacking group m clause = Lacks m.basis.archs m.basis.sources m.basis.rows group m.suite.rows clause

-- testing after the source has left
abbrev pub after_removal : Text → Moment → Moment
after_removal name m = record { basis = m.basis; suite = remove_source name m.suite }

-- what removing the source would break
abbrev pub broken_by_removal : Text → Moment → Option Offender
broken_by_removal name m = offender_of m.basis.archs m.suite.rows (remove_source name m.suite).rows []

-- a run so far: its decisions, and the resulting testing
pub record Run : Type 0 where
  pub basis : RunBasis
  pub outcome : Outcome

-- testing at this point of the run
abbrev pub moment_of : Run → Moment
moment_of r = record { basis = r.basis; suite = r.outcome.suite }

-- a run after one more step
abbrev pub go_on : Run → (RunBasis → Suite → Outcome) → Run
go_on r step = record { basis = r.basis; outcome = then_do r.outcome (step r.basis) }

-- a run after all its turns
abbrev pub after_turns : List Excuse → List HintIn → List UnhintIn → Run → Run
after_turns excuses hints unhints r =
    let hints_in_force = filter (is_in_force unhints) hints in
    let removed = go_on r (λ b. in_turn (remove_item b.archs) (flat_map removals_of hints_in_force)) in
    let grouped = go_on removed (λ b. in_turn (move_easy b.archs b.sources b.rows excuses) hints_in_force) in
    let single = go_on grouped (λ b. move_singles b.archs b.sources b.rows excuses) in
    go_on single (λ b. wait_all b.archs b.sources b.rows excuses)

-- a run after the removals asked by hints, and then the groups asked by some
abbrev pub run_after_groups : List Excuse → List HintIn → List HintIn → List UnhintIn → Run → Run
run_after_groups excuses hints grouped unhints r =
    let removed = go_on r (λ b. in_turn (remove_item b.archs) (flat_map removals_of (filter (is_in_force unhints) hints))) in
    go_on removed (λ b. in_turn (move_easy b.archs b.sources b.rows excuses) (filter (is_in_force unhints) grouped))

-- a run after the removals asked by hints, and then those of some items of a hint
abbrev pub run_after_removals : List HintIn → ℕ → List HintItem → List UnhintIn → Run → Run
run_after_removals hints number items unhints r =
    let removed = go_on r (λ b. in_turn (remove_item b.archs) (flat_map removals_of (filter (is_in_force unhints) hints))) in
    go_on removed (λ b. in_turn (remove_item b.archs) (map (λ i. (number, i)) items))
