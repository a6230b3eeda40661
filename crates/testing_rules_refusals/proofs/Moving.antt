-- What is told of a change, beside what the run decides.
use Rattle.std.proofs.Common.{◌≡◌, ℕ, List, Option, Some, None, ap}
use Rattle.std.specs.Prelude.{map, option_map}
use Rattle.testing_rules_items.specs.Words.{Text}
use Rattle.testing_rules_model.specs.declared.excuse.Excuse.{Excuse}
use Rattle.testing_rules_model.specs.declared.facts.UploadIn.{UploadIn}
use Rattle.testing_rules_model.specs.declared.suite.RowIn.{RowIn}
use Rattle.testing_rules_model.specs.declared.update.Decision.TheVariants.{RemoveDone, RemoveRefused, EasyDone, EasyRefused, Wait}
use Rattle.testing_rules_model.specs.declared.update.Offender.{Offender}
use Rattle.testing_rules_model.specs.Moves.{group_sources, move_group, remove_source}
use Rattle.testing_rules_model.specs.Suite.{Suite}
use Rattle.testing_rules_model.specs.Updates.{Outcome, decide, move_as_one, remove_version, wait_for}
use Rattle.testing_rules_refusals.specs.Alone.{IsToldAlone}
use Rattle.testing_rules_refusals.specs.ToldChange.{IsToldMove, IsToldRemoval}

-- the line of a source that waits has this offender
pub waits_so : (archs : List Text) (sources : List UploadIn) (unstable : List RowIn) (excuses : List Excuse) (t : Suite) (e : Excuse) (text : Text)
    → (why : IsToldAlone archs sources unstable excuses t e text) → wait_for archs sources unstable t e ≡ Some (Wait e.source e.unstable why.offender)
waits_so archs sources unstable excuses t e text why = ap (option_map (Wait e.source e.unstable)) why.refusal.first

-- so has that of a group that is refused
pub group_so : (archs : List Text) (sources : List UploadIn) (unstable : List RowIn) (excuses : List Excuse) (t : Suite) (group : List Text) (text : Text) (number : ℕ)
    → (why : IsToldMove archs sources unstable excuses t group text) → move_as_one archs sources unstable number group t ≡ decide (EasyRefused number why.offender) t
group_so archs sources unstable excuses t group text number why =
    ap (λ (m : Option Offender). let p : Outcome = elim m [
      | None ↦ decide (EasyDone number (map (λ u. record { name = u.source; version = u.version }) (group_sources sources group))) (move_group sources unstable group t)
      | Some o ↦ decide (EasyRefused number o) t
    ] in p) why.refusal.first

-- and that of a removal
pub removal_so : (archs : List Text) (sources : List UploadIn) (unstable : List RowIn) (excuses : List Excuse) (t : Suite) (name text : Text) (number : ℕ) (version : Text)
    → (why : IsToldRemoval archs sources unstable excuses t name text) → remove_version archs number name version t ≡ decide (RemoveRefused number name version why.offender) t
removal_so archs sources unstable excuses t name text number version why =
    ap (λ (m : Option Offender). let p : Outcome = elim m [
      | None ↦ decide (RemoveDone number name version) (remove_source name t)
      | Some o ↦ decide (RemoveRefused number name version o) t
    ] in p) why.refusal.first
