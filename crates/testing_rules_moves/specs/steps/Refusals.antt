-- Candidates refused for a clause that no row has met since.
use Rattle.std.specs.Prelude.{◌≡◌, ℕ, Bool, true, false, List, [], ◌∷◌, if◌then◌else◌, map, Some, Contains}
use Rattle.std.specs.List.{slice_get}
use Rattle.deb_control.specs.declared.binary.Binary.{Binary}
use Rattle.deb_control.specs.declared.relation.Clause.{Clause}
use Rattle.testing_install.specs.Among.{with_all}
use Rattle.testing_install.specs.Closed.{marked}
use Rattle.testing_install.specs.Index.{PlacesByName, places_at, provides_name}
use Rattle.testing_install.specs.Dependents.{names}
use Rattle.testing_install.specs.steps.Dependents.{places_for}
use Rattle.testing_rules_items.specs.Words.{Text}
use Rattle.testing_rules_live.specs.declared.live_rows.LiveRows.{LiveRows}
use Rattle.testing_rules_live.specs.declared.live_rows.LiveRows.TheVariants.{Pooled, Listed}
use Rattle.testing_rules_model.specs.declared.excuse.Excuse.{Excuse}
use Rattle.testing_rules_model.specs.declared.suite.RowIn.{RowIn}
use Rattle.testing_rules_model.specs.InOrder.{AreByKey}
use Rattle.testing_rules_model.specs.Updates.{decide, moved_alone}
use Rattle.testing_rules_model.specs.steps.Updates.{accepted, is_allowed_alone, move_circle}
use Rattle.testing_rules_moves.specs.declared.refusals.Numbered.{Numbered}
use Rattle.testing_rules_moves.specs.declared.refusals.Refusals.{Refusals}
use Rattle.testing_rules_moves.specs.steps.Runs.{Moment, Run, IsLacking, go_on, moment_of}
use Rattle.testing_rules_suites.specs.declared.change.Change.{Change}
use Rattle.testing_rules_suites.specs.steps.Tried.{IsWithin}

-- the excuses of numbered candidates
abbrev pub excuses_of : List Numbered → List Excuse
excuses_of candidates = map (λ c. c.excuse.now) candidates

-- the number of the candidate is the place of its excuse
abbrev pub IsNumbered : List Excuse → Numbered → Type 0
IsNumbered excuses c = slice_get excuses c.number ≡ Some c.excuse.now

-- the same for each candidate
pub record AreNumbered (excuses : List Excuse) (candidates : List Numbered) : Type 0 where
  pub each : (c : Numbered) → Contains candidates c → IsNumbered excuses c

-- the candidate's move has an unmet clause, and its number is noted at each name in the clause
pub record IsRefused (m : Moment) (noted : PlacesByName) (number : ℕ) (source : Text) : Type 0 where
  pub clause : Clause
  pub lacks : IsLacking (source ∷ []) m clause
  pub at_names : (name : Text) → names clause name ≡ true → Contains (places_at noted name) number

-- each candidate with its flag set is refused in this way, and the rows are in order
pub record AreRefused (m : Moment) (excuses : List Excuse) (r : Refusals) : Type 0 where
  pub by_key : AreByKey m.basis.rows
  pub in_order : AreByKey m.suite.rows
  pub each : (number : ℕ) (e : Excuse) → slice_get excuses number ≡ Some e → marked r.flags.items number ≡ true → IsRefused m r.noted number e.source

-- the flags without those noted at a name that the package provides
abbrev pub woken_by : PlacesByName → Binary → List Bool → List Bool
woken_by noted b flags = with_all false (places_for noted b) flags

-- the flags noted at a name of one of the rows are cleared, and none is newly set
pub record AreWoken (rows : List RowIn) (old new : Refusals) : Type 0 where
  pub noted : new.noted ≡ old.noted
  pub kept : (number : ℕ) → marked new.flags.items number ≡ true → marked old.flags.items number ≡ true
  pub woken : (number : ℕ) (r : RowIn) (name : Text) → Contains rows r → provides_name r.binary name ≡ true → Contains (places_at old.noted name) number → marked new.flags.items number ≡ true → ⊥

-- if the rows are those of a pool, the places of the change are places in it
abbrev pub IsWithinRows : LiveRows → Change → Type 0
IsWithinRows (Pooled s) change = IsWithin s.rows change.leaving.items change.coming.items
IsWithinRows (Listed rows) change = Unit {0}

-- the candidate was tried: it moved if it may move alone, else nothing changed
pub record IsTried (old new : Run) (excuses : List Excuse) (e : Excuse) (refusals : Refusals) (moved : Bool) : Type 0 where
  pub allowed : is_allowed_alone old.basis.archs old.basis.sources old.basis.rows old.outcome.suite e ≡ moved
  pub after : moved ≡ true → new ≡ go_on old (λ b t. decide (accepted e) (moved_alone b.sources b.rows t e))
  pub same : moved ≡ false → new ≡ old
  pub known : AreRefused (moment_of new) excuses refusals

-- the next candidate that may move moved, and the circle continues after it, or none may move
pub record IsNext (old new : Run) (excuses : List Excuse) (before after : List Numbered) (refusals : Refusals) (moved : Bool) : Type 0 where
  pub left : go_on old (λ b. move_circle b.archs b.sources b.rows (excuses_of before))
      ≡ (if moved then go_on new (λ b. move_circle b.archs b.sources b.rows (excuses_of after)) else new)
  pub numbered : AreNumbered excuses after
  pub known : AreRefused (moment_of new) excuses refusals
