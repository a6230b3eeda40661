-- What steps that only look leave, one after the other.
use Rattle.std.proofs.Common.{◌∙◌, Result, Ok, Err}
use Rattle.std.specs.Borrow.{MutBor}
use Rattle.sqlite_trees.specs.declared.store.Store.{Ghosts}
use Rattle.sqlite.specs.Held.{Held}
use Rattle.sqlite.specs.Tree.{Trees}
use Rattle.office_store_tables.specs.StepsWithin.{Yields, Looks}
use Rattle.office_store_tables.proofs.WithinLemmas.{kept_within, then_within}

module _ {S : Type 0} {store : Ghosts S} {T U E F : Type 0} {x : T} {seen : Trees → T → Type 0} {shown : Trees → U → Type 0} where
  -- a look whose result is judged
  pub looks_on : {old new : MutBor (Held S)} (result : Result U F) → Looks {E = E} store old new (Ok x) seen → Yields store old new result (λ db _. shown db) → Looks store old new result shown
  looks_on (Ok y) look yields = record { steps = kept_within (Ok y) look.steps; same = look.same; yields = yields }
  looks_on (Err f) look yields = record { steps = kept_within (Err f) look.steps; same = λ _. tt; yields = yields }

  -- a look after another
  pub then_looks : {old mid new : MutBor (Held S)} {found : Trees → U → Type 0} (result : Result U F) → Looks {E = E} store old mid (Ok x) seen → Looks store mid new result found → Yields store old new result (λ db _. shown db) → Looks store old new result shown
  then_looks (Ok y) first second yields = record {
    steps = then_within (Ok y) first.steps second.steps;
    same = λ trusted. second.same trusted ∙ first.same (second.steps.before trusted);
    yields = yields;
  }
  then_looks (Err f) first second yields = record { steps = then_within (Err f) first.steps second.steps; same = λ _. tt; yields = yields }
