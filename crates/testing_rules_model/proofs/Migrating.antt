-- What a run decides by facts.
use Rattle.std.specs.Prelude.{List, [], filter}
use Rattle.std.specs.List.{flat_map}
use Rattle.std.proofs.Common.{◌≡◌, refl, ap, ◌∙◌}
use Rattle.testing_rules_model.specs.declared.excuse.Excuse.{Excuse}
use Rattle.testing_rules_model.specs.declared.facts.UploadIn.{UploadIn}
use Rattle.testing_rules_model.specs.declared.facts.HintIn.{HintIn}
use Rattle.testing_rules_model.specs.declared.facts.UnhintIn.{UnhintIn}
use Rattle.testing_rules_model.specs.declared.suite.RowIn.{RowIn}
use Rattle.testing_rules_model.specs.Suite.{Suite}
use Rattle.testing_rules_items.specs.Words.{Text}
use Rattle.testing_rules_model.specs.Covered.{Covered}
use Rattle.testing_rules_model.specs.FactLists.{FactLists}
use Rattle.testing_rules_model.specs.StandsFor.{StandsFor}
use Rattle.testing_rules_model.specs.Unstable.{unstable_sources, unstable_rows, built_rows, hints_by_number, is_in_force}
use Rattle.testing_rules_model.specs.Updates.{Outcome, then_do, in_turn, remove_item, removals_of, move_easy, move_singles, update_by, update_of}
use Rattle.testing_rules_model.specs.steps.Updates.{wait_all}

-- what is decided by facts is what is decided over the messages that they stand for
pub update_by-facts : (archs : List Text) (facts : FactLists) (s : Covered) (t : Suite) (es : List Excuse) → StandsFor facts s t
    → update_by archs facts.sources (built_rows archs facts.rows) facts.hints facts.unhints es t ≡ update_of archs s es t
update_by-facts archs facts s t es h =
    ap (λ us. update_by archs us (built_rows archs facts.rows) facts.hints facts.unhints es t) h.sources
    ∙ ap (λ bs. update_by archs (unstable_sources s) (built_rows archs bs) facts.hints facts.unhints es t) h.rows
    ∙ ap (λ hs. update_by archs (unstable_sources s) (unstable_rows archs s) hs facts.unhints es t) h.hints
    ∙ ap (λ cs. update_by archs (unstable_sources s) (unstable_rows archs s) (hints_by_number s) cs es t) h.unhints

module _ (archs : List Text) (es : List Excuse) (t : Suite) where
  -- the steps of a run, one after the other
  abbrev pub all_steps : List UploadIn → List RowIn → List HintIn → List UnhintIn → List HintIn → List UnhintIn → Outcome
  all_steps sources rows hints unhints hints_again unhints_again =
      let o : Outcome = record { decisions = []; suite = t } in
      then_do (then_do (then_do (then_do o (in_turn (remove_item archs) (flat_map removals_of (filter (is_in_force unhints) hints))))
      (in_turn (move_easy archs sources rows es) (filter (is_in_force unhints_again) hints_again)))
      (move_singles archs sources rows es)) (wait_all archs sources rows es)

  pub all_steps-are : {us sources : List UploadIn} {rs rows : List RowIn} {hs js hints : List HintIn} {cs ds unhints : List UnhintIn}
      → us ≡ sources → rs ≡ rows → hs ≡ hints → cs ≡ unhints → js ≡ hints → ds ≡ unhints
      → all_steps us rs hs cs js ds ≡ update_by archs sources rows hints unhints es t
  all_steps-are u r h c j d = rw (u, r, h, c, j, d) refl
