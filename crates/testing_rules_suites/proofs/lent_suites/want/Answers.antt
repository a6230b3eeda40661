use Rattle.std.proofs.Common.{◌≡◌, ◌∙◌, sym, ap, subst, ◌++◌, ◌∷◌, [], List, Option, Some, IfSome, ℕ}
use Rattle.std.specs.List.{slice_get}
use Rattle.std.proofs.lemmas.List.{map-append}
use Rattle.testing_rules_model.specs.JudgedRows.{lent, row_of}
use Rattle.testing_rules_model.specs.declared.suite.RowIn.{RowIn}
use Rattle.testing_rules_suites.specs.steps.Standing.{AreWanted}
use Rattle.testing_rules_suites.proofs.StandingFacts.{wanted_at, wanted_lacking}
use Rattle.testing_rules_suites.proofs.lent_suites.want.Goals as goal

pub returns-in-Some : goal.returns-in-Some
returns-in-Some c = λ pool rows at w.
    let row = c.args.row.now in
    wanted_at pool rows c.args.flags.now.items (lent c.args.lacking.now.items) c.in-Some.place row
    (subst (λ (o : Option ℕ). IfSome o (λ k. slice_get pool k ≡ Some row)) c.in-Some.is at) w

pub returns-in_ok-push-in-None : goal.returns-in_ok-push-in-None
returns-in_ok-push-in-None c = λ pool rows at w.
    let row = c.args.row.now in
    let old = c.args.lacking.now.items in
    let new = c.lend.result in
    let e = ap lent c.in_ok-push-in-None.ensures.items ∙ map-append row_of old (new ∷ []) ∙ ap (λ (r : RowIn). lent old ++ r ∷ []) c.lend.ensures in
    subst (λ (ls : List RowIn). AreWanted pool (rows ++ row ∷ []) c.args.flags.now.items ls) (sym e) (wanted_lacking pool rows c.args.flags.now.items (lent old) row w)
