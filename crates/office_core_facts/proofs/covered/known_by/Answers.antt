use Rattle.std.proofs.Common.{◌≡◌, List, length, slice_index, ap, ◌∙◌}
use Rattle.testing_rules_model.specs.FactRows.{rows_of}
use Rattle.office_mail.specs.declared.message.RunOrder.{RunOrder}
use Rattle.office_mail.specs.Runs.{cover_of}
use Rattle.office_core_facts.proofs.KnownStand.{rows_stand}
use Rattle.office_core_facts.proofs.RestoringFacts.{known_whole, way_without}
use Rattle.office_core_facts.proofs.TakenFacts.{stand_none}
use Rattle.office_core_facts.proofs.covered.known_by.Goals as goal

pub returns-in_ok-known_at-clause-found : goal.returns-in_ok-known_at-clause-found
returns-in_ok-known_at-clause-found c = λ content are back.
    let known = c.in_ok-known_at.ensures in
    let left = c.in_ok-known_at.field-0 in
    let size : length (rows_of c.args.facts) ≡ length c.args.rows.now = c.has_all.ensures c.if-has_all.true in
    let whole = known_whole c.args.setup.now content c.args.rows.now c.args.facts left.facts known.same known.by_message size are back in
    record {
      way = whole.way;
      stand = λ office orders. rows_stand c.args.setup.now content left.facts (slice_index left.taken.items) office whole.way.tells whole.rows
          (λ s low. known.taken s low ∙ ap (λ (os : List RunOrder). cover_of os s) orders);
    }

pub returns-in_ok-known_without-clause-found : goal.returns-in_ok-known_without-clause-found
returns-in_ok-known_without-clause-found c = λ content are back.
    let known = c.in_ok-known_without.ensures in
    let left = c.in_ok-known_without.field-0 in
    record {
      way = way_without c.args.setup.now content c.args.rows.now left.facts are known.facts known.by_message;
      stand = λ office orders. stand_none c.args.setup.now content.kept left.facts left.taken.items content.testing known.taken (known.none content.testing);
    }
