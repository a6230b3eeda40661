use Rattle.std.proofs.Common.{◌≡◌, ℕ, List, get_or, take, subst, arith}
use Rattle.testing_rules_model.specs.declared.fact_row.FactRow.{FactRow}
use Rattle.testing_rules_model.specs.Covered.{Covered}
use Rattle.office_core_facts.specs.Known.{said_all}
use Rattle.office_core_facts.specs.steps.Taking.{HavePutBack}
use Rattle.office_core_facts.proofs.RestoringFacts.{items_near}
use Rattle.office_core_facts.proofs.restored.put_letters.Goals as goal

pub messages-init : goal.messages-init
messages-init c = record {
  from = omega arith;
  within = omega (arith, c.requires.some);
  back = λ kept d first own was. was;
}

pub messages-preserved : goal.messages-preserved
messages-preserved c =
    let so = c.messages.invariant in
    let end = c.rows_end-next.ensures in
    let rows : List FactRow = c.args.block.rows.now in
    let place = c.messages.place in
    record {
      from = omega (arith, so.from, end.on);
      within = end.within;
      back = λ kept d first own was.
          let s : Covered = said_all c.args.setup.now kept in
          c.in_ok-put_item.ensures.back s first
          (items_near s rows c.args.block.start c.args.block.end place c.rows_end-next.result d _ c.in_ok-item.item c.requires.near end.near so.from end.within (c.in_ok-item.ensures kept (get_or rows c.args.block.start d).sender own))
          (so.back kept d first own was);
    }

pub returns : goal.returns
returns c = λ kept d first own was.
    let all : c.messages.place ≡ c.args.block.end = omega (arith, c.messages-test.false, c.messages.invariant.within) in
    subst (λ (n : ℕ). HavePutBack (said_all c.args.setup.now kept) (take n c.args.block.rows.now) first c.messages.facts) all (c.messages.invariant.back kept d first own was)
