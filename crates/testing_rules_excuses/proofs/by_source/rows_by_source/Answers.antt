use Rattle.std.proofs.Common.{arith, ◌∙◌, ap, ◌≤◌, length, take, filter}
use Rattle.std.proofs.lemmas.List.{take_all}
use Rattle.std.specs.Str.{bytes_eq}
use Rattle.testing_rules_model.specs.declared.suite.LentRow.{LentRow}
use Rattle.testing_rules_model.specs.declared.suite.RowIn.{RowIn}
use Rattle.testing_rules_excuses.specs.steps.BySource.{slot_at, joined_by, is_among}
use Rattle.testing_rules_model.specs.JudgedRows.{lent}
use Rattle.testing_rules_model.proofs.Lending.{passing-lent}
use Rattle.testing_rules_excuses.proofs.NewsGroups.{joined, group_of}
use Rattle.testing_rules_excuses.proofs.by_source.rows_by_source.Goals as goal

pub loop-row-preserved : goal.loop-row-preserved
loop-row-preserved c = λ q.
    let rows = c.args.rows.now in
    let own = λ (x : LentRow). bytes_eq q x.binary.now.source in
    let old = slot_at c.loop-row.groups q in
    joined own rows c.loop-row.row-index c.row-item.result (omega arith) (is_among c.args.news.now q) old (slot_at c.join_row.new.groups q) (c.loop-row.invariant q)
    (c.in_ok-join_row.ensures q ∙ ap (λ (x : LentRow). joined_by (own x) x old) c.row-item.is)

pub returns : goal.returns
returns c = λ q among.
    let rows = c.args.rows.now in
    let i = c.loop-row.row-index in
    let own = λ (r : RowIn). bytes_eq q r.binary.source in
    let all : length rows ≤ i = omega arith in
    ap lent (group_of (is_among c.args.news.now q) (slot_at c.loop-row.groups q) (filter (λ (x : LentRow). bytes_eq q x.binary.now.source) (take i rows)) among (c.loop-row.invariant q))
    ∙ passing-lent own (take i rows)
    ∙ ap (λ rs. filter own (lent rs)) (take_all i rows all)
