use Rattle.std.proofs.Common.{◌≡◌, length, ap, sym, refl, ◌++◌, string_bytes, arith, append-nil, ◌∙◌}
use Rattle.office_core.proofs.CarryFacts.{asks_none, asks_twice}
use Rattle.office_core_queries.specs.RunLines.{lines_to}
use Rattle.office_core_queries.proofs.ReportFacts.{lines_more}
use Rattle.office_core_queries.proofs.run_lines.push_runs.Goals as goal

pub runs-init : goal.runs-init
runs-init g c = record {
  asks = asks_none g.K.Keeper c.args.office.now;
  text = λ h few. sym (append-nil (string_bytes c.args.text.now));
  within = omega arith;
  counted = refl;
}

pub runs-preserved : goal.runs-preserved
runs-preserved g c =
    let keeper = g.K.Keeper in
    let so = c.runs.invariant in
    let next = c.in_ok-push_run_line.ensures in
    record {
      asks = asks_twice keeper c.args.office.now c.runs.office c.push_run_line.new.office so.asks next.asks;
      text = λ h few. lines_more keeper c.args.office.now c.runs.office c.push_run_line.new.office c.runs.done (string_bytes c.args.text.now) (string_bytes c.runs.text) (string_bytes c.push_run_line.new.text) so.asks next.asks
          (λ before. so.text before few) next.text h (omega (arith, c.runs-test.true, few));
      within = omega (arith, c.runs-test.true);
      counted = next.counted ∙ so.counted;
    }

pub returns-in_err-push_run_line-clause-asks : goal.returns-in_err-push_run_line-clause-asks
returns-in_err-push_run_line-clause-asks g c = asks_twice g.K.Keeper c.args.office.now c.runs.office c.push_run_line.new.office c.runs.invariant.asks c.in_err-push_run_line.ensures.asks

pub returns-clause-text : goal.returns-clause-text
returns-clause-text g c = λ h all.
    let so = c.runs.invariant in
    let keeper = g.K.Keeper in
    let old = c.args.office.now in
    let size : c.args.finished ≡ length (keeper.content old).reports = all in
    let done : c.runs.done ≡ length (keeper.content old).reports = omega (arith, size, so.within, c.runs-test.false) in
    so.text h (omega (arith, size)) ∙ ap (λ n. string_bytes c.args.text.now ++ lines_to (keeper.setup old) (keeper.content old).kept n) done

pub returns-clause-asks : goal.returns-clause-asks
returns-clause-asks g c = c.runs.invariant.asks
