use Rattle.std.proofs.Common.{◌≡◌, ◌≤◌, ◌-◌, ◌++◌, string_bytes, length}
use Rattle.office_core.specs.Preserves.{Asks, Holds}
use Rattle.office_core_queries.specs.RunLines.{lines_to}
use Rattle.office_core_queries.proofs.run_lines.push_runs.Given as goal

-- the lines on the runs so far
abbrev pub invariant-runs : goal.invariant-runs
invariant-runs g l =
    let keeper = g.K.Keeper in
    let old = l.fn.office in
    record {
      asks : Asks keeper old l.office;
      text : Holds keeper old l.office → l.finished ≤ length (keeper.content old).reports → string_bytes l.text ≡ string_bytes l.fn.text ++ lines_to (keeper.setup old) (keeper.content old).kept l.done;
      within : l.done ≤ l.finished;
      counted : keeper.refusals l.office ≡ keeper.refusals old;
    }

abbrev pub decreases-runs : goal.decreases-runs
decreases-runs g l = l.finished - l.done
