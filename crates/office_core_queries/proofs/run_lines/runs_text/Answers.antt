use Rattle.std.proofs.Common.{ap, ◌++◌, ◌∙◌, sym}
use Rattle.office_core_facts.specs.OfficeState.{OfficeState}
use Rattle.office_core_facts.specs.State.{state_of}
use Rattle.office_core.proofs.CarryFacts.{asks_twice, holds_first, holds_next, state_asked}
use Rattle.office_core_queries.specs.RunLines.{runs_text}
use Rattle.office_core_queries.proofs.run_lines.runs_text.Goals as goal

pub returns-in_err-push_runs-clause-asks : goal.returns-in_err-push_runs-clause-asks
returns-in_err-push_runs-clause-asks g c = asks_twice g.K.Keeper c.args.office.now c.finished.new.self c.push_runs.new.office c.in_ok-count.ensures.asks.asks c.in_err-push_runs.ensures.asks

pub returns-clause-asks : goal.returns-clause-asks
returns-clause-asks g c = asks_twice g.K.Keeper c.args.office.now c.finished.new.self c.push_runs.new.office c.in_ok-count.ensures.asks.asks c.in_ok-push_runs.ensures.asks

pub returns-clause-text : goal.returns-clause-text
returns-clause-text g c = λ h.
    let keeper = g.K.Keeper in
    let s0 = c.args.office.now in
    let s1 = c.finished.new.self in
    let s2 = c.push_runs.new.office in
    let one = c.in_ok-count.ensures in
    let two = c.in_ok-push_runs.ensures in
    let h1 = holds_first keeper s0 s1 s2 two.asks.carries h in
    let h2 = holds_next keeper s0 s1 s2 one.asks.asks.carries two.asks.carries h in
    let is = state_asked keeper s0 s1 one.asks.asks h1.0 in
    c.from_string.ensures ∙ two.text h2 (one.finished h1 ∙ sym (ap (λ (s : OfficeState). s.finished) is)) ∙ ap (λ t. t ++ runs_text (state_of keeper s1)) c.new-text.ensures.bytes ∙ ap runs_text is
