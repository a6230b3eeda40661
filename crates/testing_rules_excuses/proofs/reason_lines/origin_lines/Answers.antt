use Rattle.testing_rules_excuses.proofs.reason_lines.origin_lines.Goals as goal

pub returns : goal.returns
returns c = record { ready = c.ready_day-ready.result; is_ready = c.ready_day-ready.ensures; is = c.in_ok-text.ensures }
