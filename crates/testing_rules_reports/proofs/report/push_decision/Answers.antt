use Rattle.std.proofs.Common.{append_assoc}
use Rattle.std.proofs.lemmas.Result.{IfOk-from_err}
use Rattle.testing_rules_reports.proofs.report.push_decision.Goals as goal

pub returns-in-EasyNotCandidate : goal.returns-in-EasyNotCandidate
returns-in-EasyNotCandidate c = rw c.in-EasyNotCandidate.is (simp append_assoc (rw (c.as_str-name.ensures, c.text-version.ensures.text) at c.writeln-in-EasyNotCandidate.ensures.bytes))

pub returns-in_err-write-in-RemoveRefused : goal.returns-in_err-write-in-RemoveRefused
returns-in_err-write-in-RemoveRefused c = IfOk-from_err c.from_residual.result _ c.from_residual.ensures.0

pub returns-in_err-write-in-EasyDone : goal.returns-in_err-write-in-EasyDone
returns-in_err-write-in-EasyDone c = IfOk-from_err c.from_residual-in_err-write-in-EasyDone.result _ c.from_residual-in_err-write-in-EasyDone.ensures.0

pub returns-in_err-write-in-EasyRefused : goal.returns-in_err-write-in-EasyRefused
returns-in_err-write-in-EasyRefused c = IfOk-from_err c.from_residual-in_err-write-in-EasyRefused.result _ c.from_residual-in_err-write-in-EasyRefused.ensures.0

pub returns-in_err-write-in-Wait : goal.returns-in_err-write-in-Wait
returns-in_err-write-in-Wait c = IfOk-from_err c.from_residual-in_err-write-in-Wait.result _ c.from_residual-in_err-write-in-Wait.ensures.0
