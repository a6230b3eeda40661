use Rattle.std.proofs.Common.{◌≡◌, ◌<◌, length, ap, sym, arith, subst, ◌∙◌}
use Rattle.office_mail_setup.specs.declared.setup.Role.TheVariants.{Runs}
use Rattle.office_mail_setup.specs.Lists.{Lists}
use Rattle.office_mail_setup.specs.Setup.{place_of_role, IsSetup}
use Rattle.office_mail_setup.proofs.SetupFacts.{place_below, passed_by}
use Rattle.office_mail_setup.proofs.setup.Setup.runs.Goals as goal

pub returns-clause-there : goal.returns-clause-there
returns-clause-there c =
    let valid : IsSetup c.args.self.now = subst IsSetup c.self.view_is c.self.invariant in
    let below : place_of_role Runs c.args.self.now.senders < length c.args.self.now.senders = place_below Runs _ (omega (arith, valid.runs)) in
    let same : c.as_slice-senders.result.now ≡ c.args.self.now.senders = c.as_slice-senders.ensures.value ∙ ap (λ (s : Lists). s.senders) c.self.view_is in
    omega (arith, below, c.loop-sender.invariant.1, ap (place_of_role Runs) same)

pub loop-sender-preserved : goal.loop-sender-preserved
loop-sender-preserved c =
    (omega arith, passed_by Runs _ c.loop-sender.sender-index c.loop-sender.place c.sender-item.result c.loop-sender-test.true c.loop-sender.invariant.0 c.sender-item.is (sym c.is_runs.ensures ∙ c.if-is_runs.false) c.loop-sender.invariant.1)
