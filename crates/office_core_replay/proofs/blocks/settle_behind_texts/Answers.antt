use Rattle.std.proofs.Common.{sym, ◌∙◌}
use Rattle.office_mail.proofs.KeptFacts.{kept_from-nil}
use Rattle.office_core_facts.specs.State.{state_of}
use Rattle.office_core_replay.proofs.DeliverFacts.{keeps_none}
use Rattle.office_core_replay.proofs.blocks.settle_behind_texts.Goals as goal

pub returns-then-is_one_held-clause-settles : goal.returns-then-is_one_held-clause-settles
returns-then-is_one_held-clause-settles g c =
    let keeper = g.K.Keeper in
    let s = c.args.office.now in
    let e = c.settle-settled.ensures in
    λ h. record {
      setup = e.changes.carries.setup;
      kept = e.kept h ∙ sym (kept_from-nil (keeper.setup s) (keeper.content s).kept);
      grows = e.grows h;
      ready = λ was. (e.changes.carries.sound h.0 h.1).1.ready;
    }

pub returns-else-is_one_held-clause-settles : goal.returns-else-is_one_held-clause-settles
returns-else-is_one_held-clause-settles g c = λ h. keeps_none (state_of g.K.Keeper c.args.office.now)
