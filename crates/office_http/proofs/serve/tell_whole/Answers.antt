use Rattle.office_core.specs.Preserves.{StoreRefused}
use Rattle.office_core_facts.specs.State.{state_of}
use Rattle.office_core.proofs.CarryFacts.{risen}
use Rattle.office_http.proofs.ServeFacts.{told_status, told_testing, told_excuses, told_update, told_waiting, told_runs, told_kept, told_letter, told_bag, told_why, told_order, told_hints, told_unstable, told_propose, told_propose_on, told_propose_for, told_breaks, place_or, place_status, place_text, place_report, place_letter, place_part, place_why}
use Rattle.office_http.proofs.serve.tell_whole.Goals as goal

pub returns-in-Status-clause-place : goal.returns-in-Status-clause-place
returns-in-Status-clause-place g c = rw c.status_answer.ensures (place_status (g.K.Keeper.setup c.args.office.now) c.status.result)

pub returns-in-Status-clause-tells : goal.returns-in-Status-clause-tells
returns-in-Status-clause-tells g c =
    let keeper = g.K.Keeper in
    let s0 = c.args.office.now in
    let s1 = c.status.new.self in
    let r = c.status.result in
    let e = c.status.ensures in
    λ h. rw (c.in-Status.is, c.status_answer.ensures) (told_status (StoreRefused keeper s0 s1) (state_of keeper s0) r (e.ready h) (e.finished h) (risen (keeper.refusals s0) (keeper.refusals s1) r e.asks.counted))

pub returns-in-Testing-clause-place : goal.returns-in-Testing-clause-place
returns-in-Testing-clause-place g c = rw c.text_answer.ensures (place_text (g.K.Keeper.setup c.args.office.now) c.testing_text.result)

pub returns-in-Testing-clause-tells : goal.returns-in-Testing-clause-tells
returns-in-Testing-clause-tells g c =
    let keeper = g.K.Keeper in
    let s0 = c.args.office.now in
    let s1 = c.testing_text.new.self in
    let r = c.testing_text.result in
    let e = c.testing_text.ensures in
    λ h. rw (c.in-Testing.is, c.text_answer.ensures) (told_testing (StoreRefused keeper s0 s1) (state_of keeper s0) r (e.text h) (risen (keeper.refusals s0) (keeper.refusals s1) r e.asks.counted))

pub returns-in-Excuses-clause-place : goal.returns-in-Excuses-clause-place
returns-in-Excuses-clause-place g c = rw c.report_answer.ensures (place_report (g.K.Keeper.setup c.args.office.now) c.excuses_text.result)

pub returns-in-Excuses-clause-tells : goal.returns-in-Excuses-clause-tells
returns-in-Excuses-clause-tells g c =
    let keeper = g.K.Keeper in
    let s0 = c.args.office.now in
    let s1 = c.excuses_text.new.self in
    let r = c.excuses_text.result in
    let e = c.excuses_text.ensures in
    λ h. rw (c.in-Excuses.is, c.report_answer.ensures) (told_excuses (StoreRefused keeper s0 s1) (state_of keeper s0) c.in-Excuses.run' r (e.text h) (risen (keeper.refusals s0) (keeper.refusals s1) r e.asks.counted))

pub returns-in-Update-clause-place : goal.returns-in-Update-clause-place
returns-in-Update-clause-place g c = rw c.report_answer-in-Update.ensures (place_report (g.K.Keeper.setup c.args.office.now) c.update_text.result)

pub returns-in-Update-clause-tells : goal.returns-in-Update-clause-tells
returns-in-Update-clause-tells g c =
    let keeper = g.K.Keeper in
    let s0 = c.args.office.now in
    let s1 = c.update_text.new.self in
    let r = c.update_text.result in
    let e = c.update_text.ensures in
    λ h. rw (c.in-Update.is, c.report_answer-in-Update.ensures) (told_update (StoreRefused keeper s0 s1) (state_of keeper s0) c.in-Update.run' r (e.text h) (risen (keeper.refusals s0) (keeper.refusals s1) r e.asks.counted))

pub returns-in-Waiting-clause-place : goal.returns-in-Waiting-clause-place
returns-in-Waiting-clause-place g c = rw c.text_answer-in-Waiting.ensures (place_text (g.K.Keeper.setup c.args.office.now) c.awaited_text.result)

pub returns-in-Waiting-clause-tells : goal.returns-in-Waiting-clause-tells
returns-in-Waiting-clause-tells g c =
    let keeper = g.K.Keeper in
    let s0 = c.args.office.now in
    let s1 = c.awaited_text.new.office in
    let r = c.awaited_text.result in
    let e = c.awaited_text.ensures in
    λ h. rw (c.in-Waiting.is, c.text_answer-in-Waiting.ensures) (told_waiting (StoreRefused keeper s0 s1) (state_of keeper s0) r (e.tells h) (risen (keeper.refusals s0) (keeper.refusals s1) r e.asks.counted))

pub returns-in-Runs-clause-place : goal.returns-in-Runs-clause-place
returns-in-Runs-clause-place g c = rw c.text_answer-in-Runs.ensures (place_text (g.K.Keeper.setup c.args.office.now) c.runs_text.result)

pub returns-in-Runs-clause-tells : goal.returns-in-Runs-clause-tells
returns-in-Runs-clause-tells g c =
    let keeper = g.K.Keeper in
    let s0 = c.args.office.now in
    let s1 = c.runs_text.new.office in
    let r = c.runs_text.result in
    let e = c.runs_text.ensures in
    λ h. rw (c.in-Runs.is, c.text_answer-in-Runs.ensures) (told_runs (StoreRefused keeper s0 s1) (state_of keeper s0) r (e.text h) (risen (keeper.refusals s0) (keeper.refusals s1) r e.counted))

pub returns-in-Kept-clause-place : goal.returns-in-Kept-clause-place
returns-in-Kept-clause-place g c = rw c.text_answer-in-Kept.ensures (place_text (g.K.Keeper.setup c.args.office.now) c.counted_text.result)

pub returns-in-Kept-clause-tells : goal.returns-in-Kept-clause-tells
returns-in-Kept-clause-tells g c =
    let keeper = g.K.Keeper in
    let s0 = c.args.office.now in
    let s1 = c.counted_text.new.office in
    let r = c.counted_text.result in
    let e = c.counted_text.ensures in
    λ h. rw (c.in-Kept.is, c.text_answer-in-Kept.ensures) (told_kept (StoreRefused keeper s0 s1) (state_of keeper s0) r (e.text h) (risen (keeper.refusals s0) (keeper.refusals s1) r e.asks.counted))

pub returns-in-Letter-clause-place : goal.returns-in-Letter-clause-place
returns-in-Letter-clause-place g c = rw c.letter_answer.ensures (place_letter (g.K.Keeper.setup c.args.office.now) c.kept_text.result)

pub returns-in-Letter-clause-tells : goal.returns-in-Letter-clause-tells
returns-in-Letter-clause-tells g c =
    let keeper = g.K.Keeper in
    let s0 = c.args.office.now in
    let s1 = c.kept_text.new.self in
    let r = c.kept_text.result in
    let e = c.kept_text.ensures in
    λ h. rw (c.in-Letter.is, c.letter_answer.ensures) (told_letter (StoreRefused keeper s0 s1) (state_of keeper s0) c.in-Letter.sender c.in-Letter.number r (e.text h.0) (risen (keeper.refusals s0) (keeper.refusals s1) r e.asks.counted))

pub returns-in-Bag-clause-place : goal.returns-in-Bag-clause-place
returns-in-Bag-clause-place g c = rw c.part_answer.ensures (place_part (g.K.Keeper.setup c.args.office.now) c.bag_part.result)

pub returns-in-Bag-clause-tells : goal.returns-in-Bag-clause-tells
returns-in-Bag-clause-tells g c =
    let keeper = g.K.Keeper in
    let s0 = c.args.office.now in
    let s1 = c.bag_part.new.office in
    let r = c.bag_part.result in
    let e = c.bag_part.ensures in
    λ h. rw (c.in-Bag.is, c.part_answer.ensures) (told_bag (StoreRefused keeper s0 s1) (state_of keeper s0) c.in-Bag.sender c.in-Bag.from r (e.part h) (risen (keeper.refusals s0) (keeper.refusals s1) r e.asks.counted))

pub returns-in-Why-clause-place : goal.returns-in-Why-clause-place
returns-in-Why-clause-place g c = rw c.why_answer.ensures (place_why (g.K.Keeper.setup c.args.office.now) c.source_text.result)

pub returns-in-Why-clause-tells : goal.returns-in-Why-clause-tells
returns-in-Why-clause-tells g c =
    let keeper = g.K.Keeper in
    let s0 = c.args.office.now in
    let s1 = c.source_text.new.office in
    let r = c.source_text.result in
    let e = c.source_text.ensures in
    λ h. rw (c.in-Why.is, c.why_answer.ensures) (told_why (StoreRefused keeper s0 s1) (state_of keeper s0) c.in-Why.source r (e.tells h) (risen (keeper.refusals s0) (keeper.refusals s1) r e.asks.counted))

pub returns-in-Order-clause-place : goal.returns-in-Order-clause-place
returns-in-Order-clause-place g c = rw c.text_answer-in-Order.ensures (place_text (g.K.Keeper.setup c.args.office.now) c.order_on.result)

pub returns-in-Order-clause-tells : goal.returns-in-Order-clause-tells
returns-in-Order-clause-tells g c =
    let keeper = g.K.Keeper in
    let s0 = c.args.office.now in
    let s1 = c.order_on.new.office in
    let r = c.order_on.result in
    let e = c.order_on.ensures in
    λ h. rw (c.in-Order.is, c.text_answer-in-Order.ensures) (told_order (StoreRefused keeper s0 s1) (state_of keeper s0) c.in-Order.day r (e.text h) (risen (keeper.refusals s0) (keeper.refusals s1) r e.asks.counted))

pub returns-in-Hints-clause-place : goal.returns-in-Hints-clause-place
returns-in-Hints-clause-place g c = rw c.text_answer-in-Hints.ensures (place_text (g.K.Keeper.setup c.args.office.now) c.hints_text.result)

pub returns-in-Hints-clause-tells : goal.returns-in-Hints-clause-tells
returns-in-Hints-clause-tells g c =
    let keeper = g.K.Keeper in
    let s0 = c.args.office.now in
    let s1 = c.hints_text.new.self in
    let r = c.hints_text.result in
    let e = c.hints_text.ensures in
    λ h. rw (c.in-Hints.is, c.text_answer-in-Hints.ensures) (told_hints (StoreRefused keeper s0 s1) (state_of keeper s0) r (e.text h) (risen (keeper.refusals s0) (keeper.refusals s1) r e.asks.counted))

pub returns-in-Unstable-clause-place : goal.returns-in-Unstable-clause-place
returns-in-Unstable-clause-place g c = rw c.text_answer-in-Unstable.ensures (place_text (g.K.Keeper.setup c.args.office.now) c.unstable_text.result)

pub returns-in-Unstable-clause-tells : goal.returns-in-Unstable-clause-tells
returns-in-Unstable-clause-tells g c =
    let keeper = g.K.Keeper in
    let s0 = c.args.office.now in
    let s1 = c.unstable_text.new.self in
    let r = c.unstable_text.result in
    let e = c.unstable_text.ensures in
    λ h. rw (c.in-Unstable.is, c.text_answer-in-Unstable.ensures) (told_unstable (StoreRefused keeper s0 s1) (state_of keeper s0) r (e.text h) (risen (keeper.refusals s0) (keeper.refusals s1) r e.asks.counted))

pub returns-in-Propose-clause-place : goal.returns-in-Propose-clause-place
returns-in-Propose-clause-place g c = rw c.answer_or.ensures (place_or (g.K.Keeper.setup c.args.office.now) c.propose_groups.result c.propose_groups.ensures.asks.place)

pub returns-in-Propose-clause-tells : goal.returns-in-Propose-clause-tells
returns-in-Propose-clause-tells g c =
    let keeper = g.K.Keeper in
    let s0 = c.args.office.now in
    let s1 = c.propose_groups.new.office in
    let r = c.propose_groups.result in
    let e = c.propose_groups.ensures in
    λ h. rw (c.in-Propose.is, c.answer_or.ensures) (told_propose (StoreRefused keeper s0 s1) (state_of keeper s0) r (e.tells h) (risen (keeper.refusals s0) (keeper.refusals s1) r e.asks.counted))

pub returns-in-ProposeFor-clause-place : goal.returns-in-ProposeFor-clause-place
returns-in-ProposeFor-clause-place g c = rw c.answer_or-in-ProposeFor.ensures (place_or (g.K.Keeper.setup c.args.office.now) c.propose_for.result c.propose_for.ensures.asks.place)

pub returns-in-ProposeFor-clause-tells : goal.returns-in-ProposeFor-clause-tells
returns-in-ProposeFor-clause-tells g c =
    let keeper = g.K.Keeper in
    let s0 = c.args.office.now in
    let s1 = c.propose_for.new.office in
    let r = c.propose_for.result in
    let e = c.propose_for.ensures in
    λ h. rw (c.in-ProposeFor.is, c.answer_or-in-ProposeFor.ensures) (told_propose_for (StoreRefused keeper s0 s1) (state_of keeper s0) c.in-ProposeFor.source r (e.tells h) (risen (keeper.refusals s0) (keeper.refusals s1) r e.asks.counted))

pub returns-in-ProposeOn-clause-place : goal.returns-in-ProposeOn-clause-place
returns-in-ProposeOn-clause-place g c = rw c.answer_or-in-ProposeOn.ensures (place_or (g.K.Keeper.setup c.args.office.now) c.propose_on.result c.propose_on.ensures.asks.place)

pub returns-in-ProposeOn-clause-tells : goal.returns-in-ProposeOn-clause-tells
returns-in-ProposeOn-clause-tells g c =
    let keeper = g.K.Keeper in
    let s0 = c.args.office.now in
    let s1 = c.propose_on.new.office in
    let r = c.propose_on.result in
    let e = c.propose_on.ensures in
    λ h. rw (c.in-ProposeOn.is, c.answer_or-in-ProposeOn.ensures) (told_propose_on (StoreRefused keeper s0 s1) (state_of keeper s0) c.in-ProposeOn.day r (e.tells h) (risen (keeper.refusals s0) (keeper.refusals s1) r e.asks.counted))

pub returns-in-Breaks-clause-place : goal.returns-in-Breaks-clause-place
returns-in-Breaks-clause-place g c = rw c.answer_or-in-Breaks.ensures (place_or (g.K.Keeper.setup c.args.office.now) c.breaks_of.result c.breaks_of.ensures.asks.place)

pub returns-in-Breaks-clause-tells : goal.returns-in-Breaks-clause-tells
returns-in-Breaks-clause-tells g c =
    let keeper = g.K.Keeper in
    let s0 = c.args.office.now in
    let s1 = c.breaks_of.new.office in
    let r = c.breaks_of.result in
    let e = c.breaks_of.ensures in
    λ h. rw (c.in-Breaks.is, c.answer_or-in-Breaks.ensures) (told_breaks (StoreRefused keeper s0 s1) (state_of keeper s0) c.in-Breaks.source r (e.tells h) (risen (keeper.refusals s0) (keeper.refusals s1) r e.asks.counted))
