use Rattle.std.proofs.Common.{List, ℕ, IfOk, subst}
use Rattle.std.proofs.lemmas.Bool.{false_from_ne_true}
use Rattle.std.proofs.lemmas.Str.{IsUtf8-from_is_utf8, is_utf8-from_IsUtf8}
use Rattle.std.specs.Str.{is_utf8}
use Rattle.office_core.specs.Preserves.{StoreRefused}
use Rattle.office_core_facts.specs.State.{state_of}
use Rattle.office_core.proofs.CarryFacts.{risen, state_asked}
use Rattle.office_http.specs.steps.ServeSteps.{TellsChanges}
use Rattle.office_http.specs.Trials.{hints_in}
use Rattle.office_http.proofs.ServeFacts.{place_or}
use Rattle.office_http.proofs.BreakFacts.{asked, asked_bad}
use Rattle.office_http.proofs.serve.break_bytes.Goals as goal

pub returns-in-Ok-clause-carries : goal.returns-in-Ok-clause-carries
returns-in-Ok-clause-carries g c = c.breaks_body.ensures.asks.asks.carries

pub returns-in-Ok-clause-place : goal.returns-in-Ok-clause-place
returns-in-Ok-clause-place g c = rw c.answer_or.ensures (place_or (g.K.Keeper.setup c.args.office.now) c.breaks_body.result c.breaks_body.ensures.asks.place)

pub returns-in-Ok-clause-runs : goal.returns-in-Ok-clause-runs
returns-in-Ok-clause-runs g c =
    let keeper = g.K.Keeper in
    let s0 = c.args.office.now in
    let s1 = c.breaks_body.new.office in
    let body = c.args.body.now in
    let r = c.breaks_body.result in
    let e = c.breaks_body.ensures in
    λ h. rw c.answer_or.ensures (asked (StoreRefused keeper s0 s1) (state_of keeper s0) (state_of keeper s1) body r (is_utf8-from_IsUtf8 body c.in-Ok.ensures.cases.1)
    (subst (λ (t : List ℕ). IfOk r (λ a. TellsChanges (state_of keeper s0) (hints_in t) a)) c.in-Ok.ensures.cases.0 (e.tells h))
    (state_asked keeper s0 s1 e.asks.asks h.0) (risen (keeper.refusals s0) (keeper.refusals s1) r e.asks.counted))

pub returns-in-Err-clause-runs : goal.returns-in-Err-clause-runs
returns-in-Err-clause-runs g c =
    let s = c.args.office.now in
    let body = c.args.body.now in
    λ h. asked_bad (StoreRefused g.K.Keeper s s) (state_of g.K.Keeper s) body (false_from_ne_true (is_utf8 body) (λ t. c.in-Err.ensures.cases.0 (IsUtf8-from_is_utf8 body t)))
