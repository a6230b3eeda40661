use Rattle.std.proofs.Common.{◌≡◌, Bool, ◌||◌, ◌++◌, ℕ, List, Result, Ok, Err, IfOk, OnOk, is_err, ap, subst, ◌∙◌}
use Rattle.std.proofs.lemmas.Result.{on_err_weaker}
use Rattle.std.specs.Io.KnownBytes.{Appends}
use Rattle.office_mail.specs.Written.{AppendsFront}
use Rattle.office_core_replay.specs.Losses.{is_missing}
use Rattle.office_core.specs.Preserves.{StoreRefused}
use Rattle.office_core_replay.specs.steps.Ending.{WritesRun, mark_in, report_shown}
use Rattle.office_core_facts.specs.State.{state_of}
use Rattle.office_core_replay.proofs.EndFacts.{missing_is}
use Rattle.office_core_replay.proofs.TextFacts.{told_run}
use Rattle.office_core_replay.proofs.end.write_run.Goals as goal

both_same : (a b c d : List ℕ) → a ≡ c → b ≡ d → a ++ b ≡ c ++ d
both_same a b c d e f = ap (λ (l : List ℕ). l ++ b) e ∙ ap (λ (l : List ℕ). c ++ l) f

-- what two facts of one call give
if_ok_both : {T E : Type 0} (r : Result T E) (A : Type 0) (P Q : T → Type 0) → ((x : T) → A → P x → Q x) → OnOk r A → IfOk r P → IfOk r Q
if_ok_both (Ok x) A P Q f a p = f x a p
if_ok_both (Err e) A P Q f a p = tt

pub returns-clause-err : goal.returns-clause-err
returns-clause-err g c =
    let keeper = g.K.Keeper in
    let written = g.W.Sink.written in
    let s0 = c.args.office.now in
    let s1 = c.excuses_text-excuses.new.self in
    let s2 = c.update_text-updates.new.self in
    let r = c.excuses_text-excuses.result in
    let q = c.update_text-updates.result in
    let e = c.excuses_text-excuses.ensures in
    let u = c.update_text-updates.ensures in
    let told = told_run keeper s0 s1 s2 c.args.run r q c.requires e.asks.asks u.asks.asks
    e.text u.text e.asks.counted u.asks.counted in
    λ h last. let t = told h last in on_err_weaker c.write_both-lost.result
    (λ front. record {
      mark = (mark_in r, mark_in q);
      by_store = t.by_store;
      written = subst (AppendsFront (written c.args.writer.now) (written c.write_both-lost.new.writer)) (both_same (report_shown r) (report_shown q) _ _ t.excuses t.updates) front;
    })
    c.write_both-lost.ensures.writes.err

pub returns-clause-ok : goal.returns-clause-ok
returns-clause-ok g c =
    let keeper = g.K.Keeper in
    let written = g.W.Sink.written in
    let s0 = c.args.office.now in
    let s1 = c.excuses_text-excuses.new.self in
    let s2 = c.update_text-updates.new.self in
    let r = c.excuses_text-excuses.result in
    let q = c.update_text-updates.result in
    let e = c.excuses_text-excuses.ensures in
    let u = c.update_text-updates.ensures in
    let told = told_run keeper s0 s1 s2 c.args.run r q c.requires e.asks.asks u.asks.asks
    e.text u.text e.asks.counted u.asks.counted in
    λ h last. let t = told h last in if_ok_both c.write_both-lost.result
    (Appends (written c.args.writer.now) (written c.write_both-lost.new.writer) (report_shown r ++ report_shown q))
    (λ lost. lost ≡ (is_err r || is_err q))
    (λ lost. WritesRun (state_of keeper s0) c.args.run (written c.args.writer.now) (written c.write_both-lost.new.writer) lost (StoreRefused keeper s0 s2))
    (λ lost wrote is. record {
      mark = (mark_in r, mark_in q);
      by_store = t.by_store;
      written = subst (Appends (written c.args.writer.now) (written c.write_both-lost.new.writer)) (both_same (report_shown r) (report_shown q) _ _ t.excuses t.updates) wrote;
      losses = is ∙ ap (λ (b : Bool). b || is_err q) (missing_is r) ∙ ap (λ (b : Bool). is_missing (mark_in r) || b) (missing_is q);
    })
    c.write_both-lost.ensures.writes.ok c.write_both-lost.ensures.lost
