use Rattle.std.proofs.Common.{ℕ, Result, Some, Err, [], ap, refl}
use Rattle.std.proofs.lemmas.Result.{err_from_is_err_and}
use Rattle.office_core_store.specs.declared.faults.StoreFault.{StoreFault}
use Rattle.office_core.specs.Preserves.{StoreRefused}
use Rattle.office_core.proofs.CarryFacts.{risen}
use Rattle.office_core_replay.proofs.RiseFacts.{fault_counted}
use Rattle.office_core_replay.proofs.end.write_news.Goals as goal

pub returns-in_err-write_refusal-in-Err-clause-err : goal.returns-in_err-write_refusal-in-Err-clause-err
returns-in_err-write_refusal-in-Err-clause-err g c =
    let keeper = g.K.Keeper in
    let s0 = c.args.office.now in
    let s1 = c.finished.new.self in
    let err : StoreFault → Result ℕ StoreFault = λ f. Err f in
    let r : Result ℕ StoreFault = Err c.in-Err.fault in
    let p = err_from_is_err_and c.from_residual.result c.from_residual.ensures.1 in
    λ h some. rw p.1 (record {
      count = Some c.in-Err.fault;
      reports = [];
      all = λ e. absurd (cc (e));
      written = c.in_err-write_refusal-in-Err.ensures.err;
      by_store = (fault_counted (StoreRefused keeper s0 s1) c.in-Err.fault (λ e. risen (keeper.refusals s0) (keeper.refusals s1) r c.in-Err.ensures.asks.counted (ap err e)), tt);
    })

pub returns-in_ok-write_refusal-in-Err-clause-ok : goal.returns-in_ok-write_refusal-in-Err-clause-ok
returns-in_ok-write_refusal-in-Err-clause-ok g c =
    let keeper = g.K.Keeper in
    let s0 = c.args.office.now in
    let s1 = c.finished.new.self in
    let err : StoreFault → Result ℕ StoreFault = λ f. Err f in
    let r : Result ℕ StoreFault = Err c.in-Err.fault in
    λ h some. record {
      count = Some c.in-Err.fault;
      reports = [];
      all = λ e. absurd (cc (e));
      written = c.in_ok-write_refusal-in-Err.ensures.ok;
      losses = refl;
      by_store = (fault_counted (StoreRefused keeper s0 s1) c.in-Err.fault (λ e. risen (keeper.refusals s0) (keeper.refusals s1) r c.in-Err.ensures.asks.counted (ap err e)), tt);
    }
