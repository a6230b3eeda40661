use Rattle.std.proofs.Common.{◌≡◌, Bool, ◌||◌, ◌-◌, None, IfOk, ap, subst, ◌∙◌, arith}
use Rattle.std.proofs.lemmas.Result.{err_from_is_err_and}
use Rattle.std.specs.Io.KnownBytes.{Appends}
use Rattle.std.proofs.KnownBytes.{Appends-trans}
use Rattle.office_core.specs.Preserves.{StoreRefused}
use Rattle.office_core_replay.specs.steps.Ending.{mark_in, WritesNews, WritesNewsFront}
use Rattle.office_core_replay.specs.Losses.{is_missing, is_report_missing}
use Rattle.office_core_facts.specs.Outcome.{testing_text, testing_after}
use Rattle.office_core_facts.specs.OfficeState.{OfficeState}
use Rattle.office_core_facts.specs.State.{state_of}
use Rattle.office_mail.specs.Written.{AppendsFront}
use Rattle.office_core.proofs.CarryFacts.{asks_twice, holds_first, holds_next, refused_first, refused_next, risen, state_asked}
use Rattle.office_core_replay.proofs.EndFacts.{count_in, shown_status, ready_counted, shown_text, fill, fill_all, counted-fill, missing_is}
use Rattle.office_core_replay.proofs.RiseFacts.{text_counted, text_weaker, reports_weaker}
use Rattle.office_mail.proofs.WrittenFacts.{front_after, front_before}
use Rattle.office_core_replay.proofs.end.write_end.Goals as goal

pub returns-in_err-write_status-clause-err : goal.returns-in_err-write_status-clause-err
returns-in_err-write_status-clause-err g c =
    let p = err_from_is_err_and c.from_residual.result c.from_residual.ensures.1 in
    let keeper = g.K.Keeper in
    let written = g.W.Sink.written in
    let s0 = c.args.office.now in
    let s1 = c.status-status.new.self in
    let w0 = written c.args.writer.now in
    let w1 = written c.write_status.new.writer in
    let r = c.status-status.result in
    let status = c.status-status.ensures in
    let rose = StoreRefused keeper s0 s1 in
    let st = state_of keeper s0 in
    λ h some. rw p.1 (record {
      ready = count_in r;
      marks = record { status = mark_in r; count = None; reports = fill (st.finished - c.args.before); testing = None };
      each = record { ready_is = ready_counted st r (status.ready h); runs = λ e. fill_all c.args.before st.finished some };
      by_store = record { status = text_counted rose r (risen (keeper.refusals s0) (keeper.refusals s1) r status.asks.counted); count = tt; reports = counted-fill rose (st.finished - c.args.before); testing = tt };
      written = front_before w0 w1 _ _ (front_before w0 w1 _ _ (subst (AppendsFront w0 w1) (shown_status st r (status.finished h)) c.in_err-write_status.ensures.err));
    })

pub returns-in_err-news_lost-clause-err : goal.returns-in_err-news_lost-clause-err
returns-in_err-news_lost-clause-err g c =
    let p = err_from_is_err_and c.from_residual-in_err-news_lost.result c.from_residual-in_err-news_lost.ensures.1 in
    let keeper = g.K.Keeper in
    let written = g.W.Sink.written in
    let s0 = c.args.office.now in
    let s1 = c.status-status.new.self in
    let w0 = written c.args.writer.now in
    let w1 = written c.write_status.new.writer in
    let r = c.status-status.result in
    let status = c.status-status.ensures in
    let s2 = c.write_news.new.office in
    let w2 = written c.write_news.new.writer in
    let one = status.asks.asks in
    let two = c.in_err-news_lost.ensures.asks in
    let rose = StoreRefused keeper s0 s2 in
    λ h some.
    let h1 = holds_first keeper s0 s1 s2 two.carries h in
    let h2 = holds_next keeper s0 s1 s2 one.carries two.carries h in
    let st = state_of keeper s0 in
    let status_is = shown_status st r (status.finished h1) in
    let news = subst (λ (s : OfficeState). WritesNewsFront s c.args.before w1 w2 (StoreRefused keeper s1 s2)) (state_asked keeper s0 s1 one h1.0) (c.in_err-news_lost.ensures.err h2 (omega (arith, some, ap (λ (s : OfficeState). s.finished) (state_asked keeper s0 s1 one h1.0)))) in
    let rises = refused_next keeper s0 s1 s2 one.carries in
    rw p.1 (record {
      ready = count_in r;
      marks = record { status = mark_in r; count = news.count; reports = news.reports; testing = None };
      each = record { ready_is = ready_counted st r (status.ready h1); runs = news.all };
      by_store = record {
        status = text_counted rose r (λ e. refused_first keeper s0 s1 s2 two.carries (risen (keeper.refusals s0) (keeper.refusals s1) r status.asks.counted e));
        count = text_weaker (StoreRefused keeper s1 s2) rose news.count rises news.by_store.0;
        reports = reports_weaker (StoreRefused keeper s1 s2) rose news.reports rises news.by_store.1;
        testing = tt;
      };
      written = front_before w0 w2 _ _ (front_after w0 w1 w2 _ _ (subst (Appends w0 w1) status_is c.in_ok-write_status.ensures.ok) news.written);
    })

pub returns-in_err-write_text-clause-err : goal.returns-in_err-write_text-clause-err
returns-in_err-write_text-clause-err g c =
    let p = err_from_is_err_and c.from_residual-in_err-write_text.result c.from_residual-in_err-write_text.ensures.1 in
    let keeper = g.K.Keeper in
    let written = g.W.Sink.written in
    let s0 = c.args.office.now in
    let s1 = c.status-status.new.self in
    let w0 = written c.args.writer.now in
    let w1 = written c.write_status.new.writer in
    let r = c.status-status.result in
    let status = c.status-status.ensures in
    let s2 = c.write_news.new.office in
    let w2 = written c.write_news.new.writer in
    let one = status.asks.asks in
    let two = c.in_ok-news_lost.ensures.asks in
    let s3 = c.testing_text-testing.new.self in
    let w3 = written c.write_text.new.writer in
    let t = c.testing_text-testing.result in
    let text = c.testing_text-testing.ensures in
    let both = asks_twice keeper s0 s1 s2 one two in
    let three = text.asks.asks in
    let rose = StoreRefused keeper s0 s3 in
    λ h some.
    let hh = holds_first keeper s0 s2 s3 three.carries h in
    let h3 = holds_next keeper s0 s2 s3 both.carries three.carries h in
    let h1 = holds_first keeper s0 s1 s2 two.carries hh in
    let h2 = holds_next keeper s0 s1 s2 one.carries two.carries hh in
    let st = state_of keeper s0 in
    let status_is = shown_status st r (status.finished h1) in
    let news = subst (λ (s : OfficeState). WritesNews s c.args.before w1 w2 c.in_ok-news_lost.news_lost (StoreRefused keeper s1 s2)) (state_asked keeper s0 s1 one h1.0) (c.in_ok-news_lost.ensures.ok h2 (omega (arith, some, ap (λ (s : OfficeState). s.finished) (state_asked keeper s0 s1 one h1.0)))) in
    let rises : StoreRefused keeper s1 s2 → rose = λ e. refused_first keeper s0 s2 s3 three.carries (refused_next keeper s0 s1 s2 one.carries e) in
    let text_is = shown_text (testing_text st.setup st.finished (testing_after st.setup st.kept st.finished)) t (subst (λ (s : OfficeState). IfOk t (λ x. x ≡ testing_text s.setup s.finished (testing_after s.setup s.kept s.finished))) (state_asked keeper s0 s2 both hh.0) (text.text h3)) in
    rw p.1 (record {
      ready = count_in r;
      marks = record { status = mark_in r; count = news.count; reports = news.reports; testing = mark_in t };
      each = record { ready_is = ready_counted st r (status.ready h1); runs = news.all };
      by_store = record {
        status = text_counted rose r (λ e. refused_first keeper s0 s2 s3 three.carries (refused_first keeper s0 s1 s2 two.carries (risen (keeper.refusals s0) (keeper.refusals s1) r status.asks.counted e)));
        count = text_weaker (StoreRefused keeper s1 s2) rose news.count rises news.by_store.0;
        reports = reports_weaker (StoreRefused keeper s1 s2) rose news.reports rises news.by_store.1;
        testing = text_counted rose t (λ e. refused_next keeper s0 s2 s3 both.carries (risen (keeper.refusals s2) (keeper.refusals s3) t text.asks.counted e));
      };
      written = front_after w0 w2 w3 _ _ (Appends-trans w0 w1 w2 _ _ (subst (Appends w0 w1) status_is c.in_ok-write_status.ensures.ok) news.written)
          (subst (AppendsFront w2 w3) text_is c.in_err-write_text.ensures.err);
    })

pub returns-clause-ok : goal.returns-clause-ok
returns-clause-ok g c =
    let keeper = g.K.Keeper in
    let written = g.W.Sink.written in
    let s0 = c.args.office.now in
    let s1 = c.status-status.new.self in
    let w0 = written c.args.writer.now in
    let w1 = written c.write_status.new.writer in
    let r = c.status-status.result in
    let status = c.status-status.ensures in
    let s2 = c.write_news.new.office in
    let w2 = written c.write_news.new.writer in
    let one = status.asks.asks in
    let two = c.in_ok-news_lost.ensures.asks in
    let s3 = c.testing_text-testing.new.self in
    let w3 = written c.write_text.new.writer in
    let t = c.testing_text-testing.result in
    let text = c.testing_text-testing.ensures in
    let both = asks_twice keeper s0 s1 s2 one two in
    let three = text.asks.asks in
    let rose = StoreRefused keeper s0 s3 in
    λ h some.
    let hh = holds_first keeper s0 s2 s3 three.carries h in
    let h3 = holds_next keeper s0 s2 s3 both.carries three.carries h in
    let h1 = holds_first keeper s0 s1 s2 two.carries hh in
    let h2 = holds_next keeper s0 s1 s2 one.carries two.carries hh in
    let st = state_of keeper s0 in
    let status_is = shown_status st r (status.finished h1) in
    let news = subst (λ (s : OfficeState). WritesNews s c.args.before w1 w2 c.in_ok-news_lost.news_lost (StoreRefused keeper s1 s2)) (state_asked keeper s0 s1 one h1.0) (c.in_ok-news_lost.ensures.ok h2 (omega (arith, some, ap (λ (s : OfficeState). s.finished) (state_asked keeper s0 s1 one h1.0)))) in
    let rises : StoreRefused keeper s1 s2 → rose = λ e. refused_first keeper s0 s2 s3 three.carries (refused_next keeper s0 s1 s2 one.carries e) in
    let text_is = shown_text (testing_text st.setup st.finished (testing_after st.setup st.kept st.finished)) t (subst (λ (s : OfficeState). IfOk t (λ x. x ≡ testing_text s.setup s.finished (testing_after s.setup s.kept s.finished))) (state_asked keeper s0 s2 both hh.0) (text.text h3)) in
    record {
      ready = count_in r;
      marks = record { status = mark_in r; count = news.count; reports = news.reports; testing = mark_in t };
      each = record { ready_is = ready_counted st r (status.ready h1); runs = news.all };
      by_store = record {
        status = text_counted rose r (λ e. refused_first keeper s0 s2 s3 three.carries (refused_first keeper s0 s1 s2 two.carries (risen (keeper.refusals s0) (keeper.refusals s1) r status.asks.counted e)));
        count = text_weaker (StoreRefused keeper s1 s2) rose news.count rises news.by_store.0;
        reports = reports_weaker (StoreRefused keeper s1 s2) rose news.reports rises news.by_store.1;
        testing = text_counted rose t (λ e. refused_next keeper s0 s2 s3 both.carries (risen (keeper.refusals s2) (keeper.refusals s3) t text.asks.counted e));
      };
      written = Appends-trans w0 w2 w3 _ _ (Appends-trans w0 w1 w2 _ _ (subst (Appends w0 w1) status_is c.in_ok-write_status.ensures.ok) news.written)
          (subst (Appends w2 w3) text_is c.in_ok-write_text.ensures.ok);
      losses = c.either-2.ensures ∙ ap (λ (b : Bool). b || c.is_err-2.result) (c.either.ensures ∙ ap (λ (b : Bool). b || c.in_ok-news_lost.news_lost) (c.is_err.ensures.value ∙ missing_is r) ∙ ap (λ (b : Bool). is_missing (mark_in r) || b) news.losses)
          ∙ ap (λ (b : Bool). (is_missing (mark_in r) || (is_missing news.count || is_report_missing news.reports)) || b) (c.is_err-2.ensures.value ∙ missing_is t);
    }
