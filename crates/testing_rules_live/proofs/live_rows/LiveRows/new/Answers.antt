use Rattle.std.proofs.Common.{sym, subst, ◌∙◌}
use Rattle.testing_rules_model.specs.JudgedRows.{lent}
use Rattle.testing_rules_suites.specs.CarriedOver.{AreCarriedOver}
use Rattle.testing_rules_suites.specs.steps.PresentSteps.{IsLive}
use Rattle.testing_rules_suites.proofs.Alive.{live_before}
use Rattle.testing_rules_suites.proofs.Showing.{is_present, present_rows-by_key}
use Rattle.testing_rules_live.proofs.live_rows.LiveRows.new.Goals as goal

pub kept_or_new-requires-clause-kept : goal.kept_or_new-requires-clause-kept
kept_or_new-requires-clause-kept c = subst (AreCarriedOver c.args.kept) (sym c.rows.ensures.entries) c.requires

pub returns-clause-rows : goal.returns-clause-rows
returns-clause-rows c =
    let s = c.in_ok-suites.suites in
    let kept = c.in_ok-kept.kept in
    let rows = c.rows.result.now in
    let live =
    live_before s c.args.archs.now kept (lent c.args.unstable.rows.now) rows c.in_ok-kept.ensures.shown c.in_ok-suites.ensures.long c.in_ok-suites.ensures.rows c.in_ok-suites.ensures.first
    (c.in_ok-suites.ensures.archs ∙ c.in_ok-kept.ensures.archs ∙ c.len.ensures.len) c.in_ok-suites.ensures.stands in
    sym (is_present s rows live.shown) ∙ c.rows.ensures.entries

pub returns-clause-live : goal.returns-clause-live
returns-clause-live c =
    let s = c.in_ok-suites.suites in
    let kept = c.in_ok-kept.kept in
    let archs = c.args.archs.now in
    let unstable = lent c.args.unstable.rows.now in
    let rows = c.rows.result.now in
    let live =
    live_before s archs kept unstable rows c.in_ok-kept.ensures.shown c.in_ok-suites.ensures.long c.in_ok-suites.ensures.rows c.in_ok-suites.ensures.first
    (c.in_ok-suites.ensures.archs ∙ c.in_ok-kept.ensures.archs ∙ c.len.ensures.len) c.in_ok-suites.ensures.stands in
    subst (λ rs. IsLive s archs unstable rs) (is_present s rows live.shown) live

pub returns-clause-by_key : goal.returns-clause-by_key
returns-clause-by_key c = present_rows-by_key c.in_ok-suites.suites
