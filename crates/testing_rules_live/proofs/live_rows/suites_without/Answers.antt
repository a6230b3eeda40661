use Rattle.std.proofs.Common.{◌≡◌, ◌∙◌, sym, ap, subst, List, []}
use Rattle.testing_install.specs.Among.{after_change}
use Rattle.testing_rules_model.specs.declared.suite.RowIn.{RowIn}
use Rattle.testing_rules_suites.specs.steps.AfterMoves.{rows_without}
use Rattle.testing_rules_suites.specs.steps.PresentSteps.{IsLive, PoolState, present_rows}
use Rattle.testing_rules_model.specs.Suite.{Suite}
use Rattle.testing_rules_items.specs.Words.{Text}
use Rattle.testing_rules_suites.proofs.Alive.{removal_live, removal_stands}
use Rattle.testing_rules_items.proofs.Weaker.{if_ok_weaker}
use Rattle.testing_rules_live.proofs.live_rows.suites_without.Goals as goal

pub returns-clause-rows : goal.returns-clause-rows
returns-clause-rows c =
    let s = c.args.suites in
    let name = c.args.name.now in
    let t : Suite = record { sources = []; rows = present_rows s } in
    let leaving = c.in_ok-change.change.leaving.items in
    let coming = c.in_ok-change.change.coming.items in
    let removal = rw c.as_str.ensures at c.in_ok-change.ensures.removal in
    let made : PoolState = record { rows = s.rows; candidates = s.candidates; first = s.first; stands = after_change leaving coming s.stands; archs = s.archs } in
    if_ok_weaker (λ (new : PoolState). new ≡ made)
    (λ (new : PoolState). (archs : List Text) (unstable : List RowIn) → IsLive s archs unstable (present_rows s) → present_rows new ≡ rows_without name (present_rows s)) c.after.result
    (λ new e archs unstable live.
    let none = ap (λ ks. record { rows = s.rows; candidates = s.candidates; first = s.first; stands = after_change leaving ks s.stands; archs = s.archs }) c.in_ok-change.ensures.none in
    sym (removal_stands s name leaving t live.shown removal archs unstable new live c.after.ensures.long (e ∙ none)))
    c.after.ensures.state

pub returns-clause-live : goal.returns-clause-live
returns-clause-live c =
    let s = c.args.suites in
    let name = c.args.name.now in
    let t : Suite = record { sources = []; rows = present_rows s } in
    let leaving = c.in_ok-change.change.leaving.items in
    let coming = c.in_ok-change.change.coming.items in
    let removal = rw c.as_str.ensures at c.in_ok-change.ensures.removal in
    let made : PoolState = record { rows = s.rows; candidates = s.candidates; first = s.first; stands = after_change leaving coming s.stands; archs = s.archs } in
    if_ok_weaker (λ (new : PoolState). new ≡ made)
    (λ (new : PoolState). (archs : List Text) (unstable : List RowIn) → IsLive s archs unstable (present_rows s) → IsLive new archs unstable (present_rows new)) c.after.result
    (λ new e archs unstable live.
    let none = ap (λ ks. record { rows = s.rows; candidates = s.candidates; first = s.first; stands = after_change leaving ks s.stands; archs = s.archs }) c.in_ok-change.ensures.none in
    let stands = removal_stands s name leaving t live.shown removal archs unstable new live c.after.ensures.long (e ∙ none) in
    subst (λ rows. IsLive new archs unstable rows) stands
    (removal_live s name leaving t live.shown removal archs unstable new live c.after.ensures.long (e ∙ none)))
    c.after.ensures.state
