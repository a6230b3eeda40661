use Rattle.std.proofs.Common.{◌≡◌, ◌∙◌, ap, length, filter, List, Bool, ℕ}
use Rattle.std.specs.List.{range_with_len}
use Rattle.testing_install.specs.Among.{after_change}
use Rattle.testing_install.specs.Closed.{marked}
use Rattle.testing_rules_items.proofs.Weaker.{if_ok_weaker}
use Rattle.testing_rules_suites.specs.Present.{CarriedState}
use Rattle.testing_rules_suites.specs.steps.Standing.{is_alone}
use Rattle.testing_rules_suites.proofs.StandingFacts.{alone_change, alone_flags}
use Rattle.testing_rules_suites.proofs.lent_suites.with_flags.Goals as goal

pub after-requires : goal.after-requires
after-requires c =
    let flags = c.args.flags.now in
    let s = c.args.suites in
    let leave = c.in_ok-leaving.ensures ∙ ap (λ (ss : List Bool). filter (is_alone ss flags) (range_with_len 0 (length ss))) c.stands.ensures.flags in
    let come = c.in_ok-coming.ensures ∙ ap (λ (ss : List Bool). filter (is_alone flags ss) (range_with_len 0 (length flags))) c.stands-2.ensures.flags in
    alone_change s.rows s.stands flags c.in_ok-leaving.leaving.items c.in_ok-coming.coming.items c.stands.ensures.long c.requires leave come

pub returns : goal.returns
returns c =
    let flags = c.args.flags.now in
    let s = c.args.suites in
    let leaving = c.in_ok-leaving.leaving.items in
    let coming = c.in_ok-coming.coming.items in
    let leave = c.in_ok-leaving.ensures ∙ ap (λ (ss : List Bool). filter (is_alone ss flags) (range_with_len 0 (length ss))) c.stands.ensures.flags in
    let come = c.in_ok-coming.ensures ∙ ap (λ (ss : List Bool). filter (is_alone flags ss) (range_with_len 0 (length flags))) c.stands-2.ensures.flags in
    if_ok_weaker (λ (t : CarriedState). t ≡ record { rows = s.rows; stands = after_change leaving coming s.stands; archs = s.archs })
    (λ (t : CarriedState). (t.rows ≡ s.rows) × ((k : ℕ) → marked t.stands k ≡ marked flags k)) c.after.result
    (λ t is. (ap (λ (u : CarriedState). u.rows) is, λ k. ap (λ (u : CarriedState). marked u.stands k) is ∙ alone_flags s.rows s.stands flags leaving coming c.stands.ensures.long c.requires leave come k))
    c.after.ensures.state
