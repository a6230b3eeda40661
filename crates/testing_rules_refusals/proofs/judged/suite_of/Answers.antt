use Rattle.std.proofs.Common.{arith, ◌≡◌, ◌∙◌, ap, ◌++◌, length, replicate, false}
use Rattle.std.proofs.lemmas.List.{length-map}
use Rattle.testing_install.specs.Rows.{shared}
use Rattle.testing_rules_refusals.proofs.Everywhere.{first_within, all_there_now}
use Rattle.testing_rules_refusals.proofs.judged.suite_of.Goals as goal

pub change-requires-clause-coming : goal.change-requires-clause-coming
change-requires-clause-coming c = λ k d h.
    first_within c.deref.result.now c.len.result (length c.in_ok-suite.suite.rows) k d (c.deref.ensures.value ∙ c.in_ok-places.ensures) c.len.ensures h

pub returns : goal.returns
returns c =
    let s = c.in_ok-suite.suite in
    let shares = c.in_ok-shares.shares.items in
    let there = c.in_ok-suite.ensures.there ∙ ap (λ t. t.there ++ replicate (length shares) false) c.new.ensures in
    let rows : s.rows ≡ shared shares = c.in_ok-suite.ensures.rows ∙ ap (λ t. t.rows ++ shared shares) c.new.ensures in
    let long : length s.rows ≡ length shares = ap length rows ∙ length-map shares (λ r. r.value) in
    let exact = c.in_ok-shares.ensures in
    let comes = c.deref.ensures.value ∙ c.in_ok-places.ensures in
    let now = c.change.new.self in
    record {
      same = c.change.ensures.rows ∙ rows ∙ exact;
      there = λ k h.
          all_there_now (length shares) k c.len.result s.rows s.there now.there c.deref.result.now there long c.len.ensures comes c.in_ok-change.ensures.there
          (omega (arith, h, ap length c.change.ensures.rows));
    }
