use Rattle.std.proofs.Common.{◌≡◌, ℕ, List, length, slice_index, sym, ap, ◌∙◌, arith}
use Rattle.deb_control.specs.Text.{is_line_feed}
use Rattle.deb_control.proofs.Cuts.{colon_at, no_colon}
use Rattle.deb_control.proofs.paragraphs.name_end.Goals as goal

pub returns-then-c-eq58 : goal.returns-then-c-eq58
returns-then-c-eq58 c =
    let same = c.as_bytes-c-items.ensures.value in
    let colon : slice_index c.args.whole.now c.loop-i.i ≡ 58 = ap (λ (bytes : List ℕ). slice_index bytes c.loop-i.i) (sym same) ∙ c.if-c-eq58.true in
    colon_at c.args.whole.now c.loop-i.i (omega (arith, ap length same, c.loop-i-test.true)) c.loop-i.invariant colon

pub returns-then-c-eq10 : goal.returns-then-c-eq10
returns-then-c-eq10 c =
    let same = c.as_bytes-c-items.ensures.value in
    let feed : slice_index c.args.whole.now c.loop-i.i ≡ 10 = ap (λ (bytes : List ℕ). slice_index bytes c.loop-i.i) (sym same) ∙ c.if-c-eq10.true in
    no_colon c.args.whole.now c.loop-i.i (omega (arith, ap length same, c.loop-i-test.true)) c.loop-i.invariant (λ _. ap is_line_feed feed)

pub returns : goal.returns
returns c =
    let same = c.as_bytes-c-items.ensures.value in
    no_colon c.args.whole.now c.loop-i.i (omega (arith, ap length same, c.loop-i.auto.i-end)) c.loop-i.invariant (λ more. absurd (omega (arith, ap length same, c.loop-i-test.false)))
