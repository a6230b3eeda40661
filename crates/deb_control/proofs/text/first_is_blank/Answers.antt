use Rattle.std.proofs.Common.{ap, sym, ne_eqb, ◌∙◌}
use Rattle.deb_control.specs.Text.{is_line_feed}
use Rattle.deb_control.proofs.LineFronts.{blank_at_feed, blank_at_blank, blank_at_other, blank_at_end}
use Rattle.deb_control.proofs.text.first_is_blank.Goals as goal

pub returns-then-c-eq10 : goal.returns-then-c-eq10
returns-then-c-eq10 c = sym (blank_at_feed c.args.bytes.now c.loop-c.c-index c.loop-c-test.true (ap is_line_feed c.if-c-eq10.true)) ∙ c.loop-c.invariant

pub returns-then-not-is_blank : goal.returns-then-not-is_blank
returns-then-not-is_blank c =
    sym (blank_at_other c.args.bytes.now c.loop-c.c-index c.loop-c-test.true (ne_eqb _ _ c.if-c-eq10.false) (sym c.is_blank.ensures ∙ c.if-not-is_blank.true)) ∙ c.loop-c.invariant

pub loop-c-preserved : goal.loop-c-preserved
loop-c-preserved c =
    sym (blank_at_blank c.args.bytes.now c.loop-c.c-index c.loop-c-test.true (ne_eqb _ _ c.if-c-eq10.false) (sym c.is_blank.ensures ∙ c.if-not-is_blank.false)) ∙ c.loop-c.invariant

pub returns : goal.returns
returns c = sym (blank_at_end c.args.bytes.now c.loop-c.c-index c.loop-c-test.false) ∙ c.loop-c.invariant
