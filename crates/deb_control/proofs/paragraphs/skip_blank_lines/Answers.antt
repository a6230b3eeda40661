use Rattle.std.proofs.Common.{◌≡◌, ◌+◌, ℕ, true, drop, slice_index, sym, ap, ◌∙◌, arith, rules}
use Rattle.std.specs.List.{position_or_len}
use Rattle.deb_control.specs.Text.{is_line_feed, is_blank_line}
use Rattle.deb_control.specs.Paragraphs.{reading_of_text}
use Rattle.deb_control.specs.steps.ReaderSteps.{line_in_front}
use Rattle.deb_control.proofs.Lines.{reading_past_blank, reading_of_blank, reading_of_nothing}
use Rattle.deb_control.proofs.Cuts.{feed_at, feed_within}
use Rattle.deb_control.proofs.paragraphs.skip_blank_lines.Goals as goal

pub returns-then-end-rest-clause-same : goal.returns-then-end-rest-clause-same
returns-then-end-rest-clause-same c =
    let blank : is_blank_line (line_in_front c.lines.rest.now) ≡ true = ap (λ bytes. is_blank_line (line_in_front bytes)) (sym c.as_bytes.ensures.value) ∙ sym c.begins_blank.ensures ∙ c.lines-test.true in
    let place : c.index_of-end.result ≡ position_or_len is_line_feed c.lines.rest.now = c.index_of-end.ensures ∙ ap (position_or_len is_line_feed) c.as_bytes-in-lines.ensures.value in
    reading_of_nothing ∙ sym (reading_of_blank c.lines.rest.now blank (sym place ∙ c.if-end-rest.true)) ∙ c.lines.invariant.1

pub split_around-requires-clause-ascii : goal.split_around-requires-clause-ascii
split_around-requires-clause-ascii c =
    let place : c.index_of-end.result ≡ position_or_len is_line_feed c.lines.rest.now = c.index_of-end.ensures ∙ ap (position_or_len is_line_feed) c.as_bytes-in-lines.ensures.value in
    let within = feed_within c.lines.rest.now c.index_of-end.result place c.if-end-rest.false in
    let feed : slice_index c.lines.rest.now c.index_of-end.result ≡ 10 = rw place (feed_at c.lines.rest.now (rw place at within)) in
    omega (arith, feed)

pub lines-preserved : goal.lines-preserved
lines-preserved c =
    let blank : is_blank_line (line_in_front c.lines.rest.now) ≡ true = ap (λ bytes. is_blank_line (line_in_front bytes)) (sym c.as_bytes.ensures.value) ∙ sym c.begins_blank.ensures ∙ c.lines-test.true in
    let place : c.index_of-end.result ≡ position_or_len is_line_feed c.lines.rest.now = c.index_of-end.ensures ∙ ap (position_or_len is_line_feed) c.as_bytes-in-lines.ensures.value in
    let within = feed_within c.lines.rest.now c.index_of-end.result place c.if-end-rest.false in
    let after = c.split_around.ensures.back ∙ ap (λ (n : ℕ). drop (n + 1) c.lines.rest.now) place in (
      search rules,
      ap reading_of_text after ∙ reading_past_blank c.lines.rest.now blank (rw place at within) ∙ c.lines.invariant.1,
    )
