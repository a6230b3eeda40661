use Rattle.std.proofs.Common.{◌≡◌, ◌==◌, slice_index, ap, ◌∙◌, arith, eqb-true}
use Rattle.std.specs.List.{position_or_len}
use Rattle.std.proofs.lemmas.List.Sums.{passes_at_first}
use Rattle.deb_control.proofs.Split.{found_within}
use Rattle.archive_lists.proofs.Cuts.{cut_whole}
use Rattle.archive_lists.proofs.list.cut.Goals as goal

pub split_around-requires-clause-in_text : goal.split_around-requires-clause-in_text
split_around-requires-clause-in_text c =
    let place = c.index_of-at.ensures ∙ ap (position_or_len (λ b. b == c.args.separator)) c.as_bytes.ensures.value in
    found_within (λ b. b == c.args.separator) c.args.text.now c.index_of-at.result place c.if-at-text.false

pub split_around-requires-clause-ascii : goal.split_around-requires-clause-ascii
split_around-requires-clause-ascii c =
    let place = c.index_of-at.ensures ∙ ap (position_or_len (λ b. b == c.args.separator)) c.as_bytes.ensures.value in
    let within = found_within (λ b. b == c.args.separator) c.args.text.now c.index_of-at.result place c.if-at-text.false in
    let same : slice_index c.args.text.now c.index_of-at.result ≡ c.args.separator = rw place (eqb-true _ _ (passes_at_first (λ b. b == c.args.separator) c.args.text.now 0 (rw place at within))) in
    omega (arith, same, c.requires.ascii)

pub returns : goal.returns
returns c =
    let place = c.index_of-at.ensures ∙ ap (position_or_len (λ b. b == c.args.separator)) c.as_bytes.ensures.value in
    let within = found_within (λ b. b == c.args.separator) c.args.text.now c.index_of-at.result place c.if-at-text.false in
    rw (c.split_around.ensures.front, c.split_around.ensures.back) (cut_whole c.args.separator c.args.text.now c.index_of-at.result place within)
