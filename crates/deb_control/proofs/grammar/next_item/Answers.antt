use Rattle.std.proofs.Common.{◌≡◌, ◌+◌, ◌==◌, length, slice_index, sym, ap, ◌∙◌, arith, eqb-true}
use Rattle.std.specs.List.{position_or_len}
use Rattle.std.proofs.lemmas.List.{length-drop}
use Rattle.std.proofs.lemmas.List.Splits.{slice_split_first}
use Rattle.std.proofs.lemmas.List.Sums.{passes_at_first}
use Rattle.deb_control.proofs.Split.{found_within, split_none}
use Rattle.deb_control.proofs.grammar.next_item.Goals as goal

pub returns-then-end-text-clause-items : goal.returns-then-end-text-clause-items
returns-then-end-text-clause-items c =
    let place = c.index_of-end.ensures ∙ ap (position_or_len (λ b. b == c.args.separator)) c.as_bytes.ensures.value in
    split_none (λ b. b == c.args.separator) c.args.text.now (sym place ∙ c.if-end-text.true)

pub split_around-requires : goal.split_around-requires
split_around-requires c =
    let place = c.index_of-end.ensures ∙ ap (position_or_len (λ b. b == c.args.separator)) c.as_bytes.ensures.value in
    let within = found_within (λ b. b == c.args.separator) c.args.text.now c.index_of-end.result place c.if-end-text.false in
    let same : slice_index c.args.text.now c.index_of-end.result ≡ c.args.separator = rw place (eqb-true _ _ (passes_at_first (λ b. b == c.args.separator) c.args.text.now 0 (rw place at within))) in
    record { in_text = within; ascii = omega (arith, same, c.requires) }

pub returns : goal.returns
returns c =
    let place = c.index_of-end.ensures ∙ ap (position_or_len (λ b. b == c.args.separator)) c.as_bytes.ensures.value in
    let within = found_within (λ b. b == c.args.separator) c.args.text.now c.index_of-end.result place c.if-end-text.false in
    let cut = slice_split_first (λ b. b == c.args.separator) c.args.text.now 0 (rw place at within) in
    record {
      items = rw (c.split_around.ensures.front, c.split_around.ensures.back, place) cut;
      shorter = omega (arith, within, ap length c.split_around.ensures.back, length-drop (c.index_of-end.result + 1) c.args.text.now);
    }
