use Rattle.std.proofs.Common.{arith}
use Rattle.std.proofs.lemmas.List.{length-take-le}
use Rattle.office_http.proofs.CutFacts.{boundary_behind_line}
use Rattle.office_http.proofs.short_texts.split_lines.Goals as goal

pub split_at-requires : goal.split_at-requires
split_at-requires c =
    let text = c.args.text.now in
    let len = rw c.as_bytes.ensures.value at c.whole_len-len.ensures.len in
    let ends = rw c.as_bytes.ensures.value at c.whole_len-len.ensures.ends in
    boundary_behind_line text c.args.room c.whole_len-len.result c.utf8.text c.requires (omega (arith, len, length-take-le c.args.room text c.requires)) ends
