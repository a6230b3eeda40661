use Rattle.std.proofs.Common.{◌≡◌, ◌≤◌, length, get_or, arith}
use Rattle.deb_control.proofs.Ends.{boundary_after_first}
use Rattle.deb_control.proofs.text.strip_char.Goals as goal

pub split_at-requires : goal.split_at-requires
split_at-requires c =
    let some : 1 ≤ length c.args.text.now = rw c.as_bytes.ensures.value at c.in-len1-up.len_at_least in
    let first : get_or c.args.text.now 0 0 ≡ c.args.c = rw c.as_bytes.ensures.value at c.if-first-c.true in
    boundary_after_first c.args.text.now c.utf8.text some (omega (arith, first))
