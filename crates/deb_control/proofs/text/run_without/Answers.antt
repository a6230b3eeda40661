use Rattle.std.proofs.Common.{◌==◌, eqb, sym, ap, ◌∙◌, arith, w8}
use lib.Count.{count_trailing_zeros}
use lib.Lanes.{chunk}
use Rattle.std.proofs.lemmas.Simd.{length-chunk, bitmask_splat, leading_from_mask_l, trailing_mask_l, run_in_chunk_le, run_in_chunk_fails, run_in_chunk_stops}
use Rattle.deb_control.proofs.text.run_without.Goals as goal

pub returns-then-hits-eq0 : goal.returns-then-hits-eq0
returns-then-hits-eq0 c =
    let lanes = chunk c.args.at 16 c.args.bytes.now in
    let long = length-chunk c.args.at 16 c.args.bytes.now c.requires in
    let hits = bitmask_splat w8 eqb lanes 16 c.args.byte long (omega arith) in
    let counted = sym (leading_from_mask_l (λ b. b == c.args.byte) lanes (sym hits ∙ c.if-hits-eq0.true) ∙ long) in
    record {
      short = run_in_chunk_le (λ b. b == c.args.byte) c.args.bytes.now c.args.at 16 16 0 c.requires counted;
      without = run_in_chunk_fails (λ b. b == c.args.byte) c.args.bytes.now c.args.at 16 16 0 c.requires counted;
      ends = run_in_chunk_stops (λ b. b == c.args.byte) c.args.bytes.now c.args.at 16 16 0 c.requires counted;
    }

pub returns-else-hits-eq0 : goal.returns-else-hits-eq0
returns-else-hits-eq0 c =
    let lanes = chunk c.args.at 16 c.args.bytes.now in
    let long = length-chunk c.args.at 16 c.args.bytes.now c.requires in
    let hits = bitmask_splat w8 eqb lanes 16 c.args.byte long (omega arith) in
    let counted = ap (count_trailing_zeros 64) hits ∙ trailing_mask_l (λ b. b == c.args.byte) 64 lanes (omega (arith, long)) (omega (arith, hits, c.if-hits-eq0.false)) in
    record {
      short = run_in_chunk_le (λ b. b == c.args.byte) c.args.bytes.now c.args.at 16 _ 0 c.requires counted;
      without = run_in_chunk_fails (λ b. b == c.args.byte) c.args.bytes.now c.args.at 16 _ 0 c.requires counted;
      ends = run_in_chunk_stops (λ b. b == c.args.byte) c.args.bytes.now c.args.at 16 _ 0 c.requires counted;
    }
