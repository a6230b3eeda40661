use Rattle.std.proofs.Common.{arith, sym, length, ◌∙◌}
use Rattle.std.proofs.lemmas.List.Sums.{prefix_len_is}
use Rattle.deb_control.specs.Relations.{is_package_char}
use Rattle.deb_control.proofs.grammar.package_len.Goals as goal

pub returns-then-not-is_package_char : goal.returns-then-not-is_package_char
returns-then-not-is_package_char c = sym (prefix_len_is is_package_char c.args.bytes.now c.loop-i.i 0 (omega arith) c.loop-i.invariant (λ _. sym c.is_package_char.ensures ∙ c.if-not-is_package_char.true))

pub returns : goal.returns
returns c = sym (prefix_len_is is_package_char c.args.bytes.now (length c.args.bytes.now) 0 (omega arith) (λ k h. c.loop-i.invariant k (omega arith)) (λ h. absurd (omega arith)))
