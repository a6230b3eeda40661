use Rattle.std.proofs.Common.{ℕ, List, take, drop, sym, ap, ◌∙◌, arith}
use Rattle.std.specs.List.{prefix_len}
use Rattle.std.proofs.lemmas.List.Sums.{prefix_len-le-length}
use Rattle.deb_control.specs.Relations.{is_package_char, is_package_name}
use Rattle.deb_control.specs.steps.ClauseSteps.{is_package}
use Rattle.deb_control.proofs.PackageNames.{good_package, bad_package}
use Rattle.deb_control.proofs.grammar.split_package.Goals as goal

pub is_package-requires : goal.is_package-requires
is_package-requires c = omega (arith, c.package_len-len.ensures, prefix_len-le-length is_package_char c.as_bytes-bytes.result.now)

pub returns-then-not-is_package : goal.returns-then-not-is_package
returns-then-not-is_package c =
    let len = c.package_len-len.result in
    let same = c.as_bytes-bytes.ensures.value in
    bad_package c.args.text.now len (c.package_len-len.ensures ∙ ap (prefix_len is_package_char) same)
    (ap (λ (text : List ℕ). is_package text len) (sym same) ∙ sym c.is_package.ensures ∙ c.if-not-is_package.true)

pub returns : goal.returns
returns c =
    let len = c.package_len-len.result in
    let same = c.as_bytes-bytes.ensures.value in
    let cut = c.split_at.ensures in
    let good = good_package c.args.text.now len (c.package_len-len.ensures ∙ ap (prefix_len is_package_char) same)
    (ap (λ (text : List ℕ). is_package text len) (sym same) ∙ sym c.is_package.ensures ∙ c.if-not-is_package.false) in
    (cut.front ∙ ap (λ (k : ℕ). take k c.args.text.now) (sym good.0), cut.back ∙ ap (λ (k : ℕ). drop k c.args.text.now) (sym good.0), ap is_package_name cut.front ∙ good.1)
