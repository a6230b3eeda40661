use Rattle.std.proofs.Common.{◌≡◌, ◌++◌, ℕ, List, append_assoc, length, string_bytes, sym, ap, ◌∙◌, arith}
use Rattle.std.specs.List.{flat_map, range_with_len}
use Rattle.testing_rules_model.specs.JudgedRows.{lent}
use Rattle.office_core_breaks.specs.steps.Grounds.{known_on}
use Rattle.office_core_breaks.specs.Texts.{broken_text}
use Rattle.office_core_breaks.proofs.EachArch.{each_arch}
use Rattle.office_core_breaks.proofs.lines.push_all.Goals as goal

pub loop-arch-preserved : goal.loop-arch-preserved
loop-arch-preserved c =
    let a = c.args in
    let k = c.loop-arch.arch in
    let old : List ℕ = string_bytes a.text.now in
    let f : ℕ → List ℕ = broken_text (known_on a.input.now) (lent a.input.now.unstable.rows.now) (lent a.old.now) (lent a.new.now) in
    c.in_ok-push_arch.ensures ∙ ap (λ xs. xs ++ f k) c.loop-arch.invariant ∙ append_assoc old (flat_map f (range_with_len 0 k)) (f k) ∙ ap (λ xs. old ++ xs) (sym (each_arch f k))

pub returns : goal.returns
returns c =
    let a = c.args in
    let old : List ℕ = string_bytes a.text.now in
    let f : ℕ → List ℕ = broken_text (known_on a.input.now) (lent a.input.now.unstable.rows.now) (lent a.old.now) (lent a.new.now) in
    let all : c.loop-arch.arch ≡ length a.input.now.archs.now = omega arith in
    c.loop-arch.invariant ∙ ap (λ n. old ++ flat_map f (range_with_len 0 n)) all
