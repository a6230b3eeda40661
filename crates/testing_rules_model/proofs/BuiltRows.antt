-- The step of a loop over the architectures that puts in their builds.
use Rattle.std.specs.Prelude.{ℕ, ◌+◌, ◌<◌, ◌≤◌, ◌==◌, false, List, [], ◌∷◌, ◌++◌, length, take, get_or}
use Rattle.std.proofs.Common.{◌≡◌, refl, sym, ap, ◌∙◌, arith, append-nil}
use Rattle.std.proofs.lemmas.Bool.Decides.{nat_tests}
use Rattle.std.proofs.lemmas.List.{take_more, take_all}
use Rattle.std.proofs.lemmas.Grind.{flat_map-append}
use Rattle.std.proofs.lemmas.List.FromFn.{get_or-enumerate_from, length-enumerate_from}
use Rattle.std.specs.List.{enumerate_from, flat_map}
use Rattle.testing_rules_model.specs.declared.facts.BuildIn.{BuildIn}
use Rattle.testing_rules_items.specs.Words.{Text, arch_name}
use Rattle.testing_rules_model.specs.steps.Unstable.{built_on}

name_at : (archs : List Text) (k : ℕ) → k < length archs → length archs ≤ 16 → arch_name archs k ≡ get_or archs k []
name_at archs k h few =
    let other : (k == 16) ≡ false = grind (arith, nat_tests) in
    rw other refl

pub built-more : (builds : List BuildIn) (archs : List Text) (k : ℕ) → k < length archs → length archs ≤ 16
    → flat_map (built_on builds) (take (k + 1) (enumerate_from 0 archs)) ≡ flat_map (built_on builds) (take k (enumerate_from 0 archs)) ++ built_on builds (k, arch_name archs k)
built-more builds archs k h few =
    let ps = enumerate_from 0 archs in
    let low : k < length ps = omega (arith, length-enumerate_from 0 archs) in
    let at : get_or ps k (0, []) ≡ (k, arch_name archs k) =
    get_or-enumerate_from 0 archs k (0, []) h ∙ ap (λ n. (n, get_or archs k [])) (let e : 0 + k ≡ k = omega arith in e) ∙ ap (λ t. (k, t)) (sym (name_at archs k h few)) in
    ap (flat_map (built_on builds)) (take_more ps k (0, []) low)
    ∙ flat_map-append (built_on builds) (take k ps) (get_or ps k (0, []) ∷ [])
    ∙ ap (λ t. flat_map (built_on builds) (take k ps) ++ t) (append-nil (built_on builds (get_or ps k (0, []))) ∙ ap (built_on builds) at)

-- after the last of them `all` comes
pub built-last : (builds : List BuildIn) (archs : List Text) (p : ℕ × Text) (k : ℕ) → length archs ≤ k
    → flat_map (built_on builds) (take k (enumerate_from 0 archs)) ++ built_on builds p ≡ flat_map (built_on builds) (enumerate_from 0 archs ++ p ∷ [])
built-last builds archs p k h =
    ap (λ ps. flat_map (built_on builds) ps ++ built_on builds p) (take_all k (enumerate_from 0 archs) (let low : length (enumerate_from 0 archs) ≤ k = omega (arith, length-enumerate_from 0 archs) in low))
    ∙ ap (λ t. flat_map (built_on builds) (enumerate_from 0 archs) ++ t) (sym (append-nil (built_on builds p)))
    ∙ sym (flat_map-append (built_on builds) (enumerate_from 0 archs) (p ∷ []))
