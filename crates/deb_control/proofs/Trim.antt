-- White bytes are ASCII, so a text may be cut where white begins and ends.
use Rattle.std.proofs.Common.{◌≡◌, ℕ, Bool, ◌+◌, ◌-◌, ◌<◌, ◌≤◌, true, List, length, get_or, reverse, arith, ap, ◌∙◌, sym, subst, ⊎_elim}
use Rattle.std.specs.List.{prefix_len, suffix_len}
use Rattle.std.specs.Str.{IsUtf8, IsCharBoundary}
use Rattle.std.proofs.lemmas.Str.{IsCharBoundary-start, IsCharBoundary-after_ascii, IsCharBoundary-before_ascii, IsCharBoundary-end}
use Rattle.std.proofs.lemmas.List.{get_or-reverse}
use Rattle.std.proofs.lemmas.List.Sums.{prefix_len_passes, prefix_len-le-length}
use Rattle.std.proofs.lemmas.Bool.{cases_lt}
use Rattle.std.proofs.lemmas.Bool.Decides.{nat_tests}
use Rattle.deb_control.specs.Text.{is_white}

pub white_is_ascii : (c : ℕ) → is_white c ≡ true → c < 128
white_is_ascii c h = grind (arith, nat_tests)

-- where a run of ASCII characters in front ends
pub boundary_after_run : (p : ℕ → Bool) → ((c : ℕ) → p c ≡ true → c < 128) → (bs : List ℕ) → IsUtf8 bs → IsCharBoundary bs (prefix_len p bs)
boundary_after_run p ascii bs u =
    let n = prefix_len p bs in
    let within = prefix_len-le-length p bs in
    ⊎_elim
    (λ (some : 0 < n).
    let at : IsCharBoundary bs ((n - 1) + 1) = IsCharBoundary-after_ascii bs (n - 1) u (omega arith) (ascii _ (prefix_len_passes p bs (n - 1) 0 (omega arith))) in
    let same : (n - 1) + 1 ≡ n = omega arith in
    subst (λ (k : ℕ). IsCharBoundary bs k) same at)
    (λ (none : n ≤ 0).
    let same : 0 ≡ n = omega arith in
    subst (λ (k : ℕ). IsCharBoundary bs k) same (IsCharBoundary-start bs u))
    (cases_lt 0 n)

-- where the white in front ends
pub boundary_after_white : (bs : List ℕ) → IsUtf8 bs → IsCharBoundary bs (prefix_len is_white bs)
boundary_after_white bs u = boundary_after_run is_white white_is_ascii bs u

-- where the white at the end begins
pub boundary_before_white : (bs : List ℕ) (n : ℕ) → n + suffix_len is_white bs ≡ length bs → IsCharBoundary bs n
boundary_before_white bs n e =
    let len = suffix_len is_white bs in
    ⊎_elim
    (λ (some : 0 < len).
    let passes = prefix_len_passes is_white (reverse bs) (len - 1) 0 (omega arith) in
    let place : length bs - 1 - (len - 1) ≡ n = omega arith in
    let read : get_or (reverse bs) (len - 1) 0 ≡ get_or bs n 0 = get_or-reverse bs (len - 1) 0 (omega arith) ∙ ap (λ (k : ℕ). get_or bs k 0) place in
    IsCharBoundary-before_ascii bs n (omega arith) (white_is_ascii _ (ap is_white (sym read) ∙ passes)))
    (λ (none : len ≤ 0).
    let same : length bs ≡ n = omega arith in
    subst (λ (k : ℕ). IsCharBoundary bs k) same (IsCharBoundary-end bs))
    (cases_lt 0 len)
