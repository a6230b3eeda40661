-- Where versions and qualifiers end, a text may be cut.
use Rattle.std.proofs.Common.{◌≡◌, ℕ, ◌<◌, ◌≤◌, Bool, true, false, List, length, get_or, Option, Some, None, sym, ◌∙◌, subst, ⊎_elim, arith, ltb}
use Rattle.std.specs.List.{position, position_or_len}
use Rattle.std.specs.Str.{IsUtf8, IsCharBoundary}
use Rattle.std.proofs.lemmas.Str.{IsCharBoundary-before_ascii, IsCharBoundary-after_ascii}
use Rattle.std.proofs.lemmas.List.Sums.{passes_at_first}
use Rattle.std.proofs.lemmas.Bool.{cases_Bool, cond-true, cond-false, ltb-true}
use Rattle.std.proofs.lemmas.Bool.Decides.{nat_tests}
use Rattle.deb_control.specs.Relations.{ends_version, is_qualifier_char}

pub version_ends_in_ascii : (c : ℕ) → ends_version c ≡ true → c < 128
version_ends_in_ascii c h = grind (arith, nat_tests)

pub qualifiers_are_ascii : (c : ℕ) → is_qualifier_char c ≡ true → c < 128
qualifiers_are_ascii c h = grind (arith, nat_tests)

-- a place that a search found
found_at : (p : ℕ → Bool) (bs : List ℕ) (n : ℕ) → Some n ≡ position p bs → (n ≡ position_or_len p bs) × (position_or_len p bs < length bs)
found_at p bs n e = ⊎_elim
    (λ (yes : ltb (position_or_len p bs) (length bs) ≡ true). let some : Some n ≡ Some (position_or_len p bs) = e ∙ cond-true _ _ _ yes in (cc, ltb-true _ _ yes))
    (λ (no : ltb (position_or_len p bs) (length bs) ≡ false). let none : ◌≡◌ {A = Option ℕ} (Some n) None = e ∙ cond-false _ _ _ no in cc)
    (cases_Bool (ltb (position_or_len p bs) (length bs)))

pub boundary_at_found : (p : ℕ → Bool) → ((c : ℕ) → p c ≡ true → c < 128) → (bs : List ℕ) (n : ℕ) → Some n ≡ position p bs → IsCharBoundary bs n
boundary_at_found p ascii bs n e =
    let at = found_at p bs n e in
    subst (λ (k : ℕ). IsCharBoundary bs k) (sym at.0) (IsCharBoundary-before_ascii bs (position_or_len p bs) at.1 (ascii _ (passes_at_first p bs 0 at.1)))

-- behind one ASCII character
pub boundary_after_first : (bs : List ℕ) → IsUtf8 bs → 1 ≤ length bs → get_or bs 0 0 < 128 → IsCharBoundary bs 1
boundary_after_first bs u some ascii = IsCharBoundary-after_ascii bs 0 u (omega arith) ascii
