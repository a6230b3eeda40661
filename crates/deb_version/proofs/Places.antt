-- The table of bytes has the place of each byte.
use Rattle.std.proofs.Common.{◌≡◌, ℕ, ◌==◌, ◌<◌, Bool, true, false, not, map, cond, ◌||◌, get_or, refl, ap, ◌∙◌, arith}
use Rattle.std.proofs.lemmas.List.FromFn.{get_or-map-range_with_len}
use Rattle.std.specs.List.{range_with_len}
use Rattle.deb_version.specs.Text.{is_revision_byte, is_upstream_byte}
use Rattle.deb_version.specs.declared.split.TheConstants.{PLACES}

-- `r` for a byte of a revision, `u` for the two others of an upstream version, `x` for any other
abbrev place : ℕ → ℕ
place c = cond (is_revision_byte c) 114 (cond (c == 45 || c == 58) 117 120)

table_is : PLACES ≡ map place (range_with_len 0 256)
table_is = refl

place_is : (c : ℕ) → c < 256 → get_or PLACES c 0 ≡ place c
place_is c h = ap (λ t. get_or t c 0) table_is ∙ get_or-map-range_with_len place 0 256 c c 0 h (omega arith)

is_r : (revision other : Bool) → (cond revision 114 (cond other 117 120) == 114) ≡ revision
is_r true other = refl
is_r false true = refl
is_r false false = refl

is_r_or_u : (revision hyphen colon : Bool) → not (cond revision 114 (cond (hyphen || colon) 117 120) == 120) ≡ (revision || hyphen || colon)
is_r_or_u true true true = refl
is_r_or_u true true false = refl
is_r_or_u true false true = refl
is_r_or_u true false false = refl
is_r_or_u false true true = refl
is_r_or_u false true false = refl
is_r_or_u false false true = refl
is_r_or_u false false false = refl

pub revision_place : (c : ℕ) → c < 256 → (get_or PLACES c 0 == 114) ≡ is_revision_byte c
revision_place c h = ap (λ (n : ℕ). n == 114) (place_is c h) ∙ is_r (is_revision_byte c) (c == 45 || c == 58)

pub upstream_place : (c : ℕ) → c < 256 → not (get_or PLACES c 0 == 120) ≡ is_upstream_byte c
upstream_place c h = ap (λ (n : ℕ). not (n == 120)) (place_is c h) ∙ is_r_or_u (is_revision_byte c) (c == 45) (c == 58)
