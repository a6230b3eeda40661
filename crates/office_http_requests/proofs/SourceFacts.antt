-- The names of sources.
use Rattle.std.proofs.Common.{◌≡◌, ℕ, zero, suc, ◌<◌, true, List, [], ◌∷◌, arith}
use Rattle.std.specs.Cmp.{first_so, second_so}
use Rattle.std.specs.List.{list_all}
use Rattle.std.specs.Str.{IsAscii, IsUtf8}
use Rattle.std.proofs.lemmas.Bool.Decides.{nat_tests}
use Rattle.std.proofs.lemmas.Str.{IsUtf8-from_ascii}
use Rattle.deb_control.specs.Relations.{is_lower_or_digit, is_package_char, is_package_name}

first_ascii : (c : ℕ) → is_lower_or_digit c ≡ true → c < 128
first_ascii c h = grind (arith, nat_tests)

char_ascii : (c : ℕ) → is_package_char c ≡ true → c < 128
char_ascii c h = grind (arith, nat_tests)

all_ascii : (cs : List ℕ) → list_all is_package_char cs ≡ true → IsAscii cs
all_ascii [] h i = omega arith
all_ascii (c ∷ cs) h zero = char_ascii c (first_so _ _ h)
all_ascii (c ∷ cs) h (suc i) = all_ascii cs (second_so _ _ h) i

name_ascii : (name : List ℕ) → is_package_name name ≡ true → IsAscii name
unfolding is_package_name
name_ascii [] h i = absurd (cc)
name_ascii (c ∷ cs) h zero = first_ascii c (first_so _ _ (first_so _ _ h))
name_ascii (c ∷ cs) h (suc i) = all_ascii cs (second_so _ _ h) i

-- a text that isn't UTF-8 is no name
pub never_named : (name : List ℕ) → is_package_name name ≡ true → (IsUtf8 name → ⊥) → ⊥
never_named name h bad = bad (IsUtf8-from_ascii name (name_ascii name h))
