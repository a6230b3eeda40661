-- What the first byte of a text says about its first line.
use Rattle.std.specs.Prelude.{ℕ, Bool, true, false, ◌||◌, ◌==◌, List, [], ◌∷◌}
use Rattle.deb_version.specs.Characters.{char}
use Rattle.deb_control.specs.Text.{is_white}

-- the first line may be blank
abbrev pub may_be_blank : List ℕ → Bool
may_be_blank [] = true
may_be_blank (c ∷ cs) = is_white c

-- the first line may continue a field
abbrev pub may_continue : List ℕ → Bool
may_continue [] = false
may_continue (c ∷ cs) = c == char " " || c == char "\t"
