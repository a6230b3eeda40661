-- Lines in a list, in a set, and behind the first line of their excuse.
use Rattle.std.proofs.Common.{◌≡◌, ℕ, Bool, ◌||◌, List, [], ◌∷◌, refl, ap, ◌∙◌}
use Rattle.std.specs.Borrow.{Bor}
use Rattle.std.specs.List.{list_any}
use Rattle.std.specs.Str.{bytes_eq}
use Rattle.testing_rules_reports.specs.steps.LentLines.{has_line, lent_lines}

any_lent : (line : List ℕ) (found : List (Bor (List ℕ))) → has_line found line ≡ list_any (bytes_eq line) (lent_lines found)
any_lent line [] = refl
any_lent line (x ∷ found) = ap (λ b. bytes_eq line x.now || b) (any_lent line found)

-- a set that has a line where a list has it
pub line_alike : (line : List ℕ) (keys found : List (Bor (List ℕ))) → has_line keys line ≡ has_line found line → has_line keys line ≡ list_any (bytes_eq line) (lent_lines found)
line_alike line keys found e = e ∙ any_lent line found

-- what is so of a line is so of the line that is lent
pub one_lent : (p : List ℕ → Bool) (found : List (Bor (List ℕ))) → list_any p (lent_lines found) ≡ list_any (λ (x : Bor (List ℕ)). p x.now) found
one_lent p [] = refl
one_lent p (x ∷ found) = ap (λ b. p x.now || b) (one_lent p found)
