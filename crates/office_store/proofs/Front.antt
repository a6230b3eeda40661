-- What is read of a file, where the file is known.
use Rattle.std.specs.Prelude.{◌≡◌, ℕ, List, [], ◌++◌, Option, Some, None, IfSome, take}
use Rattle.std.specs.Option.{option_map}
use Rattle.std.proofs.Common.{subst}
use Rattle.office_store.specs.steps.Conf.{front}

pub of_known : (left : Option (List ℕ)) (bytes : List ℕ) → IfSome (option_map (take 65_537) left) (λ xs. bytes ≡ xs) → IfSome left (λ all. bytes ≡ front all)
unfolding front
of_known None bytes h = h
of_known (Some all) bytes h = h

-- a reader of so many bytes at most, of what a reader has left
pub of_limited : (left : Option (List ℕ)) (limit : ℕ) (old bytes : List ℕ) → limit ≡ 65_537 → old ≡ []
    → IfSome (option_map (take limit) left) (λ xs. bytes ≡ old ++ xs) → IfSome left (λ all. bytes ≡ front all)
of_limited left limit old bytes is none h =
    of_known left bytes (subst (λ n. IfSome (option_map (take n) left) (λ xs. bytes ≡ xs)) is
    (subst (λ (o : List ℕ). IfSome (option_map (take limit) left) (λ xs. bytes ≡ o ++ xs)) none h))
