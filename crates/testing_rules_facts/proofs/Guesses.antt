-- What a search in a list finds by two neighbours, without a look at the rest.
use Rattle.std.specs.Prelude.{ℕ, ◌<◌, List, length, get_or}
use Rattle.std.proofs.Common.{◌≡◌, sym, ap, ◌∙◌}
use Rattle.std.specs.List.{HoldsAt}
use Rattle.std.specs.declared.cmp.Ordering.{Ordering}
use Rattle.std.proofs.lemmas.List.{get_or_default}
pub use Rattle.testing_rules_items.proofs.Guesses.{between}

-- how one compares that was read at a place
pub compares : {A : Type 0} (ord : A → Ordering) (xs : List A) (i : ℕ) (x : A) (r : Ordering) → i < length xs → x ≡ get_or xs i x → ord x ≡ r → HoldsAt (λ y. ord y ≡ r) xs i
compares ord xs i x r h is e = λ d. ap ord (get_or_default xs i d x h ∙ sym is) ∙ e
