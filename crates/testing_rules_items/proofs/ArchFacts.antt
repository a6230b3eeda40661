-- What good names of architectures keep.
use Rattle.std.proofs.Common.{◌≡◌, ℕ, ◌≤◌, true, List, length}
use Rattle.std.specs.Cmp.{first_so, second_so}
use Rattle.std.specs.Borrow.{Bor}
use Rattle.std.proofs.lemmas.Bool.{leb-true}
use Rattle.std.proofs.lemmas.List.{length-map}
use Rattle.testing_rules_items.specs.Archs.{are_archs, IsArchs}
use Rattle.deb_control.proofs.Each.{texts}

pub few_texts : (xs : List (Bor (List ℕ))) → length xs ≤ 16 → length (texts xs) ≤ 16
few_texts xs few = rw length-map few

pub archs_kept : (names : List (List ℕ)) → are_archs names ≡ true → length names ≤ 16 → IsArchs names
unfolding are_archs
archs_kept names good few = record {
  some = leb-true 1 _ (first_so _ _ (first_so _ _ good));
  few = few;
  named = second_so _ _ (first_so _ _ good);
  distinct = second_so _ _ good;
}
