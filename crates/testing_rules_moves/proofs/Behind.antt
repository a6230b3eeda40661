-- Testing at a turn, by the lists of the facts.
use Rattle.std.proofs.Common.{◌≡◌, ℕ, List, [], refl}
use Rattle.std.specs.List.Sorted.{IsStrictlySortedBy}
use Rattle.testing_rules_items.specs.Words.{Text}
use Rattle.testing_rules_model.specs.declared.excuse.Excuse.{Excuse}
use Rattle.testing_rules_model.specs.declared.facts.HintIn.{HintIn}
use Rattle.testing_rules_model.specs.declared.facts.UnhintIn.{UnhintIn}
use Rattle.testing_rules_model.specs.declared.facts.UploadIn.{UploadIn}
use Rattle.testing_rules_model.specs.declared.suite.RowIn.{RowIn}
use Rattle.testing_rules_model.specs.InOrder.{AreByKey}
use Rattle.testing_rules_model.specs.Suite.{Suite}
use Rattle.testing_rules_moves.specs.steps.Turns.{after_groups, after_removals}

pub groups_are : (archs : List Text) (rows : List RowIn) (es : List Excuse) (grouped : List HintIn) (t : Suite) {us sources : List UploadIn} {hs hints : List HintIn} {cs unhints : List UnhintIn}
    → us ≡ sources → hs ≡ hints → cs ≡ unhints
    → after_groups archs us rows es grouped cs (after_removals archs hs cs t) ≡ after_groups archs sources rows es grouped unhints (after_removals archs hints unhints t)
groups_are archs rows es grouped t u h c = rw (u, h, c) refl

-- no row, in order
pub none_by_key : AreByKey []
unfolding IsStrictlySortedBy
none_by_key = tt
