-- The step of a loop over the builds of one message.
use Rattle.std.specs.Prelude.{Bool, cond, List, [], ◌∷◌, ◌++◌}
use Rattle.std.proofs.Common.{◌≡◌, refl, ap}
use Rattle.testing_rules_model.specs.declared.facts.BuildIn.{BuildIn}
use Rattle.testing_rules_model.specs.WithMessage.{with_build, with_builds}

-- the last of the builds joins first
pub builds-last : (p : BuildIn → Bool) (bs : List BuildIn) (b : BuildIn) (rows : List BuildIn) → with_builds p (bs ++ b ∷ []) rows ≡ with_builds p bs (cond (p b) (with_build b rows) rows)
builds-last p [] b rows = refl
builds-last p (x ∷ bs) b rows = ap (λ r. cond (p x) (with_build x r) r) (builds-last p bs b rows)
