-- What the builds of one message do to the rows, the last of them first.
use Rattle.std.specs.Prelude.{Bool, true, false, cond, List, [], ◌∷◌, ◌++◌}
use Rattle.std.proofs.Common.{◌≡◌, refl, sym, ap, ◌∙◌}
use Rattle.std.proofs.lemmas.List.{append_assoc, append-nil}
use Rattle.testing_rules_model.specs.declared.facts.BuildIn.{BuildIn}
use Rattle.testing_rules_model.specs.declared.fact_row.FactRow.{FactRow}
use Rattle.testing_rules_model.specs.WithMessage.{with_build, with_builds}
use Rattle.testing_rules_model.proofs.BuildLists.{builds-last}
use Rattle.testing_rules_facts.specs.steps.ElementShifts.{Shift, no_shift, shift_build, shift_builds}

-- of a shift one side, which goes with joining
module _ (side : Shift → List FactRow) where
  abbrev IsSide : Type 0
  IsSide = (p : BuildIn → Bool) (b : BuildIn) (bs rows : List BuildIn) → side (shift_builds p (b ∷ bs) rows) ≡ cond (p b) (side (shift_builds p bs rows) ++ side (shift_build b (with_builds p bs rows))) (side (shift_builds p bs rows))

  module _ (steps : IsSide) (none : side no_shift ≡ []) where
    in_front : (c : Bool) (xs ys zs : List FactRow) → cond c ((xs ++ ys) ++ zs) (xs ++ ys) ≡ xs ++ cond c (ys ++ zs) ys
    in_front true xs ys zs = append_assoc xs ys zs
    in_front false xs ys zs = refl

    alone : (c : Bool) (own : List FactRow) (s : Shift) → side s ≡ own → cond c ([] ++ own) [] ≡ side (cond c s no_shift)
    alone true own s e = sym e
    alone false own s e = sym none

    pub shifts-last : (p : BuildIn → Bool) (bs : List BuildIn) (b : BuildIn) (rows : List BuildIn)
        → side (shift_builds p (bs ++ b ∷ []) rows) ≡ side (cond (p b) (shift_build b rows) no_shift) ++ side (shift_builds p bs (cond (p b) (with_build b rows) rows))
    shifts-last p [] b rows =
        let own = side (shift_build b rows) in
        steps p b [] rows
        ∙ ap (λ t. cond (p b) (t ++ own) t) none
        ∙ alone (p b) own (shift_build b rows) refl
        ∙ sym (append-nil (side (cond (p b) (shift_build b rows) no_shift)))
        ∙ ap (λ t. side (cond (p b) (shift_build b rows) no_shift) ++ t) (sym none)
    shifts-last p (x ∷ bs) b rows =
        let first = side (cond (p b) (shift_build b rows) no_shift) in
        let next = cond (p b) (with_build b rows) rows in
        let rest = side (shift_builds p bs next) in
        let own = side (shift_build x (with_builds p bs next)) in
        steps p x (bs ++ b ∷ []) rows
        ∙ ap (λ t. cond (p x) (t ++ side (shift_build x (with_builds p (bs ++ b ∷ []) rows))) t) (shifts-last p bs b rows)
        ∙ ap (λ t. cond (p x) ((first ++ rest) ++ side (shift_build x t)) (first ++ rest)) (builds-last p bs b rows)
        ∙ in_front (p x) first rest own
        ∙ ap (λ t. first ++ t) (sym (steps p x bs next))

came_at : (c : Bool) (p : BuildIn → Bool) (b : BuildIn) (bs rows : List BuildIn) → p b ≡ c
    → (shift_builds p (b ∷ bs) rows).came ≡ cond c ((shift_builds p bs rows).came ++ (shift_build b (with_builds p bs rows)).came) (shift_builds p bs rows).came
came_at true p b bs rows e = rw (shift_builds, e) refl
came_at false p b bs rows e = rw (shift_builds, e) refl

left_at : (c : Bool) (p : BuildIn → Bool) (b : BuildIn) (bs rows : List BuildIn) → p b ≡ c
    → (shift_builds p (b ∷ bs) rows).left ≡ cond c ((shift_builds p bs rows).left ++ (shift_build b (with_builds p bs rows)).left) (shift_builds p bs rows).left
left_at true p b bs rows e = rw (shift_builds, e) refl
left_at false p b bs rows e = rw (shift_builds, e) refl

pub came-last : (p : BuildIn → Bool) (bs : List BuildIn) (b : BuildIn) (rows : List BuildIn)
    → (shift_builds p (bs ++ b ∷ []) rows).came ≡ (cond (p b) (shift_build b rows) no_shift).came ++ (shift_builds p bs (cond (p b) (with_build b rows) rows)).came
came-last = shifts-last (λ (s : Shift). s.came) (λ p b bs rows. came_at (p b) p b bs rows refl) refl

pub left-last : (p : BuildIn → Bool) (bs : List BuildIn) (b : BuildIn) (rows : List BuildIn)
    → (shift_builds p (bs ++ b ∷ []) rows).left ≡ (cond (p b) (shift_build b rows) no_shift).left ++ (shift_builds p bs (cond (p b) (with_build b rows) rows)).left
left-last = shifts-last (λ (s : Shift). s.left) (λ p b bs rows. left_at (p b) p b bs rows refl) refl

-- one more of them, the rows of which are noted
pub came-next : (p : BuildIn → Bool) (bs : List BuildIn) (b : BuildIn) (rows : List BuildIn) (log noted : List FactRow) (new : List BuildIn) → true ≡ p b → new ≡ with_build b rows
    → noted ≡ log ++ (shift_build b rows).came → noted ++ (shift_builds p bs new).came ≡ log ++ (shift_builds p (bs ++ b ∷ []) rows).came
came-next p bs b rows log noted new stands is more =
    ap (λ t. t ++ (shift_builds p bs new).came) more
    ∙ append_assoc log (shift_build b rows).came (shift_builds p bs new).came
    ∙ ap (λ rs. log ++ ((shift_build b rows).came ++ (shift_builds p bs rs).came)) is
    ∙ ap (λ c. log ++ ((cond c (shift_build b rows) no_shift).came ++ (shift_builds p bs (cond c (with_build b rows) rows)).came)) stands
    ∙ ap (λ t. log ++ t) (sym (came-last p bs b rows))

pub left-next : (p : BuildIn → Bool) (bs : List BuildIn) (b : BuildIn) (rows : List BuildIn) (log noted : List FactRow) (new : List BuildIn) → true ≡ p b → new ≡ with_build b rows
    → noted ≡ log ++ (shift_build b rows).left → noted ++ (shift_builds p bs new).left ≡ log ++ (shift_builds p (bs ++ b ∷ []) rows).left
left-next p bs b rows log noted new stands is more =
    ap (λ t. t ++ (shift_builds p bs new).left) more
    ∙ append_assoc log (shift_build b rows).left (shift_builds p bs new).left
    ∙ ap (λ rs. log ++ ((shift_build b rows).left ++ (shift_builds p bs rs).left)) is
    ∙ ap (λ c. log ++ ((cond c (shift_build b rows) no_shift).left ++ (shift_builds p bs (cond c (with_build b rows) rows)).left)) stands
    ∙ ap (λ t. log ++ t) (sym (left-last p bs b rows))

-- one that doesn't stand
pub came-passed : (p : BuildIn → Bool) (bs : List BuildIn) (b : BuildIn) (rows : List BuildIn) → false ≡ p b → (shift_builds p bs rows).came ≡ (shift_builds p (bs ++ b ∷ []) rows).came
came-passed p bs b rows stands =
    ap (λ c. (cond c (shift_build b rows) no_shift).came ++ (shift_builds p bs (cond c (with_build b rows) rows)).came) stands ∙ sym (came-last p bs b rows)

pub left-passed : (p : BuildIn → Bool) (bs : List BuildIn) (b : BuildIn) (rows : List BuildIn) → false ≡ p b → (shift_builds p bs rows).left ≡ (shift_builds p (bs ++ b ∷ []) rows).left
left-passed p bs b rows stands =
    ap (λ c. (cond c (shift_build b rows) no_shift).left ++ (shift_builds p bs (cond c (with_build b rows) rows)).left) stands ∙ sym (left-last p bs b rows)
