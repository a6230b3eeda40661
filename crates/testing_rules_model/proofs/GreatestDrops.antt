-- The greatest drops decide whether a build stands.
use Rattle.std.specs.Prelude.{Bool, true, false, ◌&&◌, ◌||◌, not, List, [], ◌∷◌, cond}
use Rattle.std.proofs.Common.{◌≡◌, refl, sym, ◌∙◌, ap}
use Rattle.std.proofs.lemmas.Bool.{false≢true}
use Rattle.std.specs.List.{list_all}
use Rattle.std.specs.Str.{bytes_eq}
use Rattle.std.specs.declared.cmp.Ordering.{Ordering}
use Rattle.std.specs.declared.cmp.Ordering.TheVariants.{Less, Equal, Greater}
use Rattle.std.specs.Ordering.{is_lt}
use Rattle.deb_version.specs.steps.Laws.{version_order}
use Rattle.testing_rules_items.specs.Words.{Text, is_above}
use Rattle.testing_rules_model.specs.declared.facts.BuildIn.{BuildIn}
use Rattle.testing_rules_model.specs.declared.facts.DropIn.{DropIn}
use Rattle.testing_rules_model.specs.Unstable.{pair_order, drop_pair, drop_order}
use Rattle.testing_rules_model.specs.WithMessage.{outlives, with_greatest, put_first}
use Rattle.testing_rules_model.proofs.Orders.{above_is, not_below_trans, drop_total}
use Rattle.testing_rules_model.proofs.MoreMail.{pair_tied, chosen_drops, drops-more, then_not_lt, reversed}

above_at : (r : Bool) (b d e : Text) → is_above b e ≡ r → is_above b d ≡ true → is_above e d ≡ false → is_above b e ≡ true
above_at true b d e q h k = q
above_at false b d e q h k =
    let low = not_below_trans version_order b e d (sym (above_is version_order b e) ∙ q) (sym (above_is version_order e d) ∙ k) in
    absurd (false≢true (sym (above_is version_order b d ∙ low) ∙ h))

outlives_at : (c : Bool) (b d e : Text) → (not c || is_above b d) ≡ true → is_above e d ≡ false → (not c || is_above b e) ≡ true
outlives_at true b d e h k = above_at _ b d e refl h k
outlives_at false b d e h k = refl

-- a build that stands beside a drop stands beside each drop of the same architecture and name that isn't above it
outlives-more : (b : BuildIn) (d e : DropIn) → d.arch ≡ e.arch → d.name ≡ e.name → is_above e.version d.version ≡ false → outlives d b ≡ true → outlives e b ≡ true
outlives-more b d e ea en k h =
    let at : (not (bytes_eq e.arch b.binary.architecture && bytes_eq e.name b.binary.name) || is_above b.binary.version d.version) ≡ true = rw (ea, en) at h in
    outlives_at (bytes_eq e.arch b.binary.architecture && bytes_eq e.name b.binary.name) b.binary.version d.version e.version at k

absorbed : (a b c : Bool) → (a ≡ true → b ≡ true) → (a && c) ≡ (b && (a && c))
absorbed true b c f = rw (f refl) refl
absorbed false true c f = refl
absorbed false false c f = refl

absorbed_back : (a b c : Bool) → (b ≡ true → a ≡ true) → (b && c) ≡ (b && (a && c))
absorbed_back a true c f = rw (f refl) refl
absorbed_back a false c f = refl

swapped : (a b c : Bool) → (a && (b && c)) ≡ (b && (a && c))
swapped true true c = refl
swapped true false c = refl
swapped false true c = refl
swapped false false c = refl

module _ (b : BuildIn) where
  abbrev pub stands_by : DropIn → Bool
  stands_by d = outlives d b

  -- of two drops of one pair the first in order decides alone
  first_decides : (c : Bool) (x y : DropIn) (rest : Bool) → drop_pair x ≡ drop_pair y → is_lt (drop_order y x) ≡ c
      → (stands_by (cond c y x) && rest) ≡ (stands_by x && (stands_by y && rest))
  first_decides true x y rest same e =
      let low : is_above x.version y.version ≡ false = above_is version_order x.version y.version ∙ then_not_lt _ _ (ap is_lt (drop_total.antisymm x y) ∙ reversed (drop_order y x) e) in
      absorbed (stands_by y) (stands_by x) rest (outlives-more b y x (sym (ap (λ p. p.0) same)) (sym (ap (λ p. p.1) same)) low)
  first_decides false x y rest same e =
      let low : is_above y.version x.version ≡ false = above_is version_order y.version x.version ∙ then_not_lt _ _ e in
      absorbed_back (stands_by y) (stands_by x) rest (outlives-more b x y (ap (λ p. p.0) same) (ap (λ p. p.1) same) low)

  all-put_at : (r : Ordering) (x y : DropIn) (ys : List DropIn) → pair_order (drop_pair x) (drop_pair y) ≡ r
      → list_all stands_by (with_greatest x ys) ≡ (stands_by x && list_all stands_by ys)
      → list_all stands_by (with_greatest x (y ∷ ys)) ≡ (stands_by x && list_all stands_by (y ∷ ys))
  all-put_at Less x y ys e p = rw (put_first, e) refl
  all-put_at Equal x y ys e p = rw (put_first, e) (first_decides _ x y (list_all stands_by ys) (pair_tied (drop_pair x) (drop_pair y) e) refl)
  all-put_at Greater x y ys e p = rw (put_first, e) (ap (λ r. stands_by y && r) p ∙ swapped (stands_by y) (stands_by x) (list_all stands_by ys))

  all-put : (x : DropIn) (ys : List DropIn) → list_all stands_by (with_greatest x ys) ≡ (stands_by x && list_all stands_by ys)
  all-put x [] = refl
  all-put x (y ∷ ys) = all-put_at _ x y ys refl (all-put x ys)

  -- beside the greatest drops a build stands as it does beside all
  pub greatest-decide : (ds : List DropIn) → list_all stands_by (chosen_drops ds) ≡ list_all stands_by ds
  greatest-decide [] = refl
  greatest-decide (d ∷ ds) =
      ap (list_all stands_by) (drops-more d ds) ∙ all-put d (chosen_drops ds) ∙ ap (λ r. stands_by d && r) (greatest-decide ds)
