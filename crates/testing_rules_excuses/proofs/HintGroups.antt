-- The steps of loops that group what hints ask by the sources that are news.
use Rattle.std.specs.Prelude.{ℕ, ◌+◌, ◌<◌, Bool, true, false, cond, List, [], ◌∷◌, ◌++◌, length, take, get_or, map, filter, Option, Some, None}
use Rattle.std.specs.List.{flat_map}
use Rattle.std.proofs.Common.{◌≡◌, refl, sym, ap, ◌∙◌, append_assoc, append-nil}
use Rattle.std.proofs.lemmas.List.{take_more, map-append, flat_map_more}
use Rattle.std.proofs.lemmas.List.Elements.{filter-append}
use Rattle.testing_rules_model.specs.declared.facts.HintIn.{HintIn}
use Rattle.testing_rules_excuses.specs.steps.BySource.{joined_by}
use Rattle.testing_rules_excuses.specs.steps.OwnHints.{joined_with}
use Rattle.testing_rules_excuses.proofs.NewsGroups.{joined_to, joined_none}

module _ {A : Type 0} (own : A → Bool) (f : A → HintIn) where
  grown_at : (b : Bool) (x : A) → own x ≡ b → (ys zs : List HintIn) → cond b ((ys ++ zs) ++ f x ∷ []) (ys ++ zs) ≡ ys ++ (zs ++ map f (filter own (x ∷ [])))
  grown_at true x e ys zs = rw e (append_assoc ys zs (f x ∷ []))
  grown_at false x e ys zs = rw e (ap (λ t. ys ++ t) (sym (append-nil zs)))

  more_parts : (xs : List A) (i : ℕ) (d : A) → i < length xs
      → map f (filter own (take i xs)) ++ map f (filter own (get_or xs i d ∷ [])) ≡ map f (filter own (take (i + 1) xs))
  more_parts xs i d h =
      sym (map-append f (filter own (take i xs)) (filter own (get_or xs i d ∷ [])))
      ∙ ap (map f) (sym (filter-append own (take i xs) (get_or xs i d ∷ [])) ∙ ap (filter own) (sym (take_more xs i d h)))

  -- one more part has joined a group
  pub parts-more : (xs : List A) (i : ℕ) (d : A) → i < length xs → (first old new : Option (List HintIn)) → old ≡ joined_with (map f (filter own (take i xs))) first
      → new ≡ joined_by (own (get_or xs i d)) (f (get_or xs i d)) old → new ≡ joined_with (map f (filter own (take (i + 1) xs))) first
  parts-more xs i d h None old new e is =
      is ∙ ap (joined_by (own (get_or xs i d)) (f (get_or xs i d))) e ∙ joined_none (own (get_or xs i d)) (f (get_or xs i d))
  parts-more xs i d h (Some ys) old new e is =
      let x = get_or xs i d in
      let zs = map f (filter own (take i xs)) in
      is ∙ ap (joined_by (own x) (f x)) e ∙ joined_to (own x) (f x) (ys ++ zs)
      ∙ ap (λ t. Some t) (grown_at _ x refl ys zs ∙ ap (λ t. ys ++ t) (more_parts xs i d h))

-- the parts of one more hint have joined theirs
pub hint-more : (parts : HintIn → List HintIn) (hs : List HintIn) (i : ℕ) (d : HintIn) → i < length hs → (among : Bool) (first : List HintIn) (old new : Option (List HintIn))
    → old ≡ cond among (Some (first ++ flat_map parts (take i hs))) None → new ≡ joined_with (parts (get_or hs i d)) old
    → new ≡ cond among (Some (first ++ flat_map parts (take (i + 1) hs))) None
hint-more parts hs i d h true first old new e is =
    is ∙ ap (joined_with (parts (get_or hs i d))) e
    ∙ ap (λ t. Some t) (flat_map_more parts first (take i hs) (get_or hs i d) ∙ ap (λ t. first ++ flat_map parts t) (sym (take_more hs i d h)))
hint-more parts hs i d h false first old new e is = is ∙ ap (joined_with (parts (get_or hs i d))) e

-- where nothing joins
pub joined-nothing : {A : Type 0} (slot : Option (List A)) → slot ≡ joined_with [] slot
joined-nothing None = refl
joined-nothing (Some xs) = ap (λ t. Some t) (sym (append-nil xs))

pub joined-start : {A : Type 0} (among : Bool) (first : List A) → cond among (Some first) None ≡ cond among (Some (first ++ [])) None
joined-start true first = ap (λ t. Some t) (sym (append-nil first))
joined-start false first = refl
