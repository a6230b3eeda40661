-- The answer of a query on one table.
use Rattle.std.proofs.Common.{◌≡◌, ℕ, List, [], ◌∷◌, ◌++◌, map, filter, flat_map, Bool, true, false, cond, refl, sym, ap, subst, ◌∙◌}
use Rattle.std.specs.List.{list_all}
use Rattle.std.specs.List.Sorted.{IsPermutation}
use Rattle.std.proofs.lemmas.List.Sorted.{IsPermutation-map}
use Rattle.sqlite.specs.Order.{Row}
use Rattle.sqlite.specs.Tree.{Trees}
use Rattle.sqlite.specs.Term.{Term, holds, eval_all}
use Rattle.sqlite.specs.Query.{Output, output, matches, inner, end, IsAnswer}
use Rattle.office_store_testing_tables.proofs.Compiled.{plain_query}

-- the row passes WHERE, and what is shown of it
abbrev pub passes : List Term → Row → Row → Bool
passes terms params row = list_all (holds (params ∷ row ∷ [])) terms

abbrev pub shown_of : List Term → Row → Row → Row
shown_of project params row = eval_all project (params ∷ row ∷ [])

pub picked : {X Y : Type 0} (p : X → Bool) (f : X → Y) (xs : List X) → flat_map (λ x. cond (p x) (f x ∷ []) []) xs ≡ map f (filter p xs)
picked p f [] = refl
picked {X} {Y} p f (x ∷ xs) = go (p x) refl (picked p f xs)
  where
    go : (b : Bool) → p x ≡ b → flat_map (λ z. cond (p z) (f z ∷ []) []) xs ≡ map f (filter p xs) → cond b (f x ∷ []) [] ++ flat_map (λ z. cond (p z) (f z ∷ []) []) xs ≡ map f (cond b (x ∷ filter p xs) (filter p xs))
    go true is e = ap (λ l. f x ∷ l) e
    go false is e = e

pub fused : {A B C D : Type 0} (f : A → B) (g : B → C) (h : C → D) (xs : List A) → map h (map g (map f xs)) ≡ map (λ x. h (g (f x))) xs
fused f g h [] = refl
fused f g h (x ∷ xs) = ap (λ l. h (g (f x)) ∷ l) (fused f g h xs)

pub plain_answer : (tree : ℕ) (terms project : List Term) (db : Trees) (params : Row) (rows : List Row) → IsAnswer (plain_query tree terms project) db params rows
    → IsPermutation (map (shown_of project params) (filter (passes terms params) (db tree))) rows
plain_answer tree terms project db params rows answer =
    let q = plain_query tree terms project in
    let env = λ (r : Row). params ∷ r ∷ [] in
    let all = matches db terms (inner tree end) (params ∷ []) in
    let kept : answer.kept ≡ map (output q) (map env (filter (passes terms params) (db tree))) =
    answer.distinct ∙ ap (map (output q)) answer.grouped ∙ ap (map (output q)) (picked (passes terms params) env (db tree)) in
    let whole = IsPermutation-map (λ (o : Output). o.1) answer.kept answer.ordered answer.same in
    let front : map (λ (o : Output). o.1) answer.kept ≡ map (shown_of project params) (filter (passes terms params) (db tree)) =
    ap (map (λ (o : Output). o.1)) kept ∙ fused env (output q) (λ (o : Output). o.1) (filter (passes terms params) (db tree)) in
    subst (λ l. IsPermutation l rows) front (subst (IsPermutation (map (λ (o : Output). o.1) answer.kept)) (sym answer.shown) whole)
