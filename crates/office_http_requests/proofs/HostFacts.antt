-- Which requests are for another host.
use Rattle.std.proofs.Common.{◌≡◌, ℕ, ◌+◌, ◌<◌, Bool, true, false, ◌||◌, List, [], ◌∷◌, length, take, map, get_or, Some, None, refl, sym, ap, ◌∙◌}
use Rattle.std.specs.List.{list_any}
use Rattle.std.proofs.lemmas.List.Folds.{list_any_more}
use Rattle.httparse.specs.Grammar.{RequestHead}
use Rattle.office_http_requests.specs.Asked.{is_head_method}
use Rattle.office_http_requests.specs.Hosts.{is_for_other}
use Rattle.office_http_requests.specs.steps.Hosts.{method_if, other_method}

-- of elements, as of their images
pub any_of_images : {A B : Type 0} (p : B → Bool) (f : A → B) (xs : List A) → list_any (λ x. p (f x)) xs ≡ list_any p (map f xs)
any_of_images p f [] = refl
any_of_images p f (x ∷ xs) = ap (λ b. p (f x) || b) (any_of_images p f xs)

-- up to a place, and one more
pub any_next : {A B : Type 0} (p : B → Bool) (f : A → B) (xs : List A) (i : ℕ) (d : A) → i < length xs → list_any p (map f (take (i + 1) xs)) ≡ (list_any p (map f (take i xs)) || p (f (get_or xs i d)))
any_next p f xs i d h =
    sym (any_of_images p f (take (i + 1) xs))
    ∙ list_any_more (λ x. p (f x)) xs i d h
    ∙ ap (λ b. b || p (f (get_or xs i d))) (any_of_images p f (take i xs))

-- what is found of a request that is for another host, and of any other
pub head_is : (hosts : List (List ℕ)) (head : RequestHead) (is_head : Bool) → Some is_head ≡ other_method hosts head → is_for_other hosts head ≡ true → is_head ≡ is_head_method head
head_is hosts head is_head is other = go (is_for_other hosts head) is other
  where
    go : (b : Bool) → Some is_head ≡ method_if b head → b ≡ true → is_head ≡ is_head_method head
    go true found e = cc
    go false found e = absurd (cc (e))

pub for_none : (hosts : List (List ℕ)) (head : RequestHead) → None ≡ other_method hosts head → is_for_other hosts head ≡ true → ⊥
for_none hosts head is other = go (is_for_other hosts head) is other
  where
    go : (b : Bool) → None ≡ method_if b head → b ≡ true → ⊥
    go true found e = absurd (cc (found))
    go false found e = absurd (cc (e))
