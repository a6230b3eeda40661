-- The last that passes a test, of one more.
use Rattle.std.proofs.Common.{◌≡◌, ℕ, ◌+◌, ◌<◌, Bool, true, false, cond, List, [], ◌∷◌, ◌++◌, length, take, get_or, filter, Option, Some, None, refl, append-nil}
use Rattle.std.specs.List.{last_or}
use Rattle.std.proofs.lemmas.List.{take_more}
use Rattle.std.proofs.lemmas.List.Elements.{filter-append}
use Rattle.testing_rules_model.specs.declared.facts.HintIn.{HintIn}
use Rattle.testing_rules_model.specs.declared.facts.UploadIn.{UploadIn}
use Rattle.testing_rules_excuses.specs.Origins.{asks_days, age_hint}

last_or-push : {A : Type 0} (o : Option A) (xs : List A) (x : A) → last_or o (xs ++ x ∷ []) ≡ Some x
last_or-push o [] x = refl
last_or-push o (y ∷ xs) x = last_or-push (Some y) xs x

last_more : {A : Type 0} (test : A → Bool) (b : Bool) (xs : List A) (x : A) → test x ≡ b
    → last_or None (filter test (xs ++ x ∷ [])) ≡ cond b (Some x) (last_or None (filter test xs))
last_more test true xs x e = rw (filter-append test xs (x ∷ []), e) (last_or-push None (filter test xs) x)
last_more test false xs x e = rw (filter-append test xs (x ∷ []), e, append-nil) refl

-- the last hint of one more
pub age_hint-more : (hints : List HintIn) (u : UploadIn) (i : ℕ) (d : HintIn) (b : Bool) → i < length hints → asks_days u (get_or hints i d) ≡ b
    → age_hint (take (i + 1) hints) u ≡ cond b (Some (get_or hints i d)) (age_hint (take i hints) u)
age_hint-more hints u i d b h e = rw (take_more hints i d h) (last_more (asks_days u) b (take i hints) (get_or hints i d) e)
