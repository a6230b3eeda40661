-- Items that an iterator gives, as what is read of them.
use Rattle.std.proofs.Common.{◌≡◌, Bor, Option, Some, None, unwrap_or, option_map, slice_get, ap, refl, List, [], arith}
use Rattle.std.proofs.lemmas.Iterator.{YieldsList}
use Rattle.std.proofs.lemmas.Iterator.Consumers.{nth_from_yields_List}

-- what is read of an item, or of the one in its place
pub now_or : {A : Type 0} (r : Option (Bor A)) (d : Bor A) (o : Option A) → option_map (λ x. x.now) r ≡ o → (unwrap_or r d).now ≡ unwrap_or o d.now
now_or None d o is = ap (λ o. unwrap_or o d.now) is
now_or (Some x) d o is = ap (λ o. unwrap_or o d.now) is

-- the first item is the first of the list
pub first_of : {S A B : Type 0} {steps : S → Option A → S → Type 0} {v : A → B} {s : S} {all : List B} (r : Option A) (u : S) → steps s r u → YieldsList steps v s all → option_map v r ≡ slice_get all 0
first_of {s = s} None u now yields = nth_from_yields_List None u 0 ([], (s, refl, now), omega arith) yields
first_of {s = s} (Some x) u now yields = nth_from_yields_List (Some x) u 0 ([], (s, refl, now), refl) yields
