-- What a list has: its first element, and those after it.
use Rattle.std.specs.Prelude.{List, [], ◌∷◌, ◌<◌, Contains}
use Rattle.std.proofs.Common.{arith}
use Rattle.std.proofs.lemmas.List.Elements.{Contains-append_left, Contains-append_right, Contains-push}

pub none_among : {A : Type 0} {P : Type 0} (x : A) → Contains {X = A} [] x → P
none_among x c = absurd (let n : c.0 < 0 = c.1 in omega (arith, n))

pub head_of : {A : Type 0} (x : A) (xs : List A) → Contains (x ∷ xs) x
head_of x xs = Contains-append_left (x ∷ []) xs x (Contains-push [] x)

pub tail_of : {A : Type 0} (x : A) (xs : List A) (y : A) → Contains xs y → Contains (x ∷ xs) y
tail_of x xs y c = Contains-append_right (x ∷ []) xs y c
