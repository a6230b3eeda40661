-- Steps of reading that may fail: the first fault is the fault of all.
use Rattle.std.specs.Prelude.{Bool, true, if◌then◌else◌, List, [], ◌∷◌, Option, Result, Ok, Err}
use Rattle.std.specs.Option.{ok_or}

-- a step, and the next one unless it failed
infixl 10 ◌>>=◌
abbrev pub ◌>>=◌ : {A B E : Type 0} → Result A E → (A → Result B E) → Result B E
(Ok x) >>= f = f x
(Err e) >>= f = Err e

-- a condition, or this fault if it isn't met
abbrev pub needs : {E : Type 0} → Bool → E → Result Bool E
needs holds fault = if holds then Ok true else Err fault

-- a mandatory value, or this fault if it is missing
abbrev pub given : {A E : Type 0} → Option A → E → Result A E
given found fault = ok_or found fault

-- each item read, or the first fault
abbrev pub each_of : {A B E : Type 0} → (A → Result B E) → List A → Result (List B) E
each_of read [] = Ok []
each_of read (x ∷ xs) = read x >>= λ y. each_of read xs >>= λ ys. Ok (y ∷ ys)
