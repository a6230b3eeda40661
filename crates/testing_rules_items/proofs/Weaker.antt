use Rattle.std.specs.Prelude.{Result, IfOk}
use Rattle.std.specs.Prelude.{Ok, Err}

-- of a result that is Ok what follows from what is known
pub if_ok_weaker : {A E : Type 0} (P Q : A → Type 0) (r : Result A E) → ((x : A) → P x → Q x) → IfOk r P → IfOk r Q
if_ok_weaker P Q (Ok x) f h = f x h
if_ok_weaker P Q (Err e) f h = h
