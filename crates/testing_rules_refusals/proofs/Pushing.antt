-- A text with more behind it.
use Rattle.std.proofs.Common.{◌≡◌, ℕ, List, ◌++◌}
use Rattle.std.specs.Prelude.{Result, Ok, Err, OnOk, is_ok, if◌then◌else◌}

-- where it came there
pub pushed : {T E : Type 0} (r : Result T E) (new old more : List ℕ) → new ≡ (if is_ok r then old ++ more else old) → OnOk r (new ≡ old ++ more)
pushed (Ok x) new old more e = e
pushed (Err y) new old more e = tt
