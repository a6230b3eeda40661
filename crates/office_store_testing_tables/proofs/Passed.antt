-- A fault that is passed on by `?`.
use Rattle.std.proofs.Common.{◌≡◌, ◌≢◌, ◌⊎◌, inl, inr, Result, Ok, Err, Option, Some, None, IsSome, refl, ap, sym, subst}
use Rattle.std.specs.Result.{IsErrAnd}
use Rattle.office_store_keeper.specs.declared.faults.KeepFault.{KeepFault}
use Rattle.office_store_keeper.specs.declared.faults.KeepFault.TheVariants.{Store}
use Rattle.office_store_keeper.specs.declared.faults.Cause.TheVariants.{BadRow}
use Rattle.office_store_testing_tables.specs.steps.Faults.{NeverBad}

is_passed : {T : Type 0} (r : Result T KeepFault) (P : KeepFault → Type 0) (fault : KeepFault) → r ≡ Err fault → IsErrAnd r P → P fault
is_passed (Ok v) P fault h p = absurd (let e = h in cc)
is_passed (Err e) P fault h p = let same : e ≡ fault = cc in subst P same p

-- what `?` hands on is what it was given
pub passed : {T U : Type 0} (r : Result T KeepFault) (given fault : KeepFault) → r ≡ Err fault → IsErrAnd r (λ e. e ≡ given) → ◌≡◌ {A = Result U KeepFault} (Err given) (Err fault)
passed r given fault h p = ap Err (sym (is_passed r (λ e. e ≡ given) fault h p))

-- what went well reports nothing, nor does a fault of SQLite, nor one that is passed on from a call that doesn't
pub well : {T : Type 0} (value : T) → NeverBad (Ok value)
well value h = let e = h in cc

pub never_bad : {T : Type 0} (r : Result T KeepFault) → IsErrAnd r (λ e. e ≢ Store BadRow) → NeverBad r
never_bad r p h = is_passed r (λ e. e ≢ Store BadRow) _ h p refl

pub still_well : {T U : Type 0} (r : Result T KeepFault) (given : KeepFault) → IsErrAnd r (λ e. e ≡ given) → NeverBad {T = U} (Err given) → NeverBad r
still_well r given p well h = well (passed r given _ h p)

-- where a value is there, what stands beside its lack holds
pub no_none : {P X : Type 0} {o : Option X} → P ⊎ (o ≡ None) → IsSome o → P
no_none (inl p) there = p
no_none {o = Some x} (inr none) there = absurd (let e = none in cc)
no_none {o = None} (inr none) there = absurd (let e = there in cc)
