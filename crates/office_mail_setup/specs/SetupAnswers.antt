-- The results of calls that read a setup, compared with the correct ones.
use Rattle.std.specs.Prelude.{◌≡◌, ⊤, Result, Ok, Err}
use Rattle.office_mail_setup.specs.declared.setup.SetupFault.{SetupFault}
use Rattle.office_mail_setup.specs.declared.setup.SetupFault.TheVariants.{NoMemory}

-- the fault of a call is the correct one, unless memory ran out
abbrev pub SetupFails : {Y : Type 0} → SetupFault → Result Y SetupFault → Type 0
SetupFails NoMemory due = ⊤
SetupFails e due = due ≡ Err e

-- the result of a call, through this view, is the correct one, unless memory ran out
abbrev pub SetupGivesBy : {X Y : Type 0} → (X → Y) → Result X SetupFault → Result Y SetupFault → Type 0
SetupGivesBy view (Ok x) due = due ≡ Ok (view x)
SetupGivesBy view (Err e) due = SetupFails e due

-- the result of a call is the correct one, unless memory ran out
abbrev pub SetupGives : {Y : Type 0} → Result Y SetupFault → Result Y SetupFault → Type 0
SetupGives r due = SetupGivesBy (λ y. y) r due
