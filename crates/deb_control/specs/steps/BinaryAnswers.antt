-- The results of calls that read binaries, compared with the paragraph.
use Rattle.std.specs.Prelude.{◌≡◌, ⊤, Result, Ok, Err}
use Rattle.deb_control.specs.declared.fault.BinaryFault.{BinaryFault}
use Rattle.deb_control.specs.declared.fault.BinaryFault.TheVariants.{MissingField, BadName, BadVersion, BadRelation, NoMemory}

-- a failed call either ran out of memory, which can happen at any paragraph, or reports the paragraph's fault
abbrev pub Fails : {Y : Type 0} → BinaryFault → Result Y BinaryFault → Type 0
Fails NoMemory said = ⊤
Fails (MissingField f) said = said ≡ Err (MissingField f)
Fails (BadName f) said = said ≡ Err (BadName f)
Fails (BadVersion f) said = said ≡ Err (BadVersion f)
Fails (BadRelation f) said = said ≡ Err (BadRelation f)

-- the result of a call, through this view, is the paragraph's, unless memory ran out
abbrev pub GivesBy : {X Y : Type 0} → (X → Y) → Result X BinaryFault → Result Y BinaryFault → Type 0
GivesBy view (Ok value) said = said ≡ Ok (view value)
GivesBy view (Err e) said = Fails e said

-- the result of a call is the paragraph's, unless memory ran out
abbrev pub Gives : {Y : Type 0} → Result Y BinaryFault → Result Y BinaryFault → Type 0
Gives r said = GivesBy (λ value. value) r said
