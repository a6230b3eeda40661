-- The results of calls that read relations, compared with the text.
use Rattle.std.specs.Prelude.{◌≡◌, ⊤, Result, Ok, Err}
use Rattle.deb_control.specs.declared.fault.RelationFault.{RelationFault}
use Rattle.deb_control.specs.declared.fault.RelationFault.TheVariants.{BadName, BadVersion, BadRelation, NoMemory}

-- a failed call either ran out of memory, which can happen at any text, or reports the text's fault
abbrev pub Fails : {Y : Type 0} → RelationFault → Result Y RelationFault → Type 0
Fails NoMemory said = ⊤
Fails BadName said = said ≡ Err BadName
Fails BadVersion said = said ≡ Err BadVersion
Fails BadRelation said = said ≡ Err BadRelation

-- the result of a call, through this view, is the text's, unless memory ran out
abbrev pub GivesBy : {X Y : Type 0} → (X → Y) → Result X RelationFault → Result Y RelationFault → Type 0
GivesBy view (Ok value) said = said ≡ Ok (view value)
GivesBy view (Err e) said = Fails e said

-- the result of a call is the text's, unless memory ran out
abbrev pub Gives : {Y : Type 0} → Result Y RelationFault → Result Y RelationFault → Type 0
Gives r said = GivesBy (λ value. value) r said
