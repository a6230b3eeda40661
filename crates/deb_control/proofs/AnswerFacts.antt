-- An answer is what the text or the paragraph says, or memory ran out.
use Rattle.std.proofs.Common.{◌≡◌, ◌⊎◌, inl, inr, Result, Ok, Err, refl, sym}
use Rattle.deb_control.specs.steps.RelationAnswers as relation
use Rattle.deb_control.specs.steps.BinaryAnswers as binary
use Rattle.deb_control.specs.declared.fault.RelationFault.{RelationFault}
use Rattle.deb_control.specs.declared.fault.RelationFault.TheVariants as relation_fault
use Rattle.deb_control.specs.declared.fault.BinaryFault.{BinaryFault}
use Rattle.deb_control.specs.declared.fault.BinaryFault.TheVariants as binary_fault

pub said_or_memory : {Y : Type 0} (r said : Result Y RelationFault) → relation.Gives r said → (r ≡ said) ⊎ (r ≡ Err relation_fault.NoMemory)
said_or_memory (Ok x) said g = inl (sym g)
said_or_memory (Err relation_fault.BadName) said g = inl (sym g)
said_or_memory (Err relation_fault.BadVersion) said g = inl (sym g)
said_or_memory (Err relation_fault.BadRelation) said g = inl (sym g)
said_or_memory (Err relation_fault.NoMemory) said g = inr refl

pub described_or_memory : {Y : Type 0} (r said : Result Y BinaryFault) → binary.Gives r said → (r ≡ said) ⊎ (r ≡ Err binary_fault.NoMemory)
described_or_memory (Ok x) said g = inl (sym g)
described_or_memory (Err (binary_fault.MissingField f)) said g = inl (sym g)
described_or_memory (Err (binary_fault.BadName f)) said g = inl (sym g)
described_or_memory (Err (binary_fault.BadVersion f)) said g = inl (sym g)
described_or_memory (Err (binary_fault.BadRelation f)) said g = inl (sym g)
described_or_memory (Err binary_fault.NoMemory) said g = inr refl
