-- What a text reads as, where want of memory may come in its place.
use Rattle.std.proofs.Common.{◌≡◌, inl, inr, Result, Ok, Err, sym}
use Rattle.std.specs.Prelude.{◌⊎◌}
use Rattle.office_mail.specs.declared.message.Message.{Message}
use Rattle.office_mail.specs.declared.message.MailFault.{MailFault}
use Rattle.office_mail.specs.declared.message.MailFault.TheVariants.{NoMemory}

same_fault : (a b : MailFault) → ◌≡◌ {A = Result Message MailFault} (Err a) (Err b) → a ≡ b
same_fault a b e = cc

pub read_is : (due : Result Message MailFault) (message : Message) → (Ok message ≡ due) ⊎ (Ok message ≡ Err NoMemory) → due ≡ Ok message
read_is due message (inl e) = sym e
read_is due message (inr e) = absurd (cc e)

pub fault_is : (due : Result Message MailFault) (fault : MailFault) → (Err fault ≡ due) ⊎ (◌≡◌ {A = Result Message MailFault} (Err fault) (Err NoMemory)) → (due ≡ Err fault) ⊎ (fault ≡ NoMemory)
fault_is due fault (inl e) = inl (sym e)
fault_is due fault (inr e) = inr (same_fault fault NoMemory e)
