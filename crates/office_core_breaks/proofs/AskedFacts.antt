-- What words ask, by a message that was read or refused.
use Rattle.std.proofs.Common.{◌≡◌, ◌⊎◌, ⊎_elim, Result, Ok, Err, refl, subst, sym, ap, ◌∙◌}
use Rattle.office_mail.specs.steps.Answers.{Gives}
use Rattle.office_mail.specs.declared.message.MailFault.{MailFault}
use Rattle.office_mail.specs.declared.message.MailFault.TheVariants.{TooLong, BadParagraph, MissingField, UnknownSender, BadNumber, UnknownKind, WrongRole, TooManyParagraphs, UnknownArchitecture, BadValue, NoMemory}

gives_self : {Y : Type 0} (r : Result Y MailFault) → Gives r r
gives_self (Ok x) = refl
gives_self (Err TooLong) = refl
gives_self (Err BadParagraph) = refl
gives_self (Err (MissingField f)) = refl
gives_self (Err UnknownSender) = refl
gives_self (Err BadNumber) = refl
gives_self (Err UnknownKind) = refl
gives_self (Err WrongRole) = refl
gives_self (Err TooManyParagraphs) = refl
gives_self (Err UnknownArchitecture) = refl
gives_self (Err (BadValue f)) = refl
gives_self (Err NoMemory) = tt

-- what is due is given
pub gives_due : {Y : Type 0} (r due : Result Y MailFault) → r ≡ due → Gives r due
gives_due r due e = subst (λ (x : Result _ MailFault). Gives r x) e (gives_self r)

-- a message that is refused, or memory that runs out
pub gives_fault : {X Y : Type 0} (fault : MailFault) (read : Result X MailFault) (due : Result X MailFault → Result Y MailFault) → (due (Err fault) ≡ Err fault)
    → (Err fault ≡ read) ⊎ (◌≡◌ {A = Result X MailFault} (Err fault) (Err NoMemory)) → Gives (Err fault) (due read)
gives_fault fault read due passes exact =
    ⊎_elim (λ e. gives_due (Err fault) (due read) (sym passes ∙ ap due e)) (λ e. let same : fault ≡ NoMemory = cc in subst (λ (f : MailFault). Gives (Err f) (due read)) (sym same) tt) exact
