-- What the answer to a delivery says of a text that is kept at a place.
use Rattle.std.proofs.Common.{◌≡◌, ◌≢◌, inl, inr, ℕ, ◌≤◌, Bool, true, false, cond, List, [], ◌∷◌, Option, Some, None, Result, Ok, Err, OnOk, IsSome, sym, ap, subst, ◌∙◌, refl, arith}
use Rattle.std.specs.Str.{bytes_eq}
use Rattle.std.specs.FinMap.{get, insert}
use Rattle.std.proofs.lemmas.Result.{IfOk-at_ok}
use Rattle.office_mail.specs.declared.message.Message.{Message}
use Rattle.office_mail.specs.declared.message.MailFault.{MailFault}
use Rattle.office_mail.specs.Kept.{IsPlace, Kept, Place, kept_from, place_of, placed}
use Rattle.office_mail.specs.Lists.{Lists}
use Rattle.office_mail.specs.Read.{read}
use Rattle.office_mail.specs.steps.ReadSteps.{placed_as}
use Rattle.office_mail.proofs.KeptFacts.{kept_from-free}
use Rattle.office_core_replies.specs.declared.faults.DeliverFault.{DeliverFault}
use Rattle.office_core_replies.specs.declared.faults.DeliverFault.TheVariants.{OtherText}
use Rattle.office_core_replies.specs.declared.faults.Held.{Held}
use Rattle.office_core_facts.specs.State.{AnswersDelivery, answer_at, answer_by, answer_to, held_at}
use Rattle.office_core_check.specs.steps.Reading.{IsOther}
use Rattle.office_core_check.proofs.FrontFacts.{put_here}

-- an answer that a message is held is the one that is due
due_held : (held : Held) (due : Result Held DeliverFault) → AnswersDelivery (Ok held) due → due ≡ Ok held
due_held held due (inl e) = sym e
due_held held due (inr (inl e)) = absurd (cc (e))
due_held held due (inr (inr e)) = absurd (cc (e))

held_cond : (b : Bool) (held other : Held) → cond b (Ok held) (Err OtherText) ≡ Ok other → held ≡ other
held_cond true held other e = cc (e)
held_cond false held other e = absurd (cc (e))

held_found : (text : List ℕ) (m : Message) (found : Option (List ℕ)) (held : Held) → answer_at text m found ≡ Ok held → held_at m ≡ held
held_found text m None held e = cc (e)
held_found text m (Some kept) held e = held_cond (bytes_eq kept text) (held_at m) held e

held_read : (kept : Kept) (text : List ℕ) (r : Result Message MailFault) (held : Held) → answer_by kept text r ≡ Ok held → (m : Message) × (r ≡ Ok m) × (held_at m ≡ held)
held_read kept text (Ok m) held e = (m, refl, held_found text m (get kept (place_of m)) held e)
held_read kept text (Err fault) held e = absurd (cc (e))

-- the message that is held
held_message : (setup : Lists) (kept : Kept) (text : List ℕ) (held : Held) → AnswersDelivery (Ok held) (answer_to setup kept text) → (m : Message) × (read setup text ≡ Ok m) × (held_at m ≡ held)
unfolding answer_to
held_message setup kept text held answers = held_read kept text (read setup text) held (due_held held (answer_by kept text (read setup text)) answers)

place_held : (m : Message) (sender number : ℕ) → held_at m ≡ record { sender = sender; number = number } → place_of m ≡ (sender, number)
place_held m sender number e = ap (λ (h : Held). (h.sender, h.number)) e

-- a message of a free place is put there
pub own_put : (setup : Lists) (kept new : Kept) (text : List ℕ) (sender number : ℕ) (r : Result Held DeliverFault) → r ≡ Ok (record { sender = sender; number = number }) → AnswersDelivery r (answer_to setup kept text)
    → get kept (sender, number) ≡ None → new ≡ kept_from setup kept (text ∷ []) → new ≡ insert kept (sender, number) text
own_put setup kept new text sender number r is answers free after =
    let m = held_message setup kept text (record { sender = sender; number = number }) (subst (λ (s : Result Held DeliverFault). AnswersDelivery s (answer_to setup kept text)) is answers) in
    let place = place_held m.0 sender number m.2 in
    after ∙ kept_from-free setup kept text m.0 m.1 (ap (get kept) place ∙ free) ∙ ap (λ (p : Place). insert kept p text) place

some_same : (x y : Place × List ℕ) → Some x ≡ Some y → x ≡ y
some_same x y e = cc (e)

-- and its number is one that a message may have
pub own_few : (setup : Lists) (kept new : Kept) (text : List ℕ) (sender number : ℕ) (r : Result Held DeliverFault) → AnswersDelivery r (answer_to setup kept text) → get kept (sender, number) ≡ None
    → OnOk r (new ≡ kept_from setup kept (text ∷ [])) → ((p : Place) → IsSome (get new p) → IsPlace setup p) → r ≡ Ok (record { sender = sender; number = number }) → number ≤ 999_999_999
own_few setup kept new text sender number r answers free after places is =
    let put = own_put setup kept new text sender number r is answers free (IfOk-at_ok (λ _. new ≡ kept_from setup kept (text ∷ [])) is after) in
    (places (sender, number) (subst IsSome (sym (ap (λ (k : Kept). get k (sender, number)) put ∙ put_here kept (sender, number) text)) refl)).below

-- what is answered to a message of a free place
due_free : (kept : Kept) (text : List ℕ) (sender number : ℕ) (r : Result Message MailFault) → placed_as text r ≡ Some ((sender, number), text) → get kept (sender, number) ≡ None → answer_by kept text r ≡ Ok (record { sender = sender; number = number })
due_free kept text sender number (Ok m) e free =
    let place : place_of m ≡ (sender, number) = ap (λ (q : Place × List ℕ). q.0) (some_same (place_of m, text) ((sender, number), text) e) in
    ap (answer_at text m) (ap (get kept) place ∙ free) ∙ ap (λ (p : Place). Ok (record { sender = p.0; number = p.1 })) place
due_free kept text sender number (Err fault) e free = absurd (cc (e))

other_due : (sender number : ℕ) (r : Result Held DeliverFault) → IsOther sender number r → (r ≡ Ok (record { sender = sender; number = number }) → number ≤ 999_999_999)
    → AnswersDelivery r (Ok (record { sender = sender; number = number })) → ⊥
other_due sender number (Ok held) (inl apart) few (inl e) = apart (cc (e))
other_due sender number (Ok held) (inr great) few (inl e) = let low = few e in omega (arith, low, great)
other_due sender number (Ok held) other few (inr (inl e)) = cc (e)
other_due sender number (Ok held) other few (inr (inr e)) = cc (e)
other_due sender number (Err fault) other few (inl e) = cc (e)
other_due sender number (Err fault) other few (inr (inl e)) = subst (IsOther sender number) e other
other_due sender number (Err fault) other few (inr (inr e)) = subst (IsOther sender number) e other

-- a text that is answered otherwise isn't a message of that place
pub other_placed : (setup : Lists) (kept : Kept) (text : List ℕ) (sender number : ℕ) (r : Result Held DeliverFault) → IsOther sender number r → (r ≡ Ok (record { sender = sender; number = number }) → number ≤ 999_999_999)
    → AnswersDelivery r (answer_to setup kept text) → get kept (sender, number) ≡ None → placed setup text ≢ Some ((sender, number), text)
unfolding answer_to
other_placed setup kept text sender number r other few answers free = λ e.
    other_due sender number r other few (subst (AnswersDelivery r) (due_free kept text sender number (read setup text) e free) answers)
