-- What comes by the path of a sender changes nothing of another sender.
use Rattle.std.proofs.Common.{◌≡◌, ◌≢◌, ℕ, Bool, true, false, cond, List, [], ◌∷◌, Option, Some, None, Result, Ok, Err, IsSome, refl, sym, ap, subst, ◌∙◌, arith}
use Rattle.std.specs.FinMap.{get, get-insert}
use Rattle.std.specs.Ordering.{eq_by_cmp}
use Rattle.std.proofs.lemmas.Bool.Decides.{nat_tests}
use Rattle.office_mail.specs.declared.message.Message.{Message}
use Rattle.office_mail.specs.declared.message.MailFault.{MailFault}
use Rattle.office_mail.specs.Kept.{Kept, Place, kept_from, place_cmp, place_of}
use Rattle.office_mail.specs.Lists.{Lists}
use Rattle.office_mail.specs.Read.{read}
use Rattle.office_mail.proofs.KeptFacts.{kept_from-fault, kept_from-free, kept_from-nil, kept_from-taken, places_total, tied}
use Rattle.office_core_store.specs.declared.faults.StoreFault.{StoreFault}
use Rattle.office_core_facts.specs.OfficeState.{OfficeState}
use Rattle.office_core.specs.OneSender.{ButOf}
use Rattle.office_http_requests.specs.declared.request.Action.TheVariants.{DeliverOf}
use Rattle.office_http.specs.Serve.{is_of_other, kept_by}

own_sender : (sender : ℕ) (message : Message) → is_of_other sender (Ok message) ≡ false → message.sender ≡ sender
own_sender sender message own = grind (arith, nat_tests)

own_place : (setup : Lists) (kept : Kept) (sender : ℕ) (body : List ℕ) (p : Place) (r : Result Message MailFault) → read setup body ≡ r → is_of_other sender r ≡ false → p.0 ≢ sender → get kept p ≡ get (kept_from setup kept (body ∷ [])) p
own_place setup kept sender body p (Err fault) is own other = sym (ap (λ (k : Kept). get k p) (kept_from-fault setup kept body fault is))
own_place setup kept sender body p (Ok message) is own other = by_place (get kept (place_of message)) refl
  where
    here : (b : Bool) → eq_by_cmp place_cmp p (place_of message) ≡ b → get (kept_from setup kept (body ∷ [])) p ≡ cond b (Some body) (get kept p) → get kept p ≡ get (kept_from setup kept (body ∷ [])) p
    here true same put = absurd (other (ap (λ (q : Place). q.0) (tied (place_of message) p same) ∙ own_sender sender message own))
    here false apart put = sym put

    by_place : (o : Option (List ℕ)) → get kept (place_of message) ≡ o → get kept p ≡ get (kept_from setup kept (body ∷ [])) p
    by_place (Some text) taken = sym (ap (λ (k : Kept). get k p) (kept_from-taken setup kept body message is (subst IsSome (sym taken) refl)))
    by_place None free =
        here (eq_by_cmp place_cmp p (place_of message)) refl (ap (λ (k : Kept). get k p) (kept_from-free setup kept body message is free) ∙ get-insert places_total kept (place_of message) body p)

pub bound : (s : OfficeState) (sender : ℕ) (body : List ℕ) (fault : Option StoreFault) → ButOf sender s.kept (kept_by s (DeliverOf sender) body fault)
bound s sender body (Some f) = λ p other. sym (ap (λ (k : Kept). get k p) (kept_from-nil s.setup s.kept))
bound s sender body None = λ p other. go p other (is_of_other sender (read s.setup body)) refl
  where
    go : (p : Place) → p.0 ≢ sender → (b : Bool) → is_of_other sender (read s.setup body) ≡ b → get s.kept p ≡ get (kept_from s.setup s.kept (cond b [] (body ∷ []))) p
    go p other true is = sym (ap (λ (k : Kept). get k p) (kept_from-nil s.setup s.kept))
    go p other false is = own_place s.setup s.kept sender body p (read s.setup body) refl is other
