-- What is held is kept.
use Rattle.std.proofs.Common.{◌≡◌, ◌⊎◌, ⊎_elim, ℕ, zero, suc, ◌<◌, Bool, true, false, List, [], ◌∷◌, length, get_or, Option, Some, None, Result, Ok, Err, IsSome, OnOk, IfOk, IfSome, sym, subst, refl, arith}
use Rattle.std.specs.Prelude.{Vec, bytes_eq, if◌then◌else◌}
use Rattle.std.specs.declared.alloc.Global.{Global}
use Rattle.std.specs.FinMap.{get, insert}
use Rattle.office_mail.specs.declared.message.Message.{Message}
use Rattle.office_mail.specs.declared.message.MailFault.{MailFault}
use Rattle.office_mail.specs.Lists.{Lists}
use Rattle.office_mail.specs.Kept.{Kept, Within, place_of, kept_from}
use Rattle.office_mail.specs.Read.{read}
use Rattle.office_mail.proofs.KeptFacts.{kept_from-append, kept_from-free, kept_from-taken, kept_from-Within}
use Rattle.office_core_replies.specs.declared.faults.DeliverFault.{DeliverFault}
use Rattle.office_core_replies.specs.declared.faults.DeliverFault.TheVariants.{OtherText}
use Rattle.office_core_replies.specs.declared.faults.Held.{Held}
use Rattle.office_core_store.specs.declared.faults.StoreFault.{StoreFault}
use Rattle.office_core_orders.proofs.CountFacts.{some_later}
use Rattle.office_core_facts.specs.State.{AnswersDelivery, answer_to, answer_by, answer_at, held_at}
use Rattle.office_core.specs.steps.Counting.{IsKept, AreKept}
use Rattle.office_core.specs.Together.{answers_to}
use Rattle.office_core.proofs.OfficeFacts.{some_of}
use Rattle.office_core.proofs.GatherFacts.{put_here}

kept_if : (kept : Kept) (held : Held) (b : Bool) → IsSome (get kept (held.sender, held.number)) → IsKept kept (if b then Ok held else Err OtherText)
kept_if kept held true some = some
kept_if kept held false some = tt

message_kept : (setup : Lists) (kept : Kept) (text : List ℕ) (message : Message) (found : Option (List ℕ)) → read setup text ≡ Ok message → get kept (place_of message) ≡ found → IsKept (kept_from setup kept (text ∷ [])) (answer_at text message found)
message_kept setup kept text message None e at =
    let new : Kept = insert kept (place_of message) text in
    subst (λ (k : Kept). IsSome (get k (place_of message))) (sym (kept_from-free setup kept text message e at)) (some_of (get new (place_of message)) text (put_here kept (place_of message) text))
message_kept setup kept text message (Some stored) e at =
    let some : IsSome (get kept (place_of message)) = some_of (get kept (place_of message)) stored at in
    kept_if (kept_from setup kept (text ∷ [])) (held_at message) (bytes_eq stored text) (subst (λ (k : Kept). IsSome (get k (place_of message))) (sym (kept_from-taken setup kept text message e some)) some)

answer_kept_by : (setup : Lists) (kept : Kept) (text : List ℕ) (answer : Result Message MailFault) → read setup text ≡ answer → IsKept (kept_from setup kept (text ∷ [])) (answer_by kept text answer)
answer_kept_by setup kept text (Ok message) e = message_kept setup kept text message (get kept (place_of message)) e refl
answer_kept_by setup kept text (Err fault) e = tt

-- what the answer to a text says to be held is kept behind it
answer_kept : (setup : Lists) (kept : Kept) (text : List ℕ) → IsKept (kept_from setup kept (text ∷ [])) (answer_to setup kept text)
unfolding answer_to
answer_kept setup kept text = answer_kept_by setup kept text (read setup text) refl

pub delivery_kept : (setup : Lists) (kept new : Kept) (text : List ℕ) (reply : Result Held DeliverFault) → AnswersDelivery reply (answer_to setup kept text) → OnOk reply (new ≡ kept_from setup kept (text ∷ [])) → IsKept new reply
delivery_kept setup kept new text (Ok held) answers is =
    let due : ◌≡◌ {A = Result Held DeliverFault} (Ok held) (answer_to setup kept text) = ⊎_elim (λ e. e) (λ other. ⊎_elim (λ e. cc) (λ e. cc) other) answers in
    subst (λ (k : Kept). IsKept k (Ok held)) (sym is) (subst (IsKept (kept_from setup kept (text ∷ []))) (sym due) (answer_kept setup kept text))
delivery_kept setup kept new text (Err fault) answers is = tt

later_kept : (small large : Kept) (reply : Result Held DeliverFault) → Within small large → IsKept small reply → IsKept large reply
later_kept small large (Ok held) within some = some_later small large (held.sender, held.number) within some
later_kept small large (Err fault) within some = tt

first_or_later : (kept : Kept) (first : Result Held DeliverFault) (rest : List (Result Held DeliverFault)) → IsKept kept first → AreKept kept rest → (i : ℕ) (d : Result Held DeliverFault) → i < length (first ∷ rest) → IsKept kept (get_or (first ∷ rest) i d)
first_or_later kept first rest one more zero d h = one
first_or_later kept first rest one more (suc i) d h = more i d (omega (arith, h))

-- and so for texts, one after another
pub answers_kept : (setup : Lists) (kept : Kept) (texts : List (List ℕ)) → AreKept (kept_from setup kept texts) (answers_to setup kept texts)
answers_kept setup kept [] = λ i d h. absurd (omega (arith, h))
answers_kept setup kept (t ∷ ts) =
    let mid : Kept = kept_from setup kept (t ∷ []) in
    let all : kept_from setup mid ts ≡ kept_from setup kept (t ∷ ts) = kept_from-append setup kept (t ∷ []) ts in
    let first = later_kept mid (kept_from setup mid ts) (answer_to setup kept t) (kept_from-Within setup mid ts) (answer_kept setup kept t) in
    subst (λ (k : Kept). AreKept k (answers_to setup kept (t ∷ ts))) all
    (first_or_later (kept_from setup mid ts) (answer_to setup kept t) (answers_to setup mid ts) first (answers_kept setup mid ts))

pub together_kept : (setup : Lists) (kept new : Kept) (texts : List (List ℕ)) (answer : Result (Option (Vec (Result Held DeliverFault) Global)) StoreFault)
    → IfOk answer (λ replies. IfSome replies (λ rs. rs.items ≡ answers_to setup kept texts)) → IfOk answer (λ replies. IfSome replies (λ rs. new ≡ kept_from setup kept texts))
    → IfOk answer (λ replies. IfSome replies (λ rs. AreKept new rs.items))
together_kept setup kept new texts (Ok (Some rs)) answers is =
    subst (AreKept new) (sym answers) (subst (λ (k : Kept). AreKept k (answers_to setup kept texts)) (sym is) (answers_kept setup kept texts))
together_kept setup kept new texts (Ok None) answers is = tt
together_kept setup kept new texts (Err fault) answers is = tt
