-- What a delivery and its answer leave. P, Q and R say that the store refused: in a first part, in what follows, and in both.
use Rattle.std.proofs.Common.{◌≡◌, ◌≤◌, ⊎_elim, ℕ, Bool, true, List, [], ◌∷◌, Option, Some, None, Result, Ok, Err, IsSome, IfOk, OnOk, OnErr, is_ok, sym, ap, subst, ◌∙◌, refl, arith}
use Rattle.std.specs.FinMap.{get}
use Rattle.office_mail.specs.declared.message.Message.{Message}
use Rattle.office_mail.specs.declared.message.MailFault.{MailFault}
use Rattle.office_mail.specs.declared.message.MailFault.TheVariants.{TooLong, BadParagraph, MissingField, UnknownSender, BadNumber, UnknownKind, WrongRole, TooManyParagraphs, UnknownArchitecture, BadValue, NoMemory}
use Rattle.office_mail.specs.Lists.{Lists}
use Rattle.office_mail.specs.Kept.{Kept, place_of, kept_from}
use Rattle.office_mail.specs.Read.{read}
use Rattle.office_mail.proofs.KeptFacts.{kept_from-nil, kept_from-taken, kept_from-fault}
use Rattle.office_mail.specs.Runs.{IsReady, IsReadyCount}
use Rattle.office_core_orders.specs.declared.wait_lines.Progress.{Progress}
use Rattle.office_core_store.specs.declared.faults.StoreFault.{StoreFault}
use Rattle.office_core_replay.specs.steps.Ending.{mark_in}
use Rattle.office_core_replay.proofs.EndFacts.{settled_unmet}
use Rattle.office_core_replies.specs.declared.faults.DeliverFault.{DeliverFault}
use Rattle.office_core_replies.specs.declared.faults.DeliverFault.TheVariants.{Mail, OtherText, Store}
use Rattle.office_core_replies.specs.declared.faults.Held.{Held}
use Rattle.office_core_replies.specs.declared.replies.Mark.{Mark}
use Rattle.office_core_replies.specs.declared.replies.Mark.TheVariants.{Taken, LostForMemory, LostForStore}
use Rattle.office_core_facts.specs.State.{AnswersDelivery, answer_to, answer_by, answer_at, IsSound, state_of}
use Rattle.office_core_replies.specs.Replies.{reply_by, mark_of, if_taken, reply_line}
use Rattle.office_core_replay.specs.Losses.{DeliveryCounted}
use Rattle.office_core.specs.Preserves.{StoreRefused}
use Rattle.office_core_store.specs.Counted.{Counted}
use Rattle.office_core_replies.specs.Answered.{CountedDelivery}
use Rattle.office_core_replay.specs.steps.DeliverySteps.{DeliversOne, DeliversOneFront, Settles}
use Rattle.office_core_facts.specs.OfficeState.{OfficeState}
use Rattle.office_mail.specs.Written.{AppendsFront}
use Rattle.office_store_keeper.specs.Content.{Content}
use Rattle.office_store_keeper.specs.declared.keeper.Keeper.{Ghosts}
use Rattle.std.proofs.lemmas.Result.{on_err_weaker}
use Rattle.std.specs.Io.KnownBytes.{Appends}
use Rattle.office_core.proofs.CarryFacts.{risen, risen_delivery}
use Rattle.office_core_replay.proofs.RiseFacts.{delivery_weaker, text_weaker, text_counted}

-- where an answer is no loss, it is the one that is due
due_of : (r due : Result Held DeliverFault) → AnswersDelivery r due → (r ≡ Err (Mail NoMemory) → ⊥) → (r ≡ Err Store → ⊥) → r ≡ due
due_of r due h a b = ⊎_elim (λ e. e) (λ rest. ⊎_elim (λ e. absurd (a e)) (λ e. absurd (b e)) rest) h

-- what the store's answer needs, a delivery that it lost has
pub delivery_counted : (rose : Type 0) (r : Result Held DeliverFault) → (r ≡ Err Store → rose) → DeliveryCounted rose (mark_of r)
delivery_counted rose (Ok held) h = tt
delivery_counted rose (Err OtherText) h = tt
delivery_counted rose (Err Store) h = h refl
delivery_counted rose (Err (Mail NoMemory)) h = tt
delivery_counted rose (Err (Mail TooLong)) h = tt
delivery_counted rose (Err (Mail BadParagraph)) h = tt
delivery_counted rose (Err (Mail (MissingField f))) h = tt
delivery_counted rose (Err (Mail UnknownSender)) h = tt
delivery_counted rose (Err (Mail BadNumber)) h = tt
delivery_counted rose (Err (Mail UnknownKind)) h = tt
delivery_counted rose (Err (Mail WrongRole)) h = tt
delivery_counted rose (Err (Mail TooManyParagraphs)) h = tt
delivery_counted rose (Err (Mail UnknownArchitecture)) h = tt
delivery_counted rose (Err (Mail (BadValue f))) h = tt

-- the answer, by its mark
pub reply_by-mark : (r due : Result Held DeliverFault) → AnswersDelivery r due → r ≡ reply_by (mark_of r) due
reply_by-mark (Ok held) due h = due_of (Ok held) due h (λ e. cc (e)) (λ e. cc (e))
reply_by-mark (Err OtherText) due h = due_of (Err OtherText) due h (λ e. cc (e)) (λ e. cc (e))
reply_by-mark (Err Store) due h = refl
reply_by-mark (Err (Mail NoMemory)) due h = refl
reply_by-mark (Err (Mail TooLong)) due h = due_of _ due h (λ e. cc (e)) (λ e. cc (e))
reply_by-mark (Err (Mail BadParagraph)) due h = due_of _ due h (λ e. cc (e)) (λ e. cc (e))
reply_by-mark (Err (Mail (MissingField f))) due h = due_of _ due h (λ e. cc (e)) (λ e. cc (e))
reply_by-mark (Err (Mail UnknownSender)) due h = due_of _ due h (λ e. cc (e)) (λ e. cc (e))
reply_by-mark (Err (Mail BadNumber)) due h = due_of _ due h (λ e. cc (e)) (λ e. cc (e))
reply_by-mark (Err (Mail UnknownKind)) due h = due_of _ due h (λ e. cc (e)) (λ e. cc (e))
reply_by-mark (Err (Mail WrongRole)) due h = due_of _ due h (λ e. cc (e)) (λ e. cc (e))
reply_by-mark (Err (Mail TooManyParagraphs)) due h = due_of _ due h (λ e. cc (e)) (λ e. cc (e))
reply_by-mark (Err (Mail UnknownArchitecture)) due h = due_of _ due h (λ e. cc (e)) (λ e. cc (e))
reply_by-mark (Err (Mail (BadValue f))) due h = due_of _ due h (λ e. cc (e)) (λ e. cc (e))

kept_at_place : (setup : Lists) (kept : Kept) (text : List ℕ) (message : Message) (fault : DeliverFault) (found : Option (List ℕ)) → read setup text ≡ Ok message → get kept (place_of message) ≡ found → answer_at text message found ≡ Err fault → kept_from setup kept (text ∷ []) ≡ kept
kept_at_place setup kept text message fault None e f h = absurd (cc (h))
kept_at_place setup kept text message fault (Some stored) e f h = kept_from-taken setup kept text message e (subst IsSome (sym f) refl)

kept_by_answer : (setup : Lists) (kept : Kept) (text : List ℕ) (fault : DeliverFault) (answer : Result Message MailFault) → read setup text ≡ answer → answer_by kept text answer ≡ Err fault → kept_from setup kept (text ∷ []) ≡ kept
kept_by_answer setup kept text fault (Err e) is h = kept_from-fault setup kept text e is
kept_by_answer setup kept text fault (Ok message) is h = kept_at_place setup kept text message fault (get kept (place_of message)) is refl h

-- a refused delivery leaves what was kept
pub kept_refused : (setup : Lists) (kept : Kept) (text : List ℕ) (fault : DeliverFault) → answer_to setup kept text ≡ Err fault → kept_from setup kept (text ∷ []) ≡ kept
unfolding answer_to
kept_refused setup kept text fault h = kept_by_answer setup kept text fault (read setup text) refl h

kept_marked : (setup : Lists) (kept : Kept) (text : List ℕ) (fault : DeliverFault) (mark : Mark) → (mark ≡ Taken → answer_to setup kept text ≡ Err fault) → kept ≡ kept_from setup kept (if_taken mark text [])
kept_marked setup kept text fault Taken h = sym (kept_refused setup kept text fault (h refl))
kept_marked setup kept text fault LostForMemory h = sym (kept_from-nil setup kept)
kept_marked setup kept text fault LostForStore h = sym (kept_from-nil setup kept)

marked_due : (mark : Mark) (r due : Result Held DeliverFault) → r ≡ reply_by mark due → mark ≡ Taken → r ≡ due
marked_due Taken r due e t = e
marked_due LostForMemory r due e t = absurd (cc (t))
marked_due LostForStore r due e t = absurd (cc (t))

-- what is kept after a delivery, by its mark
pub kept_after : (setup : Lists) (kept new : Kept) (text : List ℕ) (r : Result Held DeliverFault) → AnswersDelivery r (answer_to setup kept text) → OnOk r (new ≡ kept_from setup kept (text ∷ [])) → OnErr r (new ≡ kept) → new ≡ kept_from setup kept (if_taken (mark_of r) text [])
kept_after setup kept new text (Ok held) h ok err = ok
kept_after setup kept new text (Err fault) h ok err = err ∙ kept_marked setup kept text fault (mark_of (Err fault)) (λ t. sym (marked_due (mark_of (Err fault)) (Err fault) (answer_to setup kept text) (reply_by-mark (Err fault) (answer_to setup kept text) h) t))

-- a delivery, and what it leaves
pub record Leaves (before after : OfficeState) (text : List ℕ) (r : Result Held DeliverFault) (rose : Type 0) : Type 0 where
  pub answer : AnswersDelivery r (answer_to before.setup before.kept text)
  pub kept : OnOk r (after.kept ≡ kept_from before.setup before.kept (text ∷ []))
  pub finished : after.finished ≡ before.finished
  pub setup : after.setup ≡ before.setup
  pub err : OnErr r (after.kept ≡ before.kept)
  pub by_store : r ≡ Err Store → rose

pub leaves_call : {K : Type 0} (keeper : Ghosts K) (a b : K) (text : List ℕ) (r : Result Held DeliverFault) → AnswersDelivery r (answer_to (keeper.setup a) (keeper.content a).kept text) → OnOk r ((keeper.content b).kept ≡ kept_from (keeper.setup a) (keeper.content a).kept (text ∷ []))
    → (state_of keeper b).finished ≡ (state_of keeper a).finished → OnErr r (keeper.content b ≡ keeper.content a) → keeper.setup b ≡ keeper.setup a → CountedDelivery (keeper.refusals a) (keeper.refusals b) r → Leaves (state_of keeper a) (state_of keeper b) text r (StoreRefused keeper a b)
leaves_call keeper a b text r answer kept finished err setup count = record {
  answer = answer;
  kept = kept;
  finished = finished;
  setup = setup;
  err = on_err_weaker r (λ e. ap (λ (c : Content). c.kept) e) err;
  by_store = risen_delivery (keeper.refusals a) (keeper.refusals b) r count;
}

pub delivers_one : (P Q R : Type 0) (s0 s1 s2 : OfficeState) (text : List ℕ) (r : Result Held DeliverFault) (w0 w1 : Option (List ℕ)) → Leaves s0 s1 text r P → (P → R) → Settles s1 s2 (is_ok r) Q → (Q → R) → Appends w0 w1 (reply_line s1.setup r) → DeliversOne s0 s2 text (mark_of r) w0 w1 R
delivers_one P Q R s0 s1 s2 text r w0 w1 l l_rises f f_rises wrote =
    let by : r ≡ reply_by (mark_of r) (answer_to s0.setup s0.kept text) = reply_by-mark r (answer_to s0.setup s0.kept text) l.answer in
    record {
      kept = f.kept ∙ kept_after s0.setup s0.kept s1.kept text r l.answer l.kept l.err;
      setup = f.setup ∙ l.setup;
      written = subst (Appends w0 w1) (ap (λ (s : Lists). reply_line s r) l.setup ∙ ap (reply_line s0.setup) by) wrote;
      by_store = delivery_weaker P R (mark_of r) l_rises (delivery_counted P r l.by_store);
      settles = record {
        setup = f.setup ∙ l.setup;
        kept = refl;
        grows = omega (arith, f.grows, l.finished);
        still = λ h. f.still (ap is_ok by ∙ h) ∙ l.finished;
        ready = f.ready;
        met = f.met;
        met_by_store = text_weaker Q R f.met f_rises f.met_by_store;
        all_ready = λ h e. f.all_ready (ap is_ok by ∙ h) e;
      };
    }

pub delivers_one_front : (P : Type 0) (s0 s1 : OfficeState) (text : List ℕ) (r : Result Held DeliverFault) (w0 w1 : Option (List ℕ)) → Leaves s0 s1 text r P → IsReady s1.setup s1.kept s1.finished → AppendsFront w0 w1 (reply_line s1.setup r) → DeliversOneFront s0 s1 text w0 w1 P
delivers_one_front P s0 s1 text r w0 w1 l ready wrote = record {
  mark = mark_of r;
  kept = kept_after s0.setup s0.kept s1.kept text r l.answer l.kept l.err;
  setup = l.setup;
  finished = l.finished;
  ready = ready;
  written = subst (AppendsFront w0 w1) (ap (λ (s : Lists). reply_line s r) l.setup ∙ ap (reply_line s0.setup) (reply_by-mark r (answer_to s0.setup s0.kept text) l.answer)) wrote;
  by_store = delivery_counted P r l.by_store;
}

-- a settle behind a delivery that is held
pub settles_call : {K : Type 0} (keeper : Ghosts K) (a b : K) (r : Result Progress StoreFault) (held : Bool) → IfOk r (λ p. IsReadyCount (keeper.setup a) (keeper.content a).kept p.ready) → IfOk r (λ p. (p.finished ≡ p.ready) × ((state_of keeper b).finished ≡ p.ready))
    → (keeper.content b).kept ≡ (keeper.content a).kept → (state_of keeper a).finished ≤ (state_of keeper b).finished → keeper.setup b ≡ keeper.setup a → IsSound keeper b → Counted (keeper.refusals a) (keeper.refusals b) r → held ≡ true → Settles (state_of keeper a) (state_of keeper b) held (StoreRefused keeper a b)
settles_call keeper a b r held counted_is finished kept grows setup sound count e = record {
  setup = setup;
  kept = kept;
  grows = grows;
  still = λ h. absurd (cc (h, e));
  ready = sound.1.ready;
  met = mark_in r;
  met_by_store = text_counted (StoreRefused keeper a b) r (risen (keeper.refusals a) (keeper.refusals b) r count);
  all_ready = λ h none. subst (λ (l : Lists). IsReadyCount l (keeper.content b).kept (state_of keeper b).finished) (sym setup)
      (subst (λ (k : Kept). IsReadyCount (keeper.setup a) k (state_of keeper b).finished) (sym kept) (settled_unmet (keeper.setup a) (keeper.content a).kept (state_of keeper b).finished r counted_is finished none));
}
