-- What a request that asks what a change breaks comes to.
use Rattle.std.proofs.Common.{◌≡◌, ℕ, true, false, cond, List, None, Some, Option, Result, Ok, Err, IfOk, refl, sym, ap, ◌∙◌}
use Rattle.std.specs.Str.{is_utf8}
use Rattle.office_mail.specs.declared.message.MailFault.TheVariants as mail
use Rattle.office_core_replies.specs.declared.faults.DeliverFault.TheVariants.{Mail}
use Rattle.office_core_store.specs.declared.faults.StoreFault.{StoreFault}
use Rattle.office_core_store.specs.declared.faults.StoreFault.TheVariants as fault
use Rattle.office_http_requests.specs.declared.reply.Answer.{Answer}
use Rattle.office_http_requests.specs.declared.reply.Answer.TheVariants.{Refused, Delivered}
use Rattle.office_http_requests.specs.declared.request.Action.TheVariants.{Breaks}
use Rattle.office_core_replay.specs.Losses.{TextCounted}
use Rattle.office_core_facts.specs.OfficeState.{OfficeState}
use Rattle.office_http.specs.Breaks.{changes_answer}
use Rattle.office_http.specs.Serve.{refusal_for, Moves}
use Rattle.office_http.specs.steps.ServeSteps.{answer_or, TellsChanges, Runs}
use Rattle.office_http.specs.Trials.{hints_in}
use Rattle.office_http.proofs.ServeFacts.{nothing, quiet, still_moves}

-- the question does nothing
asked_moves : (rose : Type 0) (before after : OfficeState) (body : List ℕ) (f : Option StoreFault) → after ≡ before → Moves before after Breaks body f 0 rose
asked_moves rose before after body f same = still_moves rose before after Breaks body f 0 (quiet before.setup Breaks body f refl) refl (λ e. absurd (cc (e))) same

asked_missed : (rose : Type 0) (before after : OfficeState) (body : List ℕ) (f : StoreFault) → TextCounted rose (Some f) → after ≡ before → Runs before after Breaks body (Refused (refusal_for f)) rose
asked_missed rose before after body f counted same = record { fault = Some f; by_store = counted; found = nothing; is = λ e. absurd (cc (e)); answer_is = refl; moves = asked_moves rose before after body (Some f) same }

-- and is answered by what is told of it
pub asked : (rose : Type 0) (before after : OfficeState) (body : List ℕ) (r : Result Answer StoreFault) → is_utf8 body ≡ true → IfOk r (TellsChanges before (hints_in body)) → after ≡ before → (r ≡ Err fault.Store → rose) → Runs before after Breaks body (answer_or r) rose
asked rose before after body (Ok answer) legible h same err = record {
  fault = None;
  by_store = tt;
  found = record nothing { breaks = h.told };
  is = λ e u one. h.is one;
  answer_is = h.answer_is ∙ sym (ap (λ b. cond b (changes_answer before.setup (hints_in body) h.told) (Delivered (Err (Mail mail.BadParagraph)))) legible);
  moves = asked_moves rose before after body None same;
}
asked rose before after body (Err fault.NoMemory) legible h same err = asked_missed rose before after body fault.NoMemory tt same
asked rose before after body (Err fault.Store) legible h same err = asked_missed rose before after body fault.Store (err refl) same

-- a body that isn't UTF-8
pub asked_bad : (rose : Type 0) (s : OfficeState) (body : List ℕ) → is_utf8 body ≡ false → Runs s s Breaks body (Delivered (Err (Mail mail.BadParagraph))) rose
asked_bad rose s body bad = record {
  fault = None;
  by_store = tt;
  found = nothing;
  is = λ e u one. absurd (let no : true ≡ false = sym u ∙ bad in cc);
  answer_is = sym (ap (λ b. cond b (changes_answer s.setup (hints_in body) None) (Delivered (Err (Mail mail.BadParagraph)))) bad);
  moves = asked_moves rose s s body None refl;
}
