-- What a request that tries hints comes to.
use Rattle.std.proofs.Common.{◌≡◌, ℕ, true, false, cond, List, Option, Some, None, Result, Ok, Err, IfOk, unwrap_or, refl, sym, ap, subst, ◌∙◌}
use Rattle.std.specs.Str.{is_utf8}
use Rattle.office_mail.specs.declared.message.MailFault.TheVariants as mail
use Rattle.office_mail.specs.Lists.{Lists}
use Rattle.office_core_replies.specs.declared.faults.DeliverFault.TheVariants.{Mail}
use Rattle.office_core_store.specs.declared.faults.StoreFault.{StoreFault}
use Rattle.office_core_store.specs.declared.faults.StoreFault.TheVariants as fault
use Rattle.office_http_requests.specs.declared.reply.Refusal.TheVariants as refusal
use Rattle.office_http_requests.specs.declared.reply.Answer.{Answer}
use Rattle.office_http_requests.specs.declared.reply.Answer.TheVariants.{Refused, Delivered}
use Rattle.office_http_requests.specs.declared.request.Action.{Action}
use Rattle.office_http_requests.specs.declared.request.Action.TheVariants.{Breaks, Deliver, DeliverOf, Look, Settle, Try, TryOn}
use Rattle.office_core_replay.specs.Losses.{TextCounted}
use Rattle.office_core_facts.specs.OfficeState.{OfficeState}
use Rattle.office_core_outcome.specs.Trial.{IsTrial}
use Rattle.office_core_outcome.specs.declared.Trial.{Trial}
use Rattle.office_core_outcome.specs.declared.Trial.TheVariants.{NoDate}
use Rattle.office_core_outcome.specs.declared.TrialOptions.{TrialOptions}
use Rattle.office_http.specs.Serve.{action_answer, refusal_for, Found, IsFoundBy, Moves}
use Rattle.office_http.specs.Trials.{few_answer, has_many_hints, hints_in, trial_answer, tried_answer, terms_of}
use Rattle.office_http.specs.steps.ServeSteps.{answer_or, TellsTrial, Runs}
use Rattle.office_http.proofs.ServeFacts.{nothing, quiet, still_moves}

-- a trial does nothing, and is answered by what it is told
some_same : (x y : TrialOptions) → Some x ≡ Some y → x ≡ y
some_same x y e = ap (λ (o : Option TrialOptions). unwrap_or o x) e

trial_moves : (rose : Type 0) (before after : OfficeState) (action : Action) (terms : TrialOptions) (body : List ℕ) (f : Option StoreFault) (ready : ℕ) → terms_of action ≡ Some terms → after ≡ before → Moves before after action body f ready rose
trial_moves rose before after Try terms body f ready by same = still_moves rose before after Try body f ready (quiet before.setup Try body f refl) refl (λ e. absurd (cc (e))) same
trial_moves rose before after (TryOn day) terms body f ready by same = still_moves rose before after (TryOn day) body f ready (quiet before.setup (TryOn day) body f refl) refl (λ e. absurd (cc (e))) same
trial_moves rose before after Deliver terms body f ready by same = absurd (cc (by))
trial_moves rose before after (DeliverOf sender) terms body f ready by same = absurd (cc (by))
trial_moves rose before after Look terms body f ready by same = absurd (cc (by))
trial_moves rose before after Settle terms body f ready by same = absurd (cc (by))
trial_moves rose before after Breaks terms body f ready by same = absurd (cc (by))

trial_said : (s : OfficeState) (found : Found) (action : Action) (terms : TrialOptions) (body : List ℕ) → terms_of action ≡ Some terms → tried_answer s.setup body found.trial ≡ action_answer s found action body
trial_said s found Try terms body by = refl
trial_said s found (TryOn day) terms body by = refl
trial_said s found Deliver terms body by = absurd (cc (by))
trial_said s found (DeliverOf sender) terms body by = absurd (cc (by))
trial_said s found Look terms body by = absurd (cc (by))
trial_said s found Settle terms body by = absurd (cc (by))
trial_said s found Breaks terms body by = absurd (cc (by))

trial_found : (s : OfficeState) (found : Found) (action : Action) (terms : TrialOptions) (body : List ℕ) → terms_of action ≡ Some terms → (has_many_hints body ≡ false → is_utf8 body ≡ true → IsTrial s.setup s.kept s.finished terms (hints_in body) found.trial) → IsFoundBy s found action body
trial_found s found Try terms body by is = λ m g. subst (λ (t : TrialOptions). IsTrial s.setup s.kept s.finished t (hints_in body) found.trial) (sym (some_same _ terms by)) (is m g)
trial_found s found (TryOn day) terms body by is = λ m g. subst (λ (t : TrialOptions). IsTrial s.setup s.kept s.finished t (hints_in body) found.trial) (sym (some_same _ terms by)) (is m g)
trial_found s found Deliver terms body by is = absurd (cc (by))
trial_found s found (DeliverOf sender) terms body by is = absurd (cc (by))
trial_found s found Look terms body by is = absurd (cc (by))
trial_found s found Settle terms body by is = absurd (cc (by))
trial_found s found Breaks terms body by is = absurd (cc (by))

tried_missed : (rose : Type 0) (before after : OfficeState) (action : Action) (terms : TrialOptions) (body : List ℕ) (f : StoreFault) → terms_of action ≡ Some terms → TextCounted rose (Some f) → after ≡ before → Runs before after action body (Refused (refusal_for f)) rose
tried_missed rose before after action terms body f by counted same = record { fault = Some f; by_store = counted; found = nothing; is = λ e. absurd (cc (e)); answer_is = refl; moves = trial_moves rose before after action terms body (Some f) 0 by same }

-- a body of few hints, and one of too many
few_said : (setup : Lists) (body : List ℕ) (told : Trial) → has_many_hints body ≡ false → few_answer setup body told ≡ tried_answer setup body told
few_said setup body told few = sym (ap (λ b. cond b (Refused refusal.TooManyHints) (few_answer setup body told)) few)

pub tried_many : (rose : Type 0) (s : OfficeState) (action : Action) (terms : TrialOptions) (body : List ℕ) → terms_of action ≡ Some terms → has_many_hints body ≡ true → Runs s s action body (Refused refusal.TooManyHints) rose
tried_many rose s action terms body by many = record {
  fault = None;
  by_store = tt;
  found = nothing;
  is = λ e. trial_found s nothing action terms body by (λ m g. absurd (let no : true ≡ false = sym many ∙ m in cc));
  answer_is = sym (ap (λ b. cond b (Refused refusal.TooManyHints) (few_answer s.setup body NoDate)) many) ∙ trial_said s nothing action terms body by;
  moves = trial_moves rose s s action terms body None 0 by refl;
}

-- the hints of a body
pub tried : (rose : Type 0) (before after : OfficeState) (action : Action) (terms : TrialOptions) (body : List ℕ) (r : Result Answer StoreFault) → terms_of action ≡ Some terms → has_many_hints body ≡ false → is_utf8 body ≡ true → IfOk r (λ answer. TellsTrial before terms (hints_in body) answer) → after ≡ before → (r ≡ Err fault.Store → rose) → Runs before after action body (answer_or r) rose
tried rose before after action terms body (Ok answer) by few legible h same err = record {
  fault = None;
  by_store = tt;
  found = record nothing { trial = h.trial };
  is = λ e. trial_found before (record nothing { trial = h.trial }) action terms body by (λ m g. h.tried);
  answer_is = h.answer_is ∙ sym (ap (λ b. cond b (trial_answer before.setup (hints_in body) h.trial) (Delivered (Err (Mail mail.BadParagraph)))) legible)
      ∙ few_said before.setup body h.trial few
      ∙ trial_said before (record nothing { trial = h.trial }) action terms body by;
  moves = trial_moves rose before after action terms body None 0 by same;
}
tried rose before after action terms body (Err fault.NoMemory) by few legible h same err = tried_missed rose before after action terms body fault.NoMemory by tt same
tried rose before after action terms body (Err fault.Store) by few legible h same err = tried_missed rose before after action terms body fault.Store by (err refl) same

-- a body that isn't UTF-8
pub tried_bad : (rose : Type 0) (s : OfficeState) (action : Action) (terms : TrialOptions) (body : List ℕ) → terms_of action ≡ Some terms → has_many_hints body ≡ false → is_utf8 body ≡ false → Runs s s action body (Delivered (Err (Mail mail.BadParagraph))) rose
tried_bad rose s action terms body by few bad = record {
  fault = None;
  by_store = tt;
  found = nothing;
  is = λ e. trial_found s nothing action terms body by (λ m g. absurd (let no : true ≡ false = sym g ∙ bad in cc));
  answer_is = sym (ap (λ b. cond b (trial_answer s.setup (hints_in body) NoDate) (Delivered (Err (Mail mail.BadParagraph)))) bad) ∙ few_said s.setup body NoDate few ∙ trial_said s nothing action terms body by;
  moves = trial_moves rose s s action terms body None 0 by refl;
}
