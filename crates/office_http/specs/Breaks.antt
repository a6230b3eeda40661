-- What is answered to a request that asks what a change breaks. That a service takes such requests is this office's own.
use Rattle.std.specs.Prelude.{ℕ, Bool, List, [], length, nat_lt, slice_index_or, if◌then◌else◌, IfOk, Option, Some, None, Result, Ok, Err}
use Rattle.std.specs.Str.{is_utf8}
use Rattle.office_mail.specs.declared.message.MailFault.{MailFault}
use Rattle.office_mail.specs.declared.message.MailFault.TheVariants as mail
use Rattle.office_mail.specs.Lists.{Lists}
use Rattle.office_core_replies.specs.declared.faults.DeliverFault.TheVariants.{Mail}
use Rattle.office_core_facts.specs.OfficeState.{OfficeState}
use Rattle.office_core_breaks.specs.Asked.{question_in}
use Rattle.office_core_breaks.specs.Told.{IsBreaks}
use Rattle.office_core_breaks.specs.declared.BreaksText.{BreaksText}
use Rattle.office_core_breaks.specs.declared.asked.Question.{Question}
use Rattle.office_http_requests.specs.declared.reply.Refusal.TheVariants as refusal
use Rattle.office_http_requests.specs.declared.reply.Answer.{Answer}
use Rattle.office_http_requests.specs.declared.reply.Answer.TheVariants.{Refused, Delivered, Told, BadHint}
use Rattle.office_http.specs.ShortTexts.{short_answer}
use Rattle.office_http.specs.Trials.{hints_in, refused_hint}

-- the answer to words, given what they ask and what is told of that
abbrev pub question_answer : List ℕ → Result Question MailFault → Option BreaksText → Answer
question_answer words (Err fault) told = BadHint (refused_hint words fault)
question_answer words (Ok question) None = Refused refusal.NoRun
question_answer words (Ok question) (Some told) = Told told.text

abbrev pub breaks_answer : Lists → List ℕ → Option BreaksText → Answer
breaks_answer setup words told = question_answer words (question_in setup words) told

-- there are more changes than one
abbrev pub are_many : List (List ℕ) → Bool
are_many changes = nat_lt 1 (length changes)

-- the first of the changes
abbrev pub first_change : List (List ℕ) → List ℕ
first_change changes = slice_index_or changes 0 []

-- the answer to changes: one request asks about one
abbrev pub changes_answer : Lists → List (List ℕ) → Option BreaksText → Answer
changes_answer setup changes told = if are_many changes then Refused refusal.TooManyHints else short_answer (breaks_answer setup (first_change changes) told)

-- the answer to a body with a change in each line; one that isn't UTF-8 is answered as mail that isn't
abbrev pub body_answer : Lists → List ℕ → Option BreaksText → Answer
body_answer setup body told = if is_utf8 body then changes_answer setup (hints_in body) told else Delivered (Err (Mail mail.BadParagraph))

-- it is told of what the words ask, if they ask anything
abbrev pub IsBreaksBy : OfficeState → List ℕ → Option BreaksText → Type 0
IsBreaksBy s words told = IfOk (question_in s.setup words) (λ question. IsBreaks s.setup s.kept s.finished question told)
