-- What is answered to a request that tries hints. That a service takes such requests is this office's own.
use Rattle.std.specs.Prelude.{ℕ, Bool, true, false, not, ◌&&◌, ◌||◌, List, [], ◌∷◌, ◌++◌, ◌==◌, length, codes, if◌then◌else◌, nat_lt, slice_index_or, Option, Some, None, Err}
use Rattle.std.specs.List.{count_by}
use Rattle.std.specs.Str.{is_utf8}
use Rattle.std.specs.Str.Lines.{lines}
use Rattle.jiff_core.specs.declared.civil.date.Date.{Date}
use Rattle.office_mail.specs.declared.message.MailFault.{MailFault}
use Rattle.office_mail.specs.declared.message.MailFault.TheVariants as mail
use Rattle.office_mail.specs.Lists.{Lists}
use Rattle.office_core_replies.specs.declared.faults.DeliverFault.TheVariants.{Mail}
use Rattle.office_core_replies.specs.Replies.{fault_words, name_at}
use Rattle.office_http_requests.specs.declared.request.Action.{Action}
use Rattle.office_http_requests.specs.declared.request.Action.TheVariants.{Try, TryOn}
use Rattle.office_http_requests.specs.declared.reply.Refusal.TheVariants as refusal
use Rattle.office_http_requests.specs.declared.reply.Answer.{Answer}
use Rattle.office_http_requests.specs.declared.reply.Answer.TheVariants.{Refused, Delivered, Told, BadHint}
use Rattle.office_core_outcome.specs.declared.RefusedHint.{RefusedHint}
use Rattle.office_core_outcome.specs.declared.TrialOptions.{TrialOptions}
use Rattle.office_core_outcome.specs.declared.Trial.{Trial}
use Rattle.office_core_outcome.specs.declared.Trial.TheVariants as trial
use Rattle.office_core_outcome.specs.Trial.{trial_text}
use Rattle.office_core_facts.specs.Seen.{release}
use Rattle.office_http.specs.ShortTexts.{ends_line, short_text}

-- a requested trial covers only the mail of the release team, and has no day of its own
abbrev pub request_terms : TrialOptions
request_terms = record { day = None; all = false }

-- a trial requested for a day covers all mail without a gap, and is on that day or later
abbrev pub terms_on : Date → TrialOptions
terms_on day = record { day = Some day; all = true }

-- the terms of an action that tries hints
abbrev pub terms_of : Action → Option TrialOptions
terms_of Try = Some request_terms
terms_of (TryOn day) = Some (terms_on day)
terms_of _ = None

-- the hints of a body, one in each line; an empty body has an empty one
abbrev pub hints_in : List ℕ → List (List ℕ)
hints_in body = if length body == 0 then [] ∷ [] else lines body

-- the line on a hint that is refused for this fault
abbrev pub refused_hint : List ℕ → MailFault → List ℕ
refused_hint hint fault = codes "'" ++ hint ++ codes "': refused " ++ fault_words (Mail fault) ++ 10 ∷ []

-- the line on a refused hint of these
abbrev pub refused_line : List (List ℕ) → RefusedHint → List ℕ
refused_line hints refused = refused_hint (slice_index_or hints refused.place []) refused.fault

-- the answer to hints, given the report of their trial
abbrev pub trial_answer : Lists → List (List ℕ) → Trial → Answer
trial_answer setup hints (trial.Told report reasons) = Told (short_text (trial_text (name_at setup (release setup)) hints report reasons))
trial_answer setup hints trial.NoDate = Refused refusal.NoRun
trial_answer setup hints (trial.Refused refused) = BadHint (refused_line hints refused)

-- a byte that ends a line, or that stands in an item
abbrev pub is_mark : ℕ → Bool
is_mark b = ends_line b || b == 47

-- no hint but `easy` begins with an e
abbrev pub begins_easy : List ℕ → Bool
begins_easy [] = false
begins_easy (c ∷ cs) = c == 101

-- one `easy` hint, without a line end
abbrev pub is_one_group : List ℕ → Bool
is_one_group body = begins_easy body && count_by ends_line body == 0

-- More hints and items than one request may try, unless it tries one group: the run tests each item that is to be removed.
abbrev pub has_many_hints : List ℕ → Bool
has_many_hints body = not (is_one_group body) && nat_lt 12 (count_by is_mark body)

-- the answer to a body of few hints; one that isn't UTF-8 is answered as mail that isn't
abbrev pub few_answer : Lists → List ℕ → Trial → Answer
few_answer setup body told = if is_utf8 body then trial_answer setup (hints_in body) told else Delivered (Err (Mail mail.BadParagraph))

-- the answer to a body of hints
abbrev pub tried_answer : Lists → List ℕ → Trial → Answer
tried_answer setup body told = if has_many_hints body then Refused refusal.TooManyHints else few_answer setup body told
