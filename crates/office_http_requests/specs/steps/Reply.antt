-- Steps beside `specs/Reply.antt`.
use Rattle.std.specs.Prelude.{◌≡◌, ⊤, ◌<◌, ℕ, Bool, length, Result, Ok, Err, IfOk}
use Rattle.office_mail.specs.Lists.{Lists}
use Rattle.office_mail.specs.declared.feed.Sink.{Ghosts}
use Rattle.office_core_replies.specs.declared.faults.DeliverFault.{DeliverFault}
use Rattle.office_core_replies.specs.declared.faults.Held.{Held}
use Rattle.office_mail.specs.Written.{Writes}
use Rattle.office_http_requests.specs.declared.reply.Answer.{Answer}
use Rattle.office_http_requests.specs.declared.reply.Answer.TheVariants.{Delivered}
use Rattle.office_http_requests.specs.Reply.{Reply, reply_bytes}

-- a held text has a sender of the setup
abbrev pub HasPlaceOf : Lists → Result Held DeliverFault → Type 0
HasPlaceOf setup (Ok held) = held.sender < length setup.senders
HasPlaceOf setup (Err fault) = ⊤

abbrev pub HasPlace : Lists → Answer → Type 0
HasPlace setup (Delivered reply) = HasPlaceOf setup reply
HasPlace setup _ = ⊤

-- a reply was written, or a prefix of it by a writer that failed; a call returns its status code
pub record WritesReply {W E : Type 0} (sink : Ghosts W) (old new : W) (reply : Reply) (is_head : Bool) (result : Result ℕ E) : Type 0 where
  pub writes : Writes sink old new (reply_bytes reply is_head) result
  pub code : IfOk result (λ code. code ≡ reply.code)
