-- The reply that is written (RFC 9112, section 4).
use Rattle.std.specs.Prelude.{ℕ, List, [], ◌∷◌, ◌++◌, length, codes, decimal, Bool, if◌then◌else◌, unwrap_or, Result, Ok, Err}
use Rattle.http.specs.StatusCode.{reason_phrase}
use Rattle.office_mail.specs.declared.message.MailFault.TheVariants as mail
use Rattle.office_mail.specs.Lists.{Lists}
use Rattle.office_core_replies.specs.declared.faults.DeliverFault.{DeliverFault}
use Rattle.office_core_replies.specs.declared.faults.DeliverFault.TheVariants.{Mail, OtherText, Store}
use Rattle.office_core_replies.specs.declared.faults.Held.{Held}
use Rattle.office_http_requests.specs.declared.reply.Refusal.{Refusal}
use Rattle.office_http_requests.specs.declared.reply.Refusal.TheVariants as refusal
use Rattle.office_http_requests.specs.declared.reply.Answer.{Answer}
use Rattle.office_http_requests.specs.declared.reply.Answer.TheVariants.{Refused, Delivered, Status, Told, Letter, BadHint}
use Rattle.office_core_replies.specs.Replies.{status_line, reply_line}

-- a status code, the field Allow or nothing, and a body
pub record Reply : Type 0 where
  pub code : ℕ
  pub allow : List ℕ
  pub body : List ℕ

-- the status line, the fields and the empty line
unfoldable pub front_bytes : ℕ → List ℕ → ℕ → List ℕ
front_bytes code allow size =
    codes "HTTP/1.1 " ++ (decimal code ++ (codes " " ++ (unwrap_or (reason_phrase code) [] ++ (codes "\r\nContent-Type: text/plain; charset=utf-8\r\nContent-Length: "
    ++ (decimal size ++ (codes "\r\nConnection: close\r\n" ++ (allow ++ codes "\r\n")))))))

-- the whole reply; a HEAD gets no body, and the length of the one that it doesn't get
abbrev pub reply_bytes : Reply → Bool → List ℕ
reply_bytes reply is_head = front_bytes reply.code reply.allow (length reply.body) ++ (if is_head then [] else reply.body)

-- the answer to a client that waits before it sends the body
unfoldable pub continue_bytes : List ℕ
continue_bytes = codes "HTTP/1.1 100 Continue\r\n\r\n"

-- the status code of a refusal (RFC 9110, section 15; RFC 6585, section 5), and its name in the reply
abbrev pub refusal_status : Refusal → ℕ × List ℕ
refusal_status refusal.BadRequest = (400, codes "BadRequest")
refusal_status refusal.NoRoute = (404, codes "NoRoute")
refusal_status refusal.NoRun = (404, codes "NoRun")
refusal_status refusal.NoMessage = (404, codes "NoMessage")
refusal_status refusal.NoSource = (404, codes "NoSource")
refusal_status refusal.OtherSender = (403, codes "OtherSender")
refusal_status refusal.OtherOrigin = (403, codes "OtherOrigin")
refusal_status refusal.OtherHost = (403, codes "OtherHost")
refusal_status refusal.OnlyGet = (405, codes "MethodNotAllowed")
refusal_status refusal.OnlyPost = (405, codes "MethodNotAllowed")
refusal_status refusal.LengthRequired = (411, codes "LengthRequired")
refusal_status refusal.TooLong = (413, codes "TooLong")
refusal_status refusal.TooManyHints = (413, codes "TooManyHints")
refusal_status refusal.HeadTooLarge = (431, codes "HeadTooLarge")
refusal_status refusal.NoMemory = (503, codes "NoMemory")
refusal_status refusal.Store = (500, codes "Store")

-- the field that names the method that a path accepts (RFC 9110, section 10.2.1)
abbrev pub refusal_allow : Refusal → List ℕ
refusal_allow refusal.OnlyGet = codes "Allow: GET\r\n"
refusal_allow refusal.OnlyPost = codes "Allow: POST\r\n"
refusal_allow _ = []

-- the reply to a request that is refused
abbrev pub refused : Refusal → Reply
refused refusal = record { code = (refusal_status refusal).0; allow = refusal_allow refusal; body = codes "refused " ++ (refusal_status refusal).1 ++ 10 ∷ [] }

-- the reply with this status code and text
abbrev pub reply_with : ℕ → List ℕ → Reply
reply_with code text = record { code = code; allow = []; body = text }

-- the status code for a delivery
abbrev pub delivery_code : Result Held DeliverFault → ℕ
delivery_code (Ok held) = 200
delivery_code (Err (Mail mail.TooLong)) = 413
delivery_code (Err (Mail mail.NoMemory)) = 503
delivery_code (Err (Mail _)) = 400
delivery_code (Err OtherText) = 409
delivery_code (Err Store) = 500

-- the reply to the outcome of a request
abbrev pub reply_in : Lists → Answer → Reply
reply_in setup (Refused refusal) = refused refusal
reply_in setup (Delivered reply) = reply_with (delivery_code reply) (reply_line setup reply)
reply_in setup (Status progress) = reply_with 200 (status_line progress.ready progress.finished)
reply_in setup (Told text) = reply_with 200 text
reply_in setup (Letter text) = reply_with 200 text
reply_in setup (BadHint text) = reply_with 400 text
