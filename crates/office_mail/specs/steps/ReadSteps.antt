-- What an answer to reading a text says.
use Rattle.std.specs.Prelude.{List, ℕ, Option, Result, option_and_then, option_map}
use Rattle.std.specs.Result.{result_ok}
use Rattle.office_mail.specs.declared.message.Message.{Message}
use Rattle.office_mail.specs.declared.message.MailFault.{MailFault}
use Rattle.office_mail.specs.declared.message.RunOrder.{RunOrder}
use Rattle.office_mail.specs.Kept.{Place, place_of}
use Rattle.office_mail.specs.Runs.{order_in_body}

-- a text that was read, with the place of its message
abbrev pub placed_as : List ℕ → Result Message MailFault → Option (Place × List ℕ)
placed_as text answer = option_map (λ message. (place_of message, text)) (result_ok answer)

-- the run order of a message, if it is one
abbrev pub order_in_answer : Result Message MailFault → Option RunOrder
order_in_answer answer = option_and_then (λ message. order_in_body message.body) (result_ok answer)
