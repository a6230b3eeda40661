use Rattle.std.proofs.Common.{◌≡◌, string_bytes, take}
use Rattle.std.specs.List.{flat_map}
use Rattle.office_core_queries.specs.Mail.{mail_line}
use Rattle.office_core_queries.proofs.mail.mail_text.Given as goal

-- the text so far
abbrev pub invariant-loop-counted : goal.invariant-loop-counted
invariant-loop-counted l = string_bytes l.text ≡ flat_map (mail_line l.setup) (take l.counted-index l.counts)
