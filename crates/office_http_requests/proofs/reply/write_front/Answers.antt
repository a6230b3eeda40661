use Rattle.office_http_requests.specs.Reply.{front_bytes}
use Rattle.office_http_requests.proofs.reply.write_front.Goals as goal

pub returns : goal.returns
unfolding front_bytes
returns g c =
    rw (c.as_slice.ensures, c.as_slice-2.ensures, c.of-code.ensures, c.from.ensures, c.as_u16.ensures.value, c.as_slice-3.ensures, c.as_bytes.ensures.value, c.phrase_of-phrase.ensures, c.as_slice-4.ensures, c.as_slice-5.ensures, c.of-digits.ensures, c.as_slice-6.ensures, c.as_bytes-2.ensures.value, c.as_slice-7.ensures) at c.write_parts.ensures
