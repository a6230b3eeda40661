-- Steps beside `specs/Asked.antt`.
use Rattle.std.specs.Prelude.{ℕ, Bool, true, ◌&&◌, if◌then◌else◌, List, codes}
use Rattle.std.specs.Str.{str_eq_ignore_ascii_case}
use Rattle.office_http_requests.specs.declared.request.Stated.{Stated}
use Rattle.office_http_requests.specs.declared.request.Stated.TheVariants.{Absent, Bad, TooLong, Exactly}
use Rattle.office_http_requests.specs.declared.request.Framing.{Framing}
use Rattle.office_http_requests.specs.declared.request.HostFields.{HostFields}
use Rattle.office_http_requests.specs.declared.request.HostFields.TheVariants.{NoHost, OneHost, SeveralHosts}
use Rattle.office_http_requests.specs.Asked.{Line, number_stated, stated, is_continue, is_foreign_site}

-- what a request states of its length with one more value, and what its fields say with one more line
abbrev pub with_value : Stated → List ℕ → Stated
with_value Absent value = number_stated value
with_value Bad value = Bad
with_value TooLong value = Bad
with_value (Exactly n) value = Bad

abbrev pub length_with : Stated → Line → Stated
length_with stated line = if str_eq_ignore_ascii_case line.0 (codes "content-length") then with_value stated line.1 else stated

abbrev pub waits_with : Bool → Line → Bool
waits_with waits line = if str_eq_ignore_ascii_case line.0 (codes "expect") && is_continue line.1 then true else waits

abbrev pub foreign_with : Bool → Line → Bool
foreign_with foreign line =
    if str_eq_ignore_ascii_case line.0 (codes "origin") then true else (if str_eq_ignore_ascii_case line.0 (codes "sec-fetch-site") && is_foreign_site line.1 then true else foreign)

abbrev pub with_host : HostFields → HostFields
with_host NoHost = OneHost
with_host OneHost = SeveralHosts
with_host SeveralHosts = SeveralHosts

abbrev pub hosts_with : HostFields → Line → HostFields
hosts_with hosts line = if str_eq_ignore_ascii_case line.0 (codes "host") then with_host hosts else hosts

abbrev pub with_field : Framing → Line → Framing
with_field framing line = record {
  length = length_with framing.length line;
  coded = if str_eq_ignore_ascii_case line.0 (codes "transfer-encoding") then true else framing.coded;
  waits = waits_with framing.waits line;
  foreign = foreign_with framing.foreign line;
  hosts = hosts_with framing.hosts line;
}
