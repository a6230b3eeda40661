-- Requests for another host than those by which a service is known. That a service may refuse them is this office's own.
use Rattle.std.specs.Prelude.{◌≡◌, ℕ, Bool, true, false, not, ◌&&◌, ◌||◌, ◌==◌, List, [], ◌∷◌, length, take, drop, map, codes}
use Rattle.std.specs.List.{list_all, list_any}
use Rattle.std.specs.Char.{is_ascii_digit}
use Rattle.std.specs.Str.{str_eq_ignore_ascii_case}
use Rattle.httparse.specs.Grammar.{RequestHead}
use Rattle.httparse.specs.Spans.{name_and_value}
use Rattle.office_http_requests.specs.Asked.{Line}
use Rattle.office_http_requests.specs.Request.{BeginsWith}

-- nothing, or a colon and digits (RFC 3986, section 3.2.3)
abbrev pub is_port : List ℕ → Bool
is_port [] = true
is_port (c ∷ cs) = c == 58 && list_all is_ascii_digit cs

-- this name, with or without a port (RFC 9110, section 7.2), whatever the case of its letters (RFC 3986, section 3.2.2)
abbrev pub is_named : List ℕ → List ℕ → Bool
is_named value name = str_eq_ignore_ascii_case (take (length name) value) name && is_port (drop (length name) value)

-- a name of the machine itself, or one of these
abbrev pub is_own : List ℕ → Bool
is_own value = is_named value (codes "127.0.0.1") || (is_named value (codes "localhost") || is_named value (codes "[::1]"))

abbrev pub is_known : List (List ℕ) → List ℕ → Bool
is_known hosts value = is_own value || list_any (is_named value) hosts

-- a field names a known host
abbrev pub is_known_host : List (List ℕ) → Line → Bool
is_known_host hosts line = str_eq_ignore_ascii_case line.0 (codes "host") && is_known hosts line.1

-- one of a head's fields does
abbrev pub has_known_host : List (List ℕ) → RequestHead → Bool
has_known_host hosts head = list_any (is_known_host hosts) (map name_and_value head.fields)

abbrev pub has_names : List (List ℕ) → Bool
has_names [] = false
has_names (host ∷ hosts) = true

-- the head names no known host, where names are given: without any, a service is each host
abbrev pub is_for_other : List (List ℕ) → RequestHead → Bool
is_for_other hosts head = has_names hosts && not (has_known_host hosts head)

-- these bytes begin with a request for another host
pub record IsForOther (hosts : List (List ℕ)) (input : List ℕ) : Type 0 where
  pub head : RequestHead
  pub rest : List ℕ
  pub begins : BeginsWith input head rest
  pub other : is_for_other hosts head ≡ true
