-- The head of a request, by the grammar of the crate httparse (RFC 9112, sections 2 to 5), and the limits on it.
use Rattle.std.specs.Prelude.{◌≤◌, ℕ, List, length}
use Rattle.httparse.specs.Grammar.{RequestHead, print_request, ReadsRequest}

-- the most bytes and fields of a head
abbrev pub head_room : ℕ
head_room = 8192

abbrev pub field_room : ℕ
field_room = 64

-- the most bytes of a body
abbrev pub body_room : ℕ
body_room = 65_536

-- the bytes begin with this head, within its limits of bytes and fields, and continue with the rest
pub record BeginsWith (input : List ℕ) (head : RequestHead) (rest : List ℕ) : Type 0 where
  pub reads : ReadsRequest input head rest
  pub short : length (print_request head) ≤ head_room
  pub few : length head.fields ≤ field_room
