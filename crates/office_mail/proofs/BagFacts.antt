-- What the bytes that were taken make of a bag.
use Rattle.std.proofs.Common.{◌≡◌, ℕ, ◌+◌, ◌-◌, ◌*◌, ◌<◌, ◌≤◌, ◌⊎◌, min, Option, Some, None, List, [], ◌∷◌, ◌++◌, length, take, drop, replicate, sym, ap, subst, ◌∙◌, refl, arith, codes, decimal, inl, inr, ⊎_elim}
use Rattle.std.specs.Io.KnownBytes.{Consumes, prepend_known}
use Rattle.std.proofs.KnownBytes.{Consumes-nil, Consumes-trans}
use Rattle.std.proofs.lemmas.List.{append_assoc, append-nil, length-append, take-append-le, length-take, length-drop, drop-drop, take-append-drop, take_all, length-replicate, length-take-le}
use Rattle.std.proofs.lemmas.Bool.{cases_lt, le-leb}
use Rattle.std.proofs.Math.Seq.{take-nil}
use Rattle.office_mail.specs.Bag.{header, handed, BeginsHeader, IsCutHeader, IsTruncated, EndsSo}
use Rattle.office_mail.specs.steps.Line.{spelled, IsLine}
use Rattle.office_mail.specs.Reading.{Reading}
use Rattle.office_mail.specs.Counts.{most, HasRisen}
use Rattle.office_mail.specs.BagSteps.{TakesMessage, Stops, ReadFails, ReadsPieces, CountsEach}
use Rattle.office_mail.specs.steps.BagReads.{GoesOn, TakesBody, Waits, BreaksOff, IsShort}
use Rattle.office_mail.specs.declared.bag.BagFault.{BagFault}
use Rattle.office_mail.specs.declared.bag.BagFault.TheVariants.{BadHeader, Truncated, ReadFault, NoMemory}
use Rattle.office_mail.proofs.HeaderFacts.{spelled_digits, length-header}

-- what waits stands before what the reader has left
pub waits_before : (bs : List ℕ) (unread : Option (List ℕ)) → Consumes (prepend_known bs unread) unread bs
waits_before bs None = tt
waits_before bs (Some xs) = refl

-- ---- what is counted

counts_on : (a b c calls between after : ℕ) → a ≤ b → b ≤ c → min (calls + (b - a)) most ≤ between → min (between + (c - b)) most ≤ after → min (calls + (c - a)) most ≤ after
counts_on a b c calls between after h k first second = omega arith

-- ---- how much was read

-- what a read took of the reader
abbrev pub Piece : Option (List ℕ) → Option (List ℕ) → Type 0
Piece old new = (bytes : List ℕ) × Consumes old new bytes × (length bytes ≤ 8192)

pub pieces_same : (a b : Reading) → b.unread ≡ a.unread → ReadsPieces a b
pieces_same a b same = record { bytes = []; came = subst (λ (u : Option (List ℕ)). Consumes a.unread u []) (sym same) (Consumes-nil a.unread); few = omega arith }

pub pieces_twice : (a b c : Reading) → a.reads ≤ b.reads → b.reads ≤ c.reads → ReadsPieces a b → ReadsPieces b c → ReadsPieces a c
pieces_twice a b c h k first second = record {
  bytes = first.bytes ++ second.bytes;
  came = Consumes-trans a.unread b.unread c.unread first.bytes second.bytes first.came second.came;
  few = omega (arith, length-append first.bytes second.bytes, first.few, second.few);
}

pub counts_same : (a : Reading) → CountsEach a a
counts_same a = (omega arith, omega arith, pieces_same a a refl)

pub counts_twice : (a b c : Reading) → CountsEach a b → CountsEach b c → CountsEach a c
counts_twice a b c h k = (omega (arith, h.0, k.0), counts_on a.reads b.reads c.reads a.calls b.calls c.calls h.0 k.0 h.1 k.1, pieces_twice a b c h.0 k.0 h.2 k.2)

pub goes_on_same : (a : Reading) → GoesOn a a
goes_on_same a = record { failures = omega arith; counts = counts_same a; calls = omega arith; room = omega arith; ended = refl }

-- one read more
pub goes_on_read : (a b : Reading) → b.reads ≡ a.reads + 1 → a.failures ≤ b.failures → b.calls ≤ a.calls + 1 → HasRisen a.calls b.calls → Piece a.unread b.unread → b.room ≤ a.room → b.ended ≡ a.ended → GoesOn a b
goes_on_read a b one failures calls counts piece room ended = record {
  failures = failures;
  counts = (omega arith, omega (arith, counts, one), record { bytes = piece.0; came = piece.1; few = omega (arith, piece.2, one) });
  calls = omega arith;
  room = room;
  ended = ended;
}

-- a read brings 8192 bytes at most, which are taken off what can still come
pub room_read : (reads len taken waiting : ℕ) → reads ≤ 1_000_000 → (reads ≡ 1_000_000 → ⊥) → len ≤ 8192 → (1_000_000 - (reads + 1)) * 8192 + (len - taken) ≤ (1_000_000 - reads) * 8192 + waiting
room_read reads len taken waiting most unmet few = omega (arith, unmet)

-- a byte is handed out
pub goes_on_byte : (a b : Reading) → b.reads ≡ a.reads → b.failures ≡ a.failures → b.calls ≡ a.calls → b.unread ≡ a.unread → b.room ≤ a.room → b.ended ≡ a.ended → GoesOn a b
goes_on_byte a b reads failures calls unread room ended = record {
  failures = omega (arith, failures);
  counts = (omega (arith, reads), omega (arith, reads, calls), pieces_same a b unread);
  calls = omega (arith, reads, calls);
  room = room;
  ended = ended;
}

-- with a byte of it taken, fewer can still come
pub room_less : (reads len taken waiting : ℕ) → reads ≤ 1_000_000 → (reads ≡ 1_000_000 → ⊥) → len ≤ 8192 → 0 < taken → (1_000_000 - (reads + 1)) * 8192 + (len - taken) < (1_000_000 - reads) * 8192 + waiting
room_less reads len taken waiting most unmet few some = omega (arith, unmet)

pub room_byte_less : (room len at : ℕ) → at < len → room + (len - (at + 1)) < room + (len - at)
room_byte_less room len at h = omega arith

pub room_byte : (room len at : ℕ) → room + (len - (at + 1)) ≤ room + (len - at)
room_byte room len at = omega arith

-- what goes on, and goes on again
pub goes_on_twice : (a b c : Reading) → GoesOn a b → GoesOn b c → GoesOn a c
goes_on_twice a b c h k = record {
  failures = omega arith;
  counts = counts_twice a b c h.counts k.counts;
  calls = omega arith;
  room = omega arith;
  ended = k.ended ∙ h.ended;
}

-- a read fails after others that didn't
pub fails_later : (a b c : Reading) → b.failures ≡ a.failures → ReadFails b c → ReadFails a c
fails_later a b c clean fails = rw clean at fails

-- ---- a header line

pub begins : (begun : List ℕ) → IsCutHeader begun → BeginsHeader begun
begins begun cut = (cut.number, cut.small, (cut.more, cut.whole))

spelled_word : (place value : ℕ) → place ≤ 5 → spelled place value ≡ take place (codes "mail ")
spelled_word place value h = rw (le-leb place 5 h) refl

-- what was spelled of a line isn't all of it
pub line_missing : (place value : ℕ) → IsLine place value → IsCutHeader (spelled place value)
line_missing place value line =
    ⊎_elim (λ (lt : 5 < place). record {
      number = value;
      more = 10 ∷ [];
      small = line.small;
      some = omega arith;
      whole = ap (λ (l : List ℕ). l ++ 10 ∷ []) (spelled_digits place value lt);
    })
    (λ (le : place ≤ 5). record {
      number = 0;
      more = drop place (codes "mail ") ++ (decimal 0 ++ 10 ∷ []);
      small = omega arith;
      some = omega (arith, length-append (drop place (codes "mail ")) (decimal 0 ++ 10 ∷ []), length-append (decimal 0) (10 ∷ []));
      whole = ap (λ (l : List ℕ). l ++ (drop place (codes "mail ") ++ (decimal 0 ++ 10 ∷ []))) (spelled_word place value le)
          ∙ sym (append_assoc (take place (codes "mail ")) (drop place (codes "mail ")) (decimal 0 ++ 10 ∷ []))
          ∙ ap (λ (l : List ℕ). l ++ (decimal 0 ++ 10 ∷ [])) (take-append-drop place (codes "mail "));
    })
    (cases_lt 5 place)

pub length-spelled : (place value : ℕ) → IsLine place value → length (spelled place value) ≡ place
length-spelled place value line =
    ⊎_elim (λ (lt : 5 < place). ap length (spelled_digits place value lt) ∙ omega (arith, length-append (codes "mail ") (decimal value), line.digits lt))
    (λ (le : place ≤ 5). ap length (spelled_word place value le) ∙ length-take-le place (codes "mail ") le)
    (cases_lt 5 place)

zeros : ℕ → List ℕ
zeros n = replicate n 0

length-zeros : (n : ℕ) → length (zeros n) ≡ n
unfolding zeros
length-zeros n = length-replicate n 0

-- a line that began and isn't whole
cut_line : (begun : List ℕ) → 0 < length begun → IsCutHeader begun → IsTruncated begun
cut_line begun some cut =
    let size : length (zeros cut.number) ≡ cut.number = length-zeros cut.number in (
      some,
      zeros cut.number,
      cut.more ++ zeros cut.number,
      omega (arith, cut.small, size),
      omega (arith, cut.some, length-append cut.more (zeros cut.number)),
      sym (append_assoc begun cut.more (zeros cut.number)) ∙ ap (λ (l : List ℕ). l ++ zeros cut.number) cut.whole
          ∙ ap (λ (k : ℕ). header k ++ zeros cut.number) (sym size),
    )

-- a whole line, and less than its message
cut_body : (n : ℕ) (rest : List ℕ) → n ≤ 999_999_999 → length rest < n → IsTruncated (header n ++ rest)
cut_body n rest small short =
    let more : ℕ = n - length rest in
    let size : length (rest ++ zeros more) ≡ n = omega (arith, length-append rest (zeros more), length-zeros more, short) in (
      omega (arith, length-append (header n) rest, length-header n),
      rest ++ zeros more,
      zeros more,
      omega (arith, size, small),
      omega (arith, length-zeros more, short),
      append_assoc (header n) rest (zeros more) ∙ ap (λ (k : ℕ). header k ++ (rest ++ zeros more)) (sym size),
    )

none_of : (rest : List ℕ) → length rest < 1 → rest ≡ []
none_of [] h = refl
none_of (x ∷ xs) h = absurd (omega arith)

only : (begun rest : List ℕ) → length rest < 1 → begun ++ rest ≡ begun
only begun rest short = ap (λ (l : List ℕ). begun ++ l) (none_of rest short) ∙ append-nil begun

-- one more byte of a line
pub line_more : (a b c : Reading) (begun longer : List ℕ) (byte : ℕ) → Consumes a.left b.left begun → Consumes b.left c.left (byte ∷ []) → longer ≡ begun ++ byte ∷ [] → Consumes a.left c.left longer
line_more a b c begun longer byte h k e = rw e (Consumes-trans a.left b.left c.left begun (byte ∷ []) h k)

-- the input ends where a line could begin
pub plain_end : (a b c : Reading) → Consumes a.left b.left [] → BreaksOff b c 1 Truncated → Stops a c None
plain_end a b c h off = record {
  rest = off.rest;
  came = Consumes-trans a.left b.left c.unread [] off.rest h off.came;
  ends = none_of off.rest off.short;
  met = off.met;
}

-- the input ends within a line
pub line_ends : (a b c : Reading) (begun : List ℕ) → Consumes a.left b.left begun → 0 < length begun → IsCutHeader begun → BreaksOff b c 1 Truncated → Stops a c (Some Truncated)
line_ends a b c begun h some cut off = record {
  rest = begun ++ off.rest;
  came = Consumes-trans a.left b.left c.unread begun off.rest h off.came;
  ends = subst IsTruncated (sym (only begun off.rest off.short)) (cut_line begun some cut);
  met = off.met;
}

read_in_line : (begun : List ℕ) → IsCutHeader begun → (begun ≡ []) ⊎ IsTruncated begun
read_in_line [] cut = inl refl
read_in_line (x ∷ xs) cut = inr (cut_line (x ∷ xs) (omega arith) cut)

fault_in_line : (fault : BagFault) (begun rest : List ℕ) → IsCutHeader begun → (fault ≡ Truncated → ⊥) → IsShort fault 1 rest → EndsSo (Some fault) (begun ++ rest)
fault_in_line BadHeader begun rest cut never short = absurd short
fault_in_line Truncated begun rest cut never short = absurd (never refl)
fault_in_line ReadFault begun rest cut never short = subst (EndsSo (Some ReadFault)) (sym (only begun rest short)) (read_in_line begun cut)
fault_in_line NoMemory begun rest cut never short = tt

-- a read within a line is refused
pub line_fails : (a b c : Reading) (begun : List ℕ) (fault : BagFault) → Consumes a.left b.left begun → IsCutHeader begun → (fault ≡ Truncated → ⊥) → BreaksOff b c 1 fault → Stops a c (Some fault)
line_fails a b c begun fault h cut never off = record {
  rest = begun ++ off.rest;
  came = Consumes-trans a.left b.left c.unread begun off.rest h off.came;
  ends = fault_in_line fault begun off.rest cut never off.short;
  met = off.met;
}

-- the bytes so far begin a line, and the next one continues none
pub bad_line : (a b c : Reading) (begun : List ℕ) (byte : ℕ) → Consumes a.left b.left begun → Consumes b.left c.left (byte ∷ []) → Waits c → IsCutHeader begun → (BeginsHeader (begun ++ byte ∷ []) → ⊥) → Stops a c (Some BadHeader)
bad_line a b c begun byte h k waits cut stops = record {
  rest = begun ++ byte ∷ waits.bytes;
  came = Consumes-trans a.left b.left c.unread begun (byte ∷ waits.bytes) h (Consumes-trans b.left c.left c.unread (byte ∷ []) waits.bytes k waits.came);
  ends = (begun, byte, waits.bytes, refl, cut, stops);
  met = tt;
}

-- ---- a message

fault_in_message : (fault : BagFault) (n : ℕ) (rest : List ℕ) → n ≤ 999_999_999 → IsShort fault n rest → EndsSo (Some fault) (header n ++ rest)
fault_in_message BadHeader n rest small short = absurd short
fault_in_message Truncated n rest small short = cut_body n rest small short
fault_in_message ReadFault n rest small short = inr (cut_body n rest small short)
fault_in_message NoMemory n rest small short = tt

-- behind its line a message breaks off
pub message_stops : (a b c : Reading) (n : ℕ) (fault : BagFault) → n ≤ 999_999_999 → Consumes a.left b.left (header n) → BreaksOff b c n fault → Stops a c (Some fault)
message_stops a b c n fault small line off = record {
  rest = header n ++ off.rest;
  came = Consumes-trans a.left b.left c.unread (header n) off.rest line off.came;
  ends = fault_in_message fault n off.rest small off.short;
  met = off.met;
}

short_in_body : (fault : BagFault) (i n : ℕ) (whole rest : List ℕ) → length whole ≡ i → i < n → IsShort fault 1 rest → IsShort fault n (whole ++ rest)
short_in_body BadHeader i n whole rest size h short = short
short_in_body Truncated i n whole rest size h short = omega (arith, length-append whole rest, size, short)
short_in_body ReadFault i n whole rest size h short = omega (arith, length-append whole rest, size, short)
short_in_body NoMemory i n whole rest size h short = tt

-- behind its first i bytes a message breaks off
pub body_stops : (a b c : Reading) (i n : ℕ) (message : List ℕ) (fault : BagFault) → TakesBody a b i message → i < n → BreaksOff b c 1 fault → BreaksOff a c n fault
body_stops a b c i n message fault body h off = record {
  rest = body.whole ++ off.rest;
  came = Consumes-trans a.left b.left c.unread body.whole off.rest body.took off.came;
  short = short_in_body fault i n body.whole off.rest body.size h off.short;
  met = off.met;
}

-- no memory is left for the next byte
pub body_without_memory : (a b c : Reading) (i n byte : ℕ) (message : List ℕ) → TakesBody a b i message → Consumes b.left c.left (byte ∷ []) → Waits c → BreaksOff a c n NoMemory
body_without_memory a b c i n byte message body k waits = record {
  rest = body.whole ++ byte ∷ waits.bytes;
  came = Consumes-trans a.left b.left c.unread body.whole (byte ∷ waits.bytes) body.took (Consumes-trans b.left c.left c.unread (byte ∷ []) waits.bytes k waits.came);
  short = tt;
  met = tt;
}

-- one more byte of a message
pub handed_push : (whole : List ℕ) (b : ℕ) → length (handed whole) ≤ 65_536 → handed (whole ++ b ∷ []) ≡ handed whole ++ b ∷ []
unfolding handed
handed_push whole b few =
    let short : length whole ≤ 65_536 = omega (arith, length-take 65_537 whole) in
    take_all 65_537 (whole ++ b ∷ []) (omega (arith, length-append whole (b ∷ []), short))
    ∙ ap (λ (l : List ℕ). l ++ b ∷ []) (sym (take_all 65_537 whole (omega (arith, short))))

pub handed_full : (whole : List ℕ) (b : ℕ) → 65_536 < length (handed whole) → handed (whole ++ b ∷ []) ≡ handed whole
unfolding handed
handed_full whole b many = take-append-le 65_537 whole (b ∷ []) (omega (arith, length-take 65_537 whole))

pub body_none : (r : Reading) → TakesBody r r 0 []
unfolding handed
body_none r = record { whole = []; size = refl; same = sym (take-nil 65_537); took = Consumes-nil r.left }

-- one byte more of a message
pub body_more : (a b c : Reading) (n byte : ℕ) (old new : List ℕ) → TakesBody a b n old → Consumes b.left c.left (byte ∷ []) → ((whole : List ℕ) → old ≡ handed whole → new ≡ handed (whole ++ byte ∷ [])) → TakesBody a c (n + 1) new
body_more a b c n byte old new body took grows = record {
  whole = body.whole ++ byte ∷ [];
  size = omega (arith, length-append body.whole (byte ∷ []), body.size);
  same = grows body.whole body.same;
  took = Consumes-trans a.left b.left c.left body.whole (byte ∷ []) body.took took;
}

pub whole_message : (a b c : Reading) (n : ℕ) (message : List ℕ) → n ≤ 999_999_999 → Consumes a.left b.left (header n) → TakesBody b c n message → TakesMessage a c message
whole_message a b c n message small line body = record {
  whole = body.whole;
  announced = omega (arith, body.size, small);
  same = body.same;
  took = Consumes-trans a.left b.left c.left (header (length body.whole)) body.whole (rw body.size line) body.took;
}

-- ---- a message that has come whole

-- the bytes that wait lose their front
front_taken : (pending : List ℕ) (at n : ℕ) (unread : Option (List ℕ)) → Consumes (prepend_known (drop at pending) unread) (prepend_known (drop (at + n) pending) unread) (take n (drop at pending))
front_taken pending at n None = tt
front_taken pending at n (Some xs) =
    let front : List ℕ = take n (drop at pending) in
    ap (λ (l : List ℕ). l ++ xs) (sym (take-append-drop n (drop at pending)))
    ∙ append_assoc front (drop n (drop at pending)) xs
    ∙ ap (λ (l : List ℕ). front ++ (l ++ xs)) (drop-drop n at pending)

-- a message is the next n of the bytes that wait
pub body_copied : (a b : Reading) (pending message : List ℕ) (unread : Option (List ℕ)) (at n : ℕ) → a.left ≡ prepend_known (drop at pending) unread → b.left ≡ prepend_known (drop (at + n) pending) unread
    → at + n ≤ length pending → n ≤ 65_536 → message ≡ take n (drop at pending) → TakesBody a b n message
unfolding handed
body_copied a b pending message unread at n before after whole short copy = record {
  whole = take n (drop at pending);
  size = length-take-le n (drop at pending) (omega (arith, length-drop at pending, whole));
  same = copy ∙ sym (take_all 65_537 (take n (drop at pending)) (omega (arith, length-take n (drop at pending), short)));
  took = rw (before, after) (front_taken pending at n unread);
}

-- no memory is left for bytes that wait
pub copy_without_memory : (a : Reading) (n : ℕ) (bytes : List ℕ) → Consumes a.left a.unread bytes → BreaksOff a a n NoMemory
copy_without_memory a n bytes came = record { rest = bytes; came = came; short = tt; met = tt }
