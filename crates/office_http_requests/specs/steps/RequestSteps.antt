-- How the bytes of a request are read, and how its reading ends.
use Rattle.std.specs.Prelude.{◌≡◌, ⊤, ◌<◌, ◌≤◌, ◌⊎◌, ◌+◌, ℕ, List, [], ◌++◌, length, Option}
use Rattle.std.specs.Io.KnownBytes.{Consumes, IsAtEnd}
use Rattle.httparse.specs.Grammar.{RequestHead, HasNoRequest, NeverHasRequest}
use Rattle.httparse.specs.Spans.{RequestExceeds, RequestOverflows, IsRequestWithin, IsRequestAt}
use Rattle.httparse.specs.declared.spans.HeaderSpan.{HeaderSpan}
use Rattle.httparse.specs.declared.spans.RequestSpans.{RequestSpans}
use Rattle.office_http_requests.specs.declared.head.ChunkRead.{ChunkRead}
use Rattle.office_http_requests.specs.declared.head.ChunkRead.TheVariants as drawn
use Rattle.office_http_requests.specs.declared.head.HeadRead.{HeadRead}
use Rattle.office_http_requests.specs.declared.head.HeadRead.TheVariants.{Nothing, Head, HeadTooLarge, BadRequest, NoMemory}
use Rattle.office_http_requests.specs.declared.head.BodyRead.{BodyRead}
use Rattle.office_http_requests.specs.declared.head.BodyRead.TheVariants as filled
use Rattle.office_http_requests.specs.Request.{head_room, field_room}

-- some bytes were read, at most this many
pub record Came (left left' : Option (List ℕ)) (most : ℕ) : Type 0 where
  pub input : List ℕ
  pub took : Consumes left left' input
  pub few : length input ≤ most

-- the result of one more read up to a total number of bytes
abbrev pub IsChunkRead : Option (List ℕ) → List ℕ → List ℕ → ℕ → List ℕ → ChunkRead → Type 0
IsChunkRead left seen seen' most taken drawn.Bytes = (seen' ≡ seen ++ taken) × (0 < length taken) × (length seen' ≤ most)
IsChunkRead left seen seen' most taken drawn.End = (seen' ≡ seen) × (taken ≡ []) × IsAtEnd left
IsChunkRead left seen seen' most taken drawn.NoMemory = ⊤

pub record Draws (left left' : Option (List ℕ)) (seen seen' : List ℕ) (most : ℕ) (drawn : ChunkRead) : Type 0 where
  -- what the read took
  pub taken : List ℕ
  pub took : Consumes left left' taken
  pub room : length seen < most
  pub few : length seen + length taken ≤ most
  pub is : IsChunkRead left' seen seen' most taken drawn

-- the parts of a head at the beginning of the bytes seen, within the limit on fields
pub record IsHeadAt (seen : List ℕ) (headers : List HeaderSpan) (spans : RequestSpans) : Type 0 where
  pub within : IsRequestWithin seen headers spans
  pub head : RequestHead
  pub parts : IsRequestAt seen headers spans head
  pub few : length head.fields ≤ field_room
  pub short : length seen ≤ head_room

-- how the reading of a head ended: what was read, what of it is held, and what is left of the input
abbrev pub IsEnd : Option (List ℕ) → List ℕ → List ℕ → List HeaderSpan → HeadRead → Type 0
IsEnd left input seen headers Nothing = (input ≡ []) × IsAtEnd left
IsEnd left input seen headers (Head spans) = (input ≡ seen) × IsHeadAt seen headers spans
IsEnd left input seen headers HeadTooLarge = (RequestExceeds field_room input × RequestOverflows field_room input) ⊎ ((length input ≡ head_room) × HasNoRequest input)
IsEnd left input seen headers BadRequest = NeverHasRequest input ⊎ ((0 < length input) × IsAtEnd left × HasNoRequest input)
IsEnd left input seen headers NoMemory = ⊤

pub record Heads (left left' : Option (List ℕ)) (seen : List ℕ) (headers : List HeaderSpan) (ended : HeadRead) : Type 0 where
  -- what was read
  pub input : List ℕ
  pub took : Consumes left left' input
  pub few : length input ≤ head_room
  pub is : IsEnd left' input seen headers ended

-- how the reading of a body ended
abbrev pub IsBodyRead : Option (List ℕ) → List ℕ → List ℕ → ℕ → List ℕ → BodyRead → Type 0
IsBodyRead left seen seen' end taken filled.Whole = (seen' ≡ seen ++ taken) × (end ≤ length seen')
IsBodyRead left seen seen' end taken filled.BrokenOff = (seen' ≡ seen ++ taken) × (length seen' < end) × IsAtEnd left
IsBodyRead left seen seen' end taken filled.NoMemory = ⊤

pub record Fills (left left' : Option (List ℕ)) (seen seen' : List ℕ) (end : ℕ) (filled : BodyRead) : Type 0 where
  -- what was read: nothing, or no more than up to the end
  pub taken : List ℕ
  pub took : Consumes left left' taken
  pub few : (length taken ≡ 0) ⊎ (length seen + length taken ≤ end)
  pub is : IsBodyRead left' seen seen' end taken filled
