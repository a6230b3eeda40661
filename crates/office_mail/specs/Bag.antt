-- Bags: messages one after another, each after a line with its length.
use Rattle.std.specs.Prelude.{◌≡◌, ◌≢◌, ℕ, ◌<◌, ◌≤◌, ◌⊎◌, Option, List, [], ◌∷◌, ◌++◌, length, take, flat_map, codes, decimal, Some, None}
use Rattle.std.specs.List.{AllByRecursion}
use Rattle.office_mail.specs.declared.bag.BagFault.{BagFault}
use Rattle.office_mail.specs.declared.bag.BagFault.TheVariants.{BadHeader, Truncated, ReadFault, NoMemory}

-- one list is the beginning of another
abbrev pub IsPrefixOf : List ℕ → List ℕ → Type 0
IsPrefixOf xs ys = (rest : List ℕ) × (xs ++ rest ≡ ys)

-- the line before a message of n bytes
abbrev pub header : ℕ → List ℕ
header n = codes "mail " ++ decimal n ++ codes "\n"

-- a message with its line
abbrev pub framed : List ℕ → List ℕ
framed message = header (length message) ++ message

-- a message announced by some header line
abbrev pub HasHeader : List ℕ → Type 0
HasHeader message = length message ≤ 999_999_999

-- these bytes begin some header line
abbrev pub BeginsHeader : List ℕ → Type 0
BeginsHeader bytes = (n : ℕ) × (n ≤ 999_999_999) × IsPrefixOf bytes (header n)

-- these bytes are an incomplete header line
pub record IsCutHeader (bytes : List ℕ) : Type 0 where
  pub number : ℕ
  pub more : List ℕ
  pub small : number ≤ 999_999_999
  pub some : 0 < length more
  pub whole : bytes ++ more ≡ header number

-- a byte within a header line doesn't continue it
abbrev pub IsBadHeader : List ℕ → Type 0
IsBadHeader bytes =
    (begun : List ℕ) × (byte : ℕ) × (more : List ℕ) × (bytes ≡ begun ++ byte ∷ more)
    × IsCutHeader begun × (BeginsHeader (begun ++ byte ∷ []) → ⊥)

-- the bytes end within a header line or within a message
abbrev pub IsTruncated : List ℕ → Type 0
IsTruncated bytes =
    (0 < length bytes) × (message : List ℕ) × (more : List ℕ) × HasHeader message
    × (0 < length more) × (bytes ++ more ≡ framed message)

-- the part of a message that is returned: at most 65,537 bytes, one more than any message may have
unfoldable pub handed : List ℕ → List ℕ
handed message = take 65_537 message

-- the bytes after the last message at the end of a bag: `None` is the plain end. After a failed read they contain no
-- complete message; running out of memory may end a bag anywhere
abbrev pub EndsSo : Option BagFault → List ℕ → Type 0
EndsSo None rest = rest ≡ []
EndsSo (Some BadHeader) rest = IsBadHeader rest
EndsSo (Some Truncated) rest = IsTruncated rest
EndsSo (Some ReadFault) rest = (rest ≡ []) ⊎ IsTruncated rest
EndsSo (Some NoMemory) rest = Unit {0}

-- the bytes are these messages, and then this end
pub record IsBag (came : List ℕ) (messages : List (List ℕ)) (end : Option BagFault) : Type 0 where
  pub rest : List ℕ
  pub whole : came ≡ flat_map framed messages ++ rest
  pub each : AllByRecursion HasHeader messages
  pub ends : EndsSo end rest

-- two readings of the same bytes find the same messages, unless memory ran out in one
abbrev pub ReadsOneWay : Type 0
ReadsOneWay =
    (came : List ℕ) (messages others : List (List ℕ)) (end other : Option BagFault) → end ≢ Some NoMemory → other ≢ Some NoMemory
    → IsBag came messages end → IsBag came others other → messages ≡ others
