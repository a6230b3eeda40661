-- A part of the bag of all kept mail: some of a sender's messages. This office decides how large a part is.
use Rattle.std.specs.Prelude.{ℕ, ◌+◌, ◌==◌, ◌||◌, nat_le, if◌then◌else◌, List, [], ◌∷◌, length, map, flat_map}
use Rattle.office_mail.specs.Bag.{framed}
use Rattle.office_mail.specs.Kept.{Kept}
use Rattle.office_store_keeper.specs.declared.values.Letter.{Letter}
use Rattle.office_store_keeper.specs.Content.{letters_within}

-- the kept mail of a sender from a number on, by number: a message has a number up to 999,999,999
abbrev pub letters_from : Kept → ℕ → ℕ → List Letter
letters_from kept sender from = letters_within kept sender from 999_999_999

-- the letters that fit into a part after that many bytes: the first in any case, then as many as fit into 65,536 bytes
abbrev pub fitting : ℕ → List Letter → List Letter
fitting bytes [] = []
fitting bytes (l ∷ ls) =
    let more : ℕ = bytes + length (framed l.text) in
    if (bytes == 0) || nat_le more 65_536 then l ∷ fitting more ls else []

-- the part that begins with a sender's number, or after it
abbrev pub letters_of_part : Kept → ℕ → ℕ → List Letter
letters_of_part kept sender from = fitting 0 (letters_from kept sender from)

unfoldable pub bag_part : Kept → ℕ → ℕ → List ℕ
bag_part kept sender from = flat_map framed (map (λ (l : Letter). l.text) (letters_of_part kept sender from))
