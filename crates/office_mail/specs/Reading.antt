-- The progress of reading a bag.
use Rattle.std.specs.Prelude.{ℕ, Bool, Option, List}

pub record Reading : Type 0 where
  -- the bytes from here on, if known: those that arrived and wait, then those that the reader has yet to give
  pub left : Option (List ℕ)
  -- those of these bytes that the reader has yet to give
  pub unread : Option (List ℕ)
  -- how often the reader was called in all, how often it failed, and how often it was called for this bag
  pub calls : ℕ
  pub failures : ℕ
  pub reads : ℕ
  -- a read gave no byte: the end of the input was met
  pub met_end : Bool
  -- how many more bytes may arrive
  pub room : ℕ
  -- the end was met, and no more bytes will arrive
  pub ended : Bool
