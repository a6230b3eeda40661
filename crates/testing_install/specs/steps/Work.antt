-- The state of a search for the greatest closed set.
use Rattle.std.specs.Prelude.{◌≡◌, ℕ, ◌+◌, Bool, List, [], ◌∷◌, ◌++◌, slice_set, slice_index_or}

-- The rows still marked; for each row the claims that rest on it; the rows that lost their mark and wait for their
-- turn; the turns and looks so far.
pub record Work : Type 0 where
  pub marks : List Bool
  pub resting : List (List ℕ)
  pub waiting : List ℕ
  pub turns : ℕ
  pub looks : ℕ

-- the row at the place has had its turn
abbrev pub after_turn : Work → List ℕ → ℕ → Work
after_turn w front place = record w { waiting = front; resting = slice_set w.resting place []; turns = w.turns + 1 }

-- the last of the waiting rows has had its turn, and these are the claims that rested on it
pub record Turn (old new : Work) (claims : List ℕ) : Type 0 where
  pub front : List ℕ
  pub place : ℕ
  pub last : old.waiting ≡ front ++ place ∷ []
  pub taken : claims ≡ slice_index_or old.resting place []
  pub left : new ≡ after_turn old front place
