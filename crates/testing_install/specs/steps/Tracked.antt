-- Steps beside `specs/Tracked.antt`.
use Rattle.std.specs.Prelude.{◌≡◌, ℕ, ◌<◌, ◌-◌, Bool, ◌⊎◌, false, List, ◌++◌, length, replicate, Contains, slice_index_or}
use Rattle.testing_install.specs.Tracked.{Tracked}

-- the set as it was when last kept
abbrev pub undone : Tracked → Tracked
undone t = record { current = t.kept; kept = t.kept }

-- the set as it is, kept to come back to
abbrev pub confirmed : Tracked → Tracked
confirmed t = record { current = t.current; kept = t.current }

-- the set among this many rows, with none of the added rows in it
abbrev pub longer : ℕ → Tracked → Tracked
longer rows t = record { current = t.current ++ replicate (rows - length t.current) false; kept = t.kept ++ replicate (rows - length t.kept) false }

-- the two lists differ only at the touched places, which are places of both
pub record IsTracked (current kept : List Bool) (touched : List ℕ) : Type 0 where
  pub long : length current ≡ length kept
  pub touched_in : (k : ℕ) → Contains touched k → k < length current
  pub same : (k : ℕ) → (slice_index_or current k false ≡ slice_index_or kept k false) ⊎ Contains touched k
