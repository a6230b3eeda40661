-- Steps beside `specs/Words.antt`.
use Rattle.std.specs.Prelude.{if◌then◌else◌, Option, Some, None}
use Rattle.std.specs.declared.cmp.Ordering.{Ordering}
use Rattle.std.specs.Ordering.{is_lt}

-- the earlier of the first element so far and one more; the old one in a tie
abbrev pub first_of_two : {A : Type 0} → (A → A → Ordering) → Option A → A → A
first_of_two cmp None y = y
first_of_two cmp (Some x) y = if is_lt (cmp y x) then y else x
