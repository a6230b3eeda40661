use Rattle.std.proofs.Common.{◌≡◌, ◌++◌, length}
use denote.Text.{Utf8}
use denote.Shadow.{shadow}
use Rattle.archive_lists.specs.List.{listed}
use Rattle.archive_lists.proofs.list.items_of.Given as goal

-- the lines so far, and what is left of the text
abbrev pub invariant-lines : goal.invariant-lines
invariant-lines l = shadow (Utf8 l.rest) × (listed l.items.items ++ l.rest ≡ l.fn.text)

abbrev pub decreases-lines : goal.decreases-lines
decreases-lines l = length l.rest
