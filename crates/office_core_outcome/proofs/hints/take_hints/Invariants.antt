use Rattle.std.proofs.Common.{◌≡◌, ◌++◌, drop}
use Rattle.office_core_outcome.specs.Hints.{first_refused, hint_letters}
use Rattle.office_core_outcome.proofs.hints.take_hints.Given as goal

-- the hints so far, and those that are left
abbrev pub invariant-hints : goal.invariant-hints
invariant-hints l = record {
  place : l.place ≡ l.hint-index;
  refused : first_refused l.setup l.last l.place (drop l.hint-index l.hints) ≡ first_refused l.setup l.number 0 l.hints;
  letters : l.letters.items ++ hint_letters l.setup l.last (drop l.hint-index l.hints) ≡ l.fn.letters.items ++ hint_letters l.setup l.number l.hints;
}
