use Rattle.std.proofs.Common.{take}
use Rattle.office_core_facts.specs.steps.Chosen.{TookLetters}
use Rattle.office_core_facts.proofs.walk.take_letters.Given as goal

-- the letters so far are taken
abbrev pub invariant-letters : goal.invariant-letters
invariant-letters l = TookLetters l.choice l.setup l.sender (take l.letter-index l.letters) l.fn.facts l.facts
