use Rattle.std.proofs.Common.{◌≡◌, ◌++◌, map}
use Rattle.std.specs.BTreeMap.Range.{entries_between}
use Rattle.std.specs.declared.ops.Bound.TheVariants.{Included}
use Rattle.office_mail.specs.Kept.{place_cmp}
use Rattle.office_store_keeper.specs.steps.MemoryState.{letter_of}
use Rattle.office_store_keeper.proofs.memory.letters_between.Given as goal

-- those so far, and those that are left, are all
abbrev pub invariant-places : goal.invariant-places
invariant-places l = l.letters.items ++ map letter_of l.place-iterator ≡ map letter_of (entries_between place_cmp (Included (l.sender, l.from)) (Included (l.sender, l.to)) l.mail.entries)
