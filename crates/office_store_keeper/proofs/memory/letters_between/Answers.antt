use Rattle.std.proofs.Common.{rules, ◌++◌, ap, ◌∙◌, map}
use Rattle.std.specs.BTreeMap.Range.{entries_between}
use Rattle.std.specs.Range.{range_inclusive_end}
use Rattle.std.specs.declared.ops.Bound.TheVariants.{Included}
use Rattle.office_mail.specs.Kept.{Place, place_cmp}
use Rattle.office_store_keeper.specs.steps.MemoryState.{letter_of}
use Rattle.office_store_keeper.proofs.PartFacts.{letter_comes, letters_are_all}
use Rattle.office_store_keeper.proofs.memory.letters_between.Goals as goal

pub places-init : goal.places-init
places-init c =
    ap (λ ls. ls ++ map letter_of c.into_iter-place-iterator.result) c.in_ok-letters.ensures.items
    ∙ ap (map letter_of) (c.into_iter-place-iterator.ensures.into_iter_gives ∙ c.range-entries.ensures.between (search rules)
    ∙ ap (λ (p : Place). entries_between place_cmp (Included p) (Included (range_inclusive_end c.new.result)) c.args.mail.now.entries) c.new.ensures.start
    ∙ ap (λ (p : Place). entries_between place_cmp (Included (c.args.sender, c.args.from)) (Included p) c.args.mail.now.entries) c.new.ensures.end)

pub places-preserved : goal.places-preserved
places-preserved c =
    letter_comes c.places.letters.items c.push.new.self.items (c.in-Some.place.now, c.in-Some.text.now) c.in_ok-share.field-0 c.places.place-iterator c.next.new.self
    c.in_ok-share.ensures c.in_ok-push.ensures.items c.in-Some.ensures.steps
    ∙ c.places.invariant

pub returns-clause-loaded : goal.returns-clause-loaded
returns-clause-loaded c = letters_are_all c.places.letters.items c.places.place-iterator c.in-None.ensures.steps.0 ∙ c.places.invariant
