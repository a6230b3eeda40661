use Rattle.std.proofs.Common.{None, length, sym, subst}
use Rattle.office_mail.specs.Kept.{Kept}
use Rattle.office_mail.specs.Lists.{Lists}
use Rattle.office_store_keeper.specs.MemoryState.{content_of}
use Rattle.office_core_check.specs.steps.Comparing.{IsAllTaken, IsMade}
use Rattle.office_core_check.specs.steps.Reading.{IsFront}
use Rattle.office_core_check.proofs.FoundFacts.{is_none, made_by}
use Rattle.office_core_check.proofs.rebuilt.make_anew.Goals as goal

pub returns-clause-made : goal.returns-clause-made
returns-clause-made g c = λ trusted office start.
    let kept = (g.K.Keeper.content c.args.keeper.now).kept in
    let runs = c.args.runs in
    let s0 = c.args.office.now.plain.setup in
    let s1 = c.take_mail.new.office.plain.setup in
    let s2 = c.settle_to.new.office.plain.setup in
    let front : Kept = (content_of c.take_mail.new.office.plain).kept in
    let anew = c.in_ok-difference.ensures.anew office in
    let taken : IsAllTaken s0 kept front None =
    subst (IsAllTaken s0 kept front) (is_none c.in_ok-difference.difference c.is_some.result c.is_some.ensures c.if-is_some.false) (c.in_ok-difference.ensures.taken trusted office start) in
    let all : IsFront kept (length s1.senders) 0 front = subst (λ (s : Lists). IsFront kept (length s.senders) 0 front) (sym c.in_ok-difference.ensures.setup) taken in
    let made : IsMade s1 kept runs front c.settle_to.result = made_by s1 kept front runs c.settle_to.result all (c.settle_to.ensures.short anew) in
    subst (λ (f : Kept). IsMade s2 kept runs f c.settle_to.result) (sym (c.settle_to.ensures.kept anew))
    (subst (λ (s : Lists). IsMade s kept runs front c.settle_to.result) (sym c.settle_to.ensures.setup) made)
