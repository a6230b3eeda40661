use Rattle.std.proofs.Common.{◌≡◌, ap, ◌∙◌}
use Rattle.office_store_keeper.specs.Content.{Content}
use Rattle.office_store_keeper.specs.NewMail.{with_letters, with_mail}
use Rattle.office_core.proofs.GatherFacts.{Within-mail, IsOffice-mail}
use Rattle.office_core.proofs.batch.keep_texts.Goals as goal

pub returns-then-branch-clause-within : goal.returns-then-branch-clause-within
returns-then-branch-clause-within g c = λ trusted.
    let old : Content = g.K.Keeper.content c.args.keeper.now in
    let new : Content = g.K.Keeper.content c.keep_letters.new.keeper in
    let gathered = c.in_ok-gather_all.ensures in
    let kept = c.in_ok-keep_letters.ensures in
    let letters = c.gather_all.new.block.letters.items in
    let earlier = kept.changes.before trusted in
    let put : new.kept ≡ with_letters (g.K.Keeper.content c.gather_all.new.keeper).kept letters = rw (c.if-branch.true, c.deref.ensures.value) at (kept.mail trusted) in
    Within-mail old.kept new.kept letters (gathered.gathers earlier).free (put ∙ ap (λ (m : Content). with_letters m.kept letters) (gathered.looks.same earlier))

pub returns-then-branch-clause-office : goal.returns-then-branch-clause-office
returns-then-branch-clause-office g c = λ trusted legible office.
    let old : Content = g.K.Keeper.content c.args.keeper.now in
    let new : Content = g.K.Keeper.content c.keep_letters.new.keeper in
    let gathered = c.in_ok-gather_all.ensures in
    let kept = c.in_ok-keep_letters.ensures in
    let letters = c.gather_all.new.block.letters.items in
    let earlier = kept.changes.before trusted in
    let put : new ≡ with_mail (g.K.Keeper.content c.gather_all.new.keeper) letters = rw (c.if-branch.true, c.deref.ensures.value) at (kept.kept trusted (gathered.looks.legible earlier legible)) in
    IsOffice-mail c.args.setup.now old new letters c.gather_all.new.block.replies.items c.args.texts.now office (gathered.gathers earlier) gathered.placed
    (put ∙ ap (λ (m : Content). with_mail m letters) (gathered.looks.same earlier))
