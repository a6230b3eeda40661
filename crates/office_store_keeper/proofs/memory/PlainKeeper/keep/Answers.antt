use Rattle.std.proofs.Common.{ap, ◌∙◌}
use Rattle.std.specs.FinMap.{insert}
use Rattle.office_mail.specs.Kept.{Kept, Place}
use Rattle.office_store_keeper.specs.Content.{with_text}
use Rattle.office_store_keeper.specs.FactSet.{set_of_rows}
use Rattle.office_store_keeper.specs.MemoryState.{MemoryState, content_of, kept_in}
use Rattle.office_store_keeper.proofs.MemoryFacts.{kept_in-insert, with_kept}
use Rattle.office_store_keeper.proofs.memory.PlainKeeper.keep.Goals as goal

pub returns-clause-kept : goal.returns-clause-kept
returns-clause-kept c trusted legible =
    let place : Place = (c.args.sender, c.args.number) in
    let mail = c.self.inside.mail.entries in
    let kept = kept_in-insert mail _ place c.in_ok-text.text c.in_ok-insert.ensures.updates.0 ∙ ap (insert (kept_in mail) place) c.in_ok-text.ensures in
    ap (λ (k : Kept). with_kept k c.self.inside.runs.items c.self.inside.testing (set_of_rows c.self.inside.facts.items)) kept ∙ ap (λ (s : MemoryState). with_text (content_of s) c.args.sender c.args.number c.args.text.now) c.self.view_is

pub returns-clause-mail : goal.returns-clause-mail
returns-clause-mail c trusted =
    let place : Place = (c.args.sender, c.args.number) in
    let mail = c.self.inside.mail.entries in
    kept_in-insert mail _ place c.in_ok-text.text c.in_ok-insert.ensures.updates.0 ∙ ap (insert (kept_in mail) place) c.in_ok-text.ensures
    ∙ ap (λ (s : MemoryState). insert (kept_in s.mail) place c.args.text.now) c.self.view_is
