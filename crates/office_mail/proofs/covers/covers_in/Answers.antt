use Rattle.std.proofs.Common.{◌≡◌, Ok, sym, ap, ◌∙◌}
use Rattle.deb_control.specs.Relations.{◌>>=◌, items}
use Rattle.office_mail.specs.Covers.{BadCovers, cover_in, numbers_by_sender}
use Rattle.testing_rules_items.specs.Distinct.{is_distinct}
use Rattle.office_mail_setup.specs.WholeText.{needs, each_of}
use Rattle.office_mail_setup.proofs.Each.{texts}
use Rattle.office_mail.proofs.Views.{stated_covers}
use Rattle.office_mail.proofs.CoverFacts.{names, covers_are}
use Rattle.office_mail.proofs.covers.covers_in.Goals as goal

pub returns-then-not-are_distinct : goal.returns-then-not-are_distinct
returns-then-not-are_distinct c =
    let done = stated_covers c.in_ok-covers.covers.items in
    let read : each_of (cover_in c.args.setup.now) (items c.args.text.now) ≡ Ok done = ap (each_of (cover_in c.args.setup.now)) (sym (ap texts c.deref.ensures.value ∙ c.in_ok-items.ensures)) ∙ c.in_ok-covers.ensures in
    let once : c.are_distinct.result ≡ is_distinct (names done) = c.are_distinct.ensures ∙ ap is_distinct (ap texts c.deref-3.ensures.value ∙ c.in_ok-names.ensures ∙ ap (λ xs. names (stated_covers xs)) c.deref-2.ensures.value) in
    covers_are c.args.setup.now c.args.text.now done c.are_distinct.result read once
    ∙ ap (λ b. needs b BadCovers >>= λ each. Ok (numbers_by_sender c.args.setup.now done)) c.if-not-are_distinct.true

pub returns : goal.returns
returns c =
    let done = stated_covers c.in_ok-covers.covers.items in
    let read : each_of (cover_in c.args.setup.now) (items c.args.text.now) ≡ Ok done = ap (each_of (cover_in c.args.setup.now)) (sym (ap texts c.deref.ensures.value ∙ c.in_ok-items.ensures)) ∙ c.in_ok-covers.ensures in
    let once : c.are_distinct.result ≡ is_distinct (names done) = c.are_distinct.ensures ∙ ap is_distinct (ap texts c.deref-3.ensures.value ∙ c.in_ok-names.ensures ∙ ap (λ xs. names (stated_covers xs)) c.deref-2.ensures.value) in
    covers_are c.args.setup.now c.args.text.now done c.are_distinct.result read once
    ∙ ap (λ b. needs b BadCovers >>= λ each. Ok (numbers_by_sender c.args.setup.now done)) c.if-not-are_distinct.false
    ∙ ap Ok (sym (c.of.ensures ∙ c.in_ok-numbers.ensures ∙ ap (λ xs. numbers_by_sender c.args.setup.now (stated_covers xs)) c.deref-4.ensures.value))
