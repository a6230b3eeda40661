use Rattle.std.proofs.Common.{◌≡◌, Some, None, sym, ap, ◌∙◌}
use Rattle.std.specs.FinMap.{get, insert}
use Rattle.office_mail.specs.Kept.{place_of}
use Rattle.office_mail.proofs.KeptFacts.{kept_from-free}
use Rattle.office_store_keeper.specs.Content.{Content, with_text}
use Rattle.office_core.proofs.OfficeFacts.{on_ok, kept_from-stored, IsOffice-kept, Within-put}
use Rattle.office_core.proofs.delivery.keep_or_compare.Goals as goal

pub returns-in-Some-clause-kept : goal.returns-in-Some-clause-kept
returns-in-Some-clause-kept g c = λ trusted.
    let setup = c.args.setup.now in
    let text = c.args.text.now in
    let message = c.args.message.now in
    let old : Content = g.K.Keeper.content c.args.keeper.now in
    let found = c.in_ok-kept.ensures in
    let taken : get old.kept (place_of message) ≡ Some c.in-Some.kept = sym (found.found trusted) ∙ c.in-Some.is in
    on_ok c.compare.result (ap (λ (m : Content). m.kept) (found.looks.same trusted) ∙ kept_from-stored setup old.kept text c.in-Some.kept message c.requires.read taken)

pub returns-in_ok-keep-in-None-clause-kept : goal.returns-in_ok-keep-in-None-clause-kept
returns-in_ok-keep-in-None-clause-kept g c = λ trusted.
    let setup = c.args.setup.now in
    let text = c.args.text.now in
    let message = c.args.message.now in
    let old : Content = g.K.Keeper.content c.args.keeper.now in
    let put = c.in_ok-keep-in-None.ensures in
    let found = c.in_ok-kept.ensures in
    let earlier = put.before trusted in
    let free : get old.kept (place_of message) ≡ None = sym (found.found earlier) ∙ c.in-None.is in
    put.mail trusted ∙ ap (λ (m : Content). insert m.kept (place_of message) text) (found.looks.same earlier) ∙ sym (kept_from-free setup old.kept text message c.requires.read free)

pub returns-in_ok-keep-in-None-clause-within : goal.returns-in_ok-keep-in-None-clause-within
returns-in_ok-keep-in-None-clause-within g c = λ trusted.
    let setup = c.args.setup.now in
    let text = c.args.text.now in
    let message = c.args.message.now in
    let old : Content = g.K.Keeper.content c.args.keeper.now in
    let new : Content = g.K.Keeper.content c.keep.new.keeper in
    let put = c.in_ok-keep-in-None.ensures in
    let found = c.in_ok-kept.ensures in
    let earlier = put.before trusted in
    let free : get old.kept (place_of message) ≡ None = sym (found.found earlier) ∙ c.in-None.is in
    Within-put setup old.kept new.kept text message c.requires.read free (put.mail trusted ∙ ap (λ (m : Content). insert m.kept (place_of message) text) (found.looks.same earlier))

pub returns-in_ok-keep-in-None-clause-office : goal.returns-in_ok-keep-in-None-clause-office
returns-in_ok-keep-in-None-clause-office g c = λ trusted legible office.
    let setup = c.args.setup.now in
    let text = c.args.text.now in
    let message = c.args.message.now in
    let old : Content = g.K.Keeper.content c.args.keeper.now in
    let new : Content = g.K.Keeper.content c.keep.new.keeper in
    let put = c.in_ok-keep-in-None.ensures in
    let found = c.in_ok-kept.ensures in
    let earlier = put.before trusted in
    let free : get old.kept (place_of message) ≡ None = sym (found.found earlier) ∙ c.in-None.is in
    let is : new ≡ with_text old message.sender message.number text = put.kept trusted (found.looks.legible earlier legible) ∙ ap (λ (m : Content). with_text m message.sender message.number text) (found.looks.same earlier) in
    IsOffice-kept setup old new text message office c.requires.read free c.requires.place is
