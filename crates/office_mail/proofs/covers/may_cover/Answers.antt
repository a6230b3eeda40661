use Rattle.std.proofs.Common.{ap, ◌∙◌, rules, of_calls}
use Rattle.std.specs.List.{list_any}
use Rattle.std.proofs.lemmas.Iterator.{YieldsList-from_slice}
use Rattle.std.proofs.lemmas.Iterator.Search.{any_from_yields_List}
use Rattle.office_mail.specs.Covers.{is_named}
use Rattle.office_mail.proofs.covers.may_cover.Goals as goal

pub returns : goal.returns
returns c =
    any_from_yields_List (is_named c.args.name.now) _ _ _ c.any.ensures.ran (YieldsList-from_slice c.senders.result.now cc) (λ x b q r. search (rules, of_calls))
    ∙ ap (list_any (is_named c.args.name.now)) c.senders.ensures.same
