use Rattle.std.proofs.Common.{◌∙◌, sym, ap}
use Rattle.office_store_tables.specs.SetupText.{setup_text}
use Rattle.office_store_tables.proofs.SetupRoundTrip.{same_by_text}
use Rattle.office_store_tables.proofs.setup_text.same_setup.Goals as goal

pub returns : goal.returns
returns c =
    let ours = c.as_str.ensures.value ∙ c.in_ok-ours.ensures.text in
    let theirs = c.as_str-2.ensures.value ∙ c.in_ok-theirs.ensures.text in (
      λ same. same_by_text c.args.first.now c.args.second.now c.setup_text.ensures.valid c.setup_text-2.ensures.valid (sym ours ∙ c.same_text.ensures.0 same ∙ theirs),
      λ same. c.same_text.ensures.1 (ours ∙ ap setup_text same ∙ sym theirs),
    )
