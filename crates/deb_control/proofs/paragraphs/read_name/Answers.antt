use Rattle.std.proofs.Common.{◌≡◌, ℕ, List, true, take, sym, subst, ◌∙◌}
use Rattle.deb_control.specs.Paragraphs.{is_field_name}
use Rattle.deb_control.specs.steps.ReaderSteps.{IsColonAt}
use Rattle.deb_control.proofs.Names.{good_name}
use Rattle.deb_control.proofs.paragraphs.read_name.Goals as goal

pub returns : goal.returns
returns c =
    let len = c.name_len-len.result in
    subst (λ (text : List ℕ). IsColonAt text len × (is_field_name (take len text) ≡ true)) c.as_bytes-bytes.ensures.value
    (good_name c.as_bytes-bytes.result.now len c.name_len-len.ensures (sym c.is_named.ensures ∙ c.if-not-is_named.false))
