use Rattle.std.proofs.Common.{◌≡◌, ℕ, List, [], Ok, sym, ap, ◌∙◌, eqb-true}
use Rattle.std.proofs.lemmas.List.{nil_from_length}
use Rattle.deb_control.specs.Relations.{provisions_in}
use Rattle.deb_control.specs.Binary.{of_field}
use Rattle.deb_control.specs.declared.fault.BinaryField.TheVariants.{Provides}
use Rattle.deb_control.proofs.Alike.{no_provisions}
use Rattle.deb_control.proofs.binary.read_provisions.Goals as goal

pub returns-then-is_empty : goal.returns-then-is_empty
returns-then-is_empty c =
    let nothing : c.optional-text.result.now ≡ [] = nil_from_length _ (eqb-true _ _ (sym c.is_empty.ensures ∙ c.if-is_empty.true)) in
    ap (λ (text : List ℕ). of_field Provides (provisions_in text)) (sym c.optional-text.ensures ∙ nothing) ∙ ap (of_field Provides) no_provisions ∙ ap Ok (sym (c.new.ensures ∙ c.new-none.ensures.items))
