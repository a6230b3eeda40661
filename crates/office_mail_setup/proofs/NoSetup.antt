-- A text without paragraphs is no setup.
use Rattle.std.proofs.Common.{◌≡◌, ℕ, List, [], length, Ok, Err, ap, ◌∙◌, refl}
use Rattle.deb_control.specs.Relations.{◌>>=◌}
use Rattle.deb_control.specs.Paragraphs.{reading, value_of}
use Rattle.office_mail_setup.specs.declared.setup.SetupFault.TheVariants as setup_fault
use Rattle.office_mail_setup.specs.declared.setup.SetupField.TheVariants as setup_field
use Rattle.office_mail_setup.specs.Setup.{setup_in, setup_of, stated}
use Rattle.office_mail_setup.specs.WholeText.{Paragraph, whole}

none_set_up : (size : ℕ) → setup_of size [] ≡ Err (setup_fault.MissingField setup_field.Architectures)
unfolding setup_of stated value_of
none_set_up size = refl

pub setup_none : (text : List ℕ) (ps : List Paragraph) → whole (reading text) setup_fault.BadParagraph ≡ Ok ps → ps ≡ [] → setup_in text ≡ Err (setup_fault.MissingField setup_field.Architectures)
unfolding setup_in
setup_none text ps w e =
    ap (λ r. r >>= λ ps. setup_of (length text) ps) w ∙ ap (setup_of (length text)) e ∙ none_set_up (length text)
