-- What a reader of paragraphs has yet to read, and its refusals.
use Rattle.std.specs.Prelude.{ℕ, ◌≡◌, List, Option, ◌⊎◌}
use Rattle.std.specs.Option.{option_map_or}
use Rattle.std.specs.Borrow.{Bor}
use Rattle.deb_control.specs.Paragraphs.{Reading, reading_of_text, refusing}
use Rattle.deb_control.specs.declared.fault.ParagraphFault.{ParagraphFault}
use Rattle.deb_control.specs.declared.fault.ParagraphFault.TheVariants.{NotUtf8, NoMemory}

-- the rest for a reader at this text, or at bytes that it has yet to refuse because they aren't UTF-8
abbrev pub left_in : Option (Bor (List ℕ)) → Reading
left_in text = option_map_or (λ t. reading_of_text t.now) text (refusing NotUtf8)

-- Unless memory ran out, the fault is the next thing to read.
abbrev pub RefusedBy : ParagraphFault → Reading → Type 0
RefusedBy e r = (e ≡ NoMemory) ⊎ (r ≡ refusing e)
