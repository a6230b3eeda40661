-- The binaries of a build read so far.
use Rattle.std.specs.Prelude.{◌≡◌, ℕ, ◌<◌, ◌≤◌, List, length, slice_index_or, Ok}
use Rattle.deb_control.specs.Binary.{binary_of}
use Rattle.deb_control.specs.declared.binary.Binary.{Binary}
use Rattle.office_mail_setup.specs.WholeText.{Paragraph}

-- each of these binaries is the one in the paragraph at its place
pub record AreRead (paragraphs : List Paragraph) (binaries : List Binary) : Type 0 where
  pub within : length binaries ≤ length paragraphs
  pub says : (place : ℕ) (p : Paragraph) (b : Binary) → place < length binaries → binary_of (slice_index_or paragraphs place p) ≡ Ok (slice_index_or binaries place b)
