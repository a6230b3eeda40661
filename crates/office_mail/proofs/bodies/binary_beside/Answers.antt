use Rattle.std.proofs.Common.{Ok, sym, ap, ◌∙◌, arith}
use Rattle.deb_control.specs.Binary.{binary_of}
use Rattle.office_mail.proofs.bodies.binary_beside.Goals as goal

pub binary_like-requires : goal.binary_like-requires
binary_like-requires c =
    ap binary_of c.index-paragraphs-place.is
    ∙ c.requires.says c.in-Some.place c.index-paragraphs-place.result c.index-binaries-place.result (omega arith)
    ∙ ap Ok (sym c.index-binaries-place.is)
