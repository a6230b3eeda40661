use Rattle.std.proofs.Common.{arith}
use Rattle.std.specs.HashMap.Entry.{map_with_value}
use Rattle.testing_install.proofs.Indexing.{pushed_under}
use Rattle.testing_install.proofs.index.note_under.Goals as goal

pub returns : goal.returns
returns c = λ q.
    let new = map_with_value c.in_ok-map.field-0 c.note_place.new.places in
    let told = pushed_under c.args.map.now new c.args.hash c.args.place q c.new.result c.or_insert.result.now c.note_place.new.places _ ((c.in_ok-map.ensures.update.0 c.note_place.new.places).0 q) c.in_ok-map.ensures.value c.or_insert.ensures.value c.new.ensures.items c.in_ok-note_place.ensures in
    grind (arith, told)
