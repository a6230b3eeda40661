-- Boxed elements.
use Rattle.std.specs.Prelude.{List, Box, map}
use Rattle.std.specs.declared.alloc.Global.{Global}

-- the content of the boxes
abbrev pub unboxed : {A : Type 0} → List (Box A Global) → List A
unboxed {A} boxes = map (λ (b : Box A Global). b.value) boxes
