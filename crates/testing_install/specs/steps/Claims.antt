-- Steps beside `specs/Claims.antt`.
use Rattle.std.specs.Prelude.{ℕ, ◌+◌, List, [], ◌∷◌, ◌++◌, map}
use Rattle.deb_control.specs.declared.binary.Binary.{Binary}
use Rattle.deb_control.specs.declared.relation.Clause.{Clause}

-- the clauses of the row at place n, each with that place
abbrev pub tagged : ℕ → List Clause → List (ℕ × Clause)
tagged n clauses = map (λ clause. (n, clause)) clauses

-- each clause with the place of its row; the first row is at place n
abbrev pub claims_from : ℕ → List Binary → List (ℕ × Clause)
claims_from n [] = []
claims_from n (row ∷ rows) = tagged n row.clauses ++ claims_from (n + 1) rows
