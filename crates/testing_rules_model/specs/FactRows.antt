-- The rows of facts: for each fact, the message that gives it. This office decides to keep facts as rows.
use Rattle.std.specs.Prelude.{◌≡◌, ◌⊎◌, ℕ, ◌==◌, ◌&&◌, Bool, List, [], ◌∷◌, ◌++◌, map, find, Option, option_to_list}
use Rattle.std.specs.List.{count_by}
use Rattle.std.specs.declared.cmp.Ordering.{Ordering}
use Rattle.std.specs.Ordering.{nat_cmp, then_cmp, on}
use Rattle.testing_rules_model.specs.FactLists.{FactLists}
use Rattle.testing_rules_model.specs.declared.facts.UploadIn.{UploadIn}
use Rattle.testing_rules_model.specs.declared.fact_row.FactKind.{FactKind}
use Rattle.testing_rules_model.specs.declared.fact_row.FactKind.TheVariants.{Source, Upload, Build, Drop, Bug, Hint, Unhint, Delays}
use Rattle.testing_rules_model.specs.declared.fact_row.FactRow.{FactRow}

-- the number of a kind in tables, by which rows are ordered
abbrev pub number_of : FactKind → ℕ
number_of Source = 1
number_of Upload = 2
number_of Build = 3
number_of Drop = 4
number_of Bug = 5
number_of Hint = 6
number_of Unhint = 7
number_of Delays = 8

-- the kind with a number, if there is one
abbrev pub kind_of : ℕ → Option FactKind
kind_of n = find (λ k. n == number_of k) (Source ∷ Upload ∷ Build ∷ Drop ∷ Bug ∷ Hint ∷ Unhint ∷ Delays ∷ [])

-- whether two kinds are the same
abbrev pub is_kind : FactKind → FactKind → Bool
is_kind k l = number_of k == number_of l

-- the row of an upload above testing's version
abbrev pub upload_row : UploadIn → FactRow
upload_row u = record { kind = Upload; sender = u.sender; number = u.number; place = 0 }

-- the rows of all facts; that of an unstable row has the place of its paragraph
abbrev pub rows_of : FactLists → List FactRow
rows_of f =
    let last = option_to_list f.delays in
    map (λ u. record { kind = Source; sender = u.sender; number = u.number; place = 0 }) f.sources
    ++ (map upload_row f.uploads
    ++ (map (λ b. record { kind = Build; sender = b.sender; number = b.number; place = b.place }) f.rows
    ++ (map (λ d. record { kind = Drop; sender = d.sender; number = d.number; place = 0 }) f.drops
    ++ (map (λ b. record { kind = Bug; sender = b.sender; number = b.number; place = 0 }) f.bugs
    ++ (map (λ h. record { kind = Hint; sender = h.sender; number = h.number; place = 0 }) f.hints
    ++ (map (λ c. record { kind = Unhint; sender = c.sender; number = c.number; place = 0 }) f.unhints
    ++ map (λ d. record { kind = Delays; sender = d.sender; number = d.number; place = 0 }) last))))))

-- a possible row of facts: only the row of a paragraph has a place
pub record IsFactRow (r : FactRow) : Type 0 where
  pub place : (r.kind ≡ Build) ⊎ (r.place ≡ 0)

-- whether a row is this one
abbrev pub is_row : FactRow → FactRow → Bool
is_row r x = is_kind x.kind r.kind && ((x.sender == r.sender) && ((x.number == r.number) && (x.place == r.place)))

-- how often a row occurs in a list
abbrev pub times : FactRow → List FactRow → ℕ
times r rows = count_by (is_row r) rows

-- rows by kind, sender, number and place
abbrev pub row_order : FactRow → FactRow → Ordering
row_order = then_cmp (on (λ r. number_of r.kind) nat_cmp) (then_cmp (on (λ r. r.sender) nat_cmp) (then_cmp (on (λ r. r.number) nat_cmp) (on (λ r. r.place) nat_cmp)))
