-- The schema of the office, part by part.
use Rattle.std.proofs.Common.{◌≡◌, [], length, refl, sym, ap, subst, ◌∙◌, arith}
use Rattle.sqlite_tied.specs.Compute.{everything}
use Rattle.sqlite.specs.Schema.{Schema}
use Rattle.sqlite_schema.specs.Names.{same_name}
use Rattle.office_store_tables.specs.Layout.{no_schema, office_schema, schema_before, HasEach, HasEachBefore}
use Rattle.office_store_tables.specs.steps.LayoutSteps.{office_tables, tables_before, office_indexes, mail_index, testing_source_index, testing_row_index, fact_index}

tables_are : office_schema.tables ≡ office_tables
unfolding everything office_tables
tables_are = refl

indexes_are : office_schema.indexes ≡ office_indexes
unfolding everything office_indexes mail_index testing_source_index testing_row_index fact_index
indexes_are = refl

with_parts : (s : Schema) → s ≡ record { tables = s.tables; indexes = s.indexes; views = s.views }
with_parts s = refl

pub whole : (s : Schema) → s.tables ≡ office_tables → s.indexes ≡ office_indexes → s.views ≡ [] → s ≡ office_schema
whole s tables indexes views =
    let t : record { tables = s.tables; indexes = s.indexes; views = s.views } ≡ record { tables = office_schema.tables; indexes = s.indexes; views = s.views } =
    ap (λ t. record { tables = t; indexes = s.indexes; views = s.views }) (tables ∙ sym tables_are) in
    let i : record { tables = office_schema.tables; indexes = s.indexes; views = s.views } ≡ record { tables = office_schema.tables; indexes = office_schema.indexes; views = s.views } =
    ap (λ i. record { tables = office_schema.tables; indexes = i; views = s.views }) (indexes ∙ sym indexes_are) in
    with_parts s ∙ t ∙ i ∙ ap (λ v. record { tables = office_schema.tables; indexes = office_schema.indexes; views = v }) views

pub parts : (s : Schema) → s ≡ office_schema → (s.tables ≡ office_tables) × (s.indexes ≡ office_indexes) × (s.views ≡ [])
parts s is = (ap (λ (x : Schema). x.tables) is ∙ tables_are, ap (λ (x : Schema). x.indexes) is ∙ indexes_are, ap (λ (x : Schema). x.views) is)

each_there : HasEach office_schema
unfolding everything same_name
each_there = (refl, (refl, (refl, (refl, (refl, (refl, (refl, tt)))))))

pub each : (s : Schema) → s ≡ office_schema → HasEach s
each s is = subst HasEach (sym is) each_there

-- ---- schema 1

before_tables_are : schema_before.tables ≡ tables_before
unfolding everything tables_before
before_tables_are = refl

before_indexes_are : schema_before.indexes ≡ office_indexes
unfolding everything office_indexes mail_index testing_source_index testing_row_index fact_index
before_indexes_are = refl

pub whole_before : (s : Schema) → s.tables ≡ tables_before → s.indexes ≡ office_indexes → s.views ≡ [] → s ≡ schema_before
whole_before s tables indexes views =
    let t : record { tables = s.tables; indexes = s.indexes; views = s.views } ≡ record { tables = schema_before.tables; indexes = s.indexes; views = s.views } =
    ap (λ t. record { tables = t; indexes = s.indexes; views = s.views }) (tables ∙ sym before_tables_are) in
    let i : record { tables = schema_before.tables; indexes = s.indexes; views = s.views } ≡ record { tables = schema_before.tables; indexes = schema_before.indexes; views = s.views } =
    ap (λ i. record { tables = schema_before.tables; indexes = i; views = s.views }) (indexes ∙ sym before_indexes_are) in
    with_parts s ∙ t ∙ i ∙ ap (λ v. record { tables = schema_before.tables; indexes = schema_before.indexes; views = v }) views

pub parts_before : (s : Schema) → s ≡ schema_before → (s.tables ≡ tables_before) × (s.indexes ≡ office_indexes) × (s.views ≡ [])
parts_before s is = (ap (λ (x : Schema). x.tables) is ∙ before_tables_are, ap (λ (x : Schema). x.indexes) is ∙ before_indexes_are, ap (λ (x : Schema). x.views) is)

each_there_before : HasEachBefore schema_before
unfolding everything same_name
each_there_before = ((refl, (refl, (refl, (refl, (refl, (refl, tt)))))), refl)

pub each_before : (s : Schema) → s ≡ schema_before → HasEachBefore s
each_before s is = subst HasEachBefore (sym is) each_there_before

-- ---- three schemas

seven : length office_schema.tables ≡ 7
unfolding office_tables
seven = ap length tables_are

six : length schema_before.tables ≡ 6
unfolding tables_before
six = ap length before_tables_are

-- the office's schema isn't one without tables, nor schema 1
pub is_not_none : office_schema ≡ no_schema → ⊥
is_not_none is = let none : length office_schema.tables ≡ 0 = ap (λ (s : Schema). length s.tables) is in absurd (omega (arith, seven, none))

pub is_not_before : office_schema ≡ schema_before → ⊥
is_not_before is = let same : length office_schema.tables ≡ length schema_before.tables = ap (λ (s : Schema). length s.tables) is in absurd (omega (arith, seven, six, same))
