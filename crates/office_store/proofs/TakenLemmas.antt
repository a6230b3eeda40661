-- The office's own schemas are taken.
use Rattle.std.proofs.Common.{◌≡◌, inl, inr, true, refl, sym, subst}
use Rattle.sqlite_tied.specs.Compute.{everything}
use Rattle.sqlite.specs.Schema.{Schema}
use Rattle.sqlite_schema.specs.Names.{same_name}
use Rattle.office_store_tables.specs.Layout.{office_schema, schema_before}
use Rattle.office_store_tables.proofs.SchemaLemmas.{each, each_before}
use Rattle.office_store.specs.Opening.{has_own_indexes, IsTakeable}

own : has_own_indexes office_schema ≡ true
unfolding everything same_name
own = refl

own_before : has_own_indexes schema_before ≡ true
unfolding everything same_name
own_before = refl

pub takeable : (s : Schema) → s ≡ office_schema → IsTakeable s
takeable s is = inr (inl (each s is), subst (λ (t : Schema). has_own_indexes t ≡ true) (sym is) own)

pub takeable_before : (s : Schema) → s ≡ schema_before → IsTakeable s
takeable_before s is = inr (inr (each_before s is), subst (λ (t : Schema). has_own_indexes t ≡ true) (sym is) own_before)
