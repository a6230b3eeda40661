-- What SQLite reads in the texts of the store.
use Rattle.std.proofs.Common.{◌≡◌, refl, codes, [], ◌∷◌, List, ℕ, None, pos, negsuc, false}
use Rattle.sqlite_tied.specs.Compute.{everything}
use Rattle.sqlite.specs.declared.types.Value.TheVariants.{Null, Int}
use Rattle.sqlite.specs.Term.{Term, lit, col, op2}
use Rattle.sqlite_sql.specs.declared.ops.BinaryOp.TheVariants.{Compare}
use Rattle.sqlite_sql.specs.declared.ops.CompareOp.TheVariants.{Eq}
use Rattle.sqlite.specs.Collation.TheVariants.{Binary}
use Rattle.sqlite.specs.Query.{Query, inner, end}
use Rattle.sqlite.specs.Source.TheVariants.{Values}
use Rattle.sqlite.specs.Command.TheVariants.{Insert, Select}
use Rattle.sqlite.specs.Listing.{understood, reads_listing}
use Rattle.sqlite.proofs.Callers.{IsPlain, command_of}
use Rattle.office_store_testing_tables.specs.Layout.{office_schema}
use Rattle.office_store_testing_tables.specs.steps.Texts.{find_text, keep_text, keep_eight_text}

-- all rows that pass the terms, in any order
abbrev pub plain_query : ℕ → List Term → List Term → Query
plain_query tree filter project = record {
  from = inner tree end;
  filter = filter;
  group = None;
  project = project;
  distinct = false;
  collations = [];
  order = [];
  limit = lit (Int (negsuc 0));
  offset = lit (Int (pos 0));
}

abbrev pub equals : Term → Term → Term
equals = op2 (Compare Eq Binary)

abbrev pub find_query : Query
find_query = plain_query 1 (equals (col 1 1) (col 0 0) ∷ equals (col 1 2) (col 0 1) ∷ []) (col 1 1 ∷ col 1 2 ∷ col 1 3 ∷ [])

pub find_is : command_of (understood office_schema find_text) ≡ Select (record { lets = []; body = find_query }) (codes "sender" ∷ codes "number" ∷ codes "body" ∷ [])
unfolding understood everything
find_is = refl

pub find_plain : IsPlain (understood office_schema find_text) × (reads_listing office_schema find_text ≡ false)
unfolding understood everything
find_plain = ((refl, refl), refl)

pub keep_is : command_of (understood office_schema keep_text) ≡ Insert 1 (Values (lit Null ∷ col 0 0 ∷ col 0 1 ∷ col 0 2 ∷ []) 4)
unfolding understood everything
keep_is = refl

pub keep_plain : IsPlain (understood office_schema keep_text)
unfolding understood everything
keep_plain = (refl, refl)

abbrev pub keep_eight_terms : List Term
keep_eight_terms = lit Null ∷ col 0 0 ∷ col 0 1 ∷ col 0 2 ∷ lit Null ∷ col 0 3 ∷ col 0 4 ∷ col 0 5 ∷ lit Null ∷ col 0 6 ∷ col 0 7 ∷ col 0 8 ∷ lit Null ∷ col 0 9 ∷ col 0 10 ∷ col 0 11 ∷ lit Null ∷ col 0 12 ∷ col 0 13 ∷ col 0 14 ∷ lit Null ∷ col 0 15 ∷ col 0 16 ∷ col 0 17 ∷ lit Null ∷ col 0 18 ∷ col 0 19 ∷ col 0 20 ∷ lit Null ∷ col 0 21 ∷ col 0 22 ∷ col 0 23 ∷ []

pub keep_eight_is : (command_of (understood office_schema keep_eight_text) ≡ Insert 1 (Values keep_eight_terms 4)) × IsPlain (understood office_schema keep_eight_text)
unfolding understood everything
keep_eight_is = (refl, (refl, refl))
