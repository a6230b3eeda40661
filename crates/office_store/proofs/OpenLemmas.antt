-- What the office's rows say, as they are shown and as they stand.
use Rattle.std.proofs.Common.{◌≡◌, ◌<◌, ◌==◌, ◌∷◌, [], inl, inr, ℕ, List, map, true, Some, refl, sym, ap, ◌∙◌, arith}
use Rattle.std.specs.Prelude.{nat_le}
use Rattle.std.proofs.lemmas.Bool.Decides.{nat_tests}
use Rattle.std.specs.List.Sorted.{IsPermutation}
use Rattle.std.specs.Result.{result_ok}
use Rattle.sqlite.specs.Order.{Row}
use Rattle.sqlite.specs.Effect.{Database}
use Rattle.sqlite.specs.Tree.{Trees}
use Rattle.office_mail.specs.Lists.{Lists}
use Rattle.office_mail.specs.Setup.{IsSetup}
use Rattle.office_store_tables.specs.Layout.{office_schema}
use Rattle.office_store_tables.specs.Tables.{office_in, said_in}
use Rattle.office_store_tables.specs.TableSteps.{office_columns}
use Rattle.office_store_tables.specs.Creating.{IsBlank}
use Rattle.office_store_tables.specs.SetupText.{setup_text}
use Rattle.office_store.specs.Opening.{text_by, text_of_one, kept_text, lists_by, IsKeptFor, OpensAsLeft}
use Rattle.office_store.specs.steps.Opening.{shown_office}
use Rattle.office_store_tables.specs.declared.said.Said.{Said}
use Rattle.office_store_tables.specs.Legible.{IsLegible}
use Rattle.office_store_tables.proofs.SaidFacts.{said_alone}
use Rattle.office_store_tables.proofs.SchemaLemmas.{is_not_none, is_not_before}
use Rattle.office_store_tables.proofs.MailLemmas.{as_many, single_of, only_shown}
use Rattle.office_store_tables.proofs.SetupRoundTrip.{read_back}

shown_as : (row : Row) → shown_office (office_columns row) ≡ office_in row
unfolding office_in
shown_as row = refl

-- the rows that are shown say what those of the table say
pub shown_text : (number : ℕ) (rows shown : List Row) → IsPermutation (map office_columns rows) shown → text_of_one number shown_office shown ≡ text_of_one number office_in rows
shown_text number [] [] same = refl
shown_text number (r ∷ []) (s ∷ []) same =
    let one = only_shown office_columns (r ∷ []) s same in
    let row : s ≡ office_columns r = one.2 ∙ sym (ap office_columns (first_is r one.0 one.1)) in
    ap (λ x. text_by number (shown_office x)) row ∙ ap (text_by number) (shown_as r)
  where
    first_is : (a b : Row) → ◌≡◌ {A = List Row} (a ∷ []) (b ∷ []) → a ≡ b
    first_is a b e = cc
shown_text number (r ∷ q ∷ rows) (s ∷ t ∷ shown) same = refl
shown_text number [] (s ∷ shown) same = absurd (omega (arith, as_many office_columns [] (s ∷ shown) same))
shown_text number (r ∷ rows) [] same = absurd (omega (arith, as_many office_columns (r ∷ rows) [] same))
shown_text number (r ∷ []) (s ∷ t ∷ shown) same = absurd (omega (arith, as_many office_columns (r ∷ []) (s ∷ t ∷ shown) same))
shown_text number (r ∷ q ∷ rows) (s ∷ []) same = absurd (omega (arith, as_many office_columns (r ∷ q ∷ rows) (s ∷ []) same))

-- new tables keep the setup that they were made for
pub new_kept : (setup : Lists) (db : Database) → IsSetup setup → db.schema ≡ office_schema → IsBlank db.trees (record { schema = 2; setup = setup_text setup; finished = 0 }) → IsKeptFor setup db
new_kept setup db valid schema blank = record {
  schema = schema;
  setup_is = ap (λ rows. lists_by (kept_text rows)) blank.one ∙ ap (λ said. lists_by (text_by 2 said)) blank.row_says ∙ ap result_ok (read_back setup valid);
}

-- ---- what an office left

own_text : (said : Said) → said.schema ≡ 2 → said.finished < 4_294_967_296 → text_by 2 (Some (1, said)) ≡ Some said.setup
own_text said schema few =
    let a : (said.schema == 2) ≡ true = grind (arith, nat_tests) in
    let b : nat_le said.finished 4_294_967_295 ≡ true = grind (arith, nat_tests) in
    rw (a, b) refl

-- tables that read as an office with this setup writes them keep this setup
pub legible_kept : (setup : Lists) (db : Trees) → IsLegible setup db → lists_by (kept_text (db 0)) ≡ Some setup
legible_kept setup db it =
    let said = it.office.said in
    let row = single_of (db 0) it.office.once in
    let says : office_in row.0 ≡ Some (1, said) = said_alone (office_in row.0) said (ap said_in (sym row.1) ∙ it.office.is) in
    ap (λ rows. lists_by (kept_text rows)) row.1 ∙ ap (λ o. lists_by (text_by 2 o)) says ∙ ap lists_by (own_text said it.schema it.office.finished) ∙ ap result_ok it.setup_is

same_setup : (s t : Lists) → Some s ≡ Some t → s ≡ t
same_setup s t e = cc (e)

pub opens_as_left : (setup : Lists) (db : Database) → db.schema ≡ office_schema → IsLegible setup db.trees → OpensAsLeft setup db
opens_as_left setup db schema it =
    let kept = legible_kept setup db.trees it in
    record {
      same = λ new opened. elim opened [
        | inl fresh ↦ absurd (is_not_none (sym schema ∙ fresh.fresh))
        | inr old ↦ elim old [
          | inl found ↦ found.1
          | inr migrated ↦ absurd (is_not_before (sym schema ∙ migrated.was.schema))
        ]
      ];
      own = λ other. elim other.kept [
        | inl k ↦ other.differs (same_setup other.other setup (sym k.setup_is ∙ kept))
        | inr k ↦ is_not_before (sym schema ∙ k.schema)
      ];
      known = λ unknown. unknown.unkept setup (record { schema = schema; setup_is = kept });
      read = λ unread. is_not_before (sym schema ∙ unread.kept.schema);
    }
