-- What CREATE TABLE makes of a database.
use Rattle.std.proofs.Common.{◌≡◌, ℕ, List, [], false, None, Ok, Err, Result, OnOk, IsTrue, inl, inr, refl, sym, ap, subst, ◌∙◌}
use Rattle.std.proofs.lemmas.Bool.{cases_Bool}
use Rattle.std.specs.Borrow.{MutBor}
use Rattle.sqlite.specs.Store.{Ghosts}
use Rattle.sqlite.specs.Held.{Held, state}
use Rattle.sqlite.specs.Table.{Table}
use Rattle.sqlite.specs.Schema.{Schema}
use Rattle.sqlite.specs.Command.TheVariants.{CreateTable}
use Rattle.sqlite.specs.Compile.{table_defined_by}
use Rattle.sqlite.specs.Change.{created, next_tree, KeepsRows}
use Rattle.sqlite.specs.declared.error.Error.{Error}
use Rattle.sqlite.specs.Effect.{Database}
use Rattle.sqlite.specs.Does.{Tally, lacks_sequence}
use Rattle.sqlite.specs.Listing.{understood}
use Rattle.sqlite.specs.State.{State, HasCleanDisk, Writes, Executes, ExecutesInside, Survives}
use Rattle.sqlite.proofs.Callers.{IsPlain, command_of, statement_of, runs_as}
use Rattle.sqlite_tied.specs.Compute.{everything}
use Rattle.office_store_tables.specs.Layout.{no_schema, office, mail, run, testing_source, testing_row, fact, fact_delays}
use Rattle.office_store_tables.specs.Texts.{create_office_text, create_mail_text, create_run_text, create_testing_source_text, create_testing_row_text, create_fact_text, create_fact_delays_text}
use Rattle.sqlite.specs.Tree.{Trees, put_row}
use Rattle.office_store_testing_tables.specs.declared.said.Said.{Said}
use Rattle.office_store_tables.specs.Tables.{IsTrusted, said_in}
use Rattle.office_store_tables.specs.TableSteps.{Rows, SaysMore}
use Rattle.office_store_tables.proofs.RunLemmas.{said_one}
use Rattle.office_store_tables.specs.StepsWithin.{StepsWithin}
use Rattle.office_store_tables.specs.Creating.{IsBlank}
use Rattle.office_store_tables.specs.steps.CreatingSteps.{Creates, IsBuilding, Makes, MakesAll, schema_of_one, schema_of_two, schema_of_three, schema_of_four, schema_of_five, schema_of_six}
use Rattle.office_store_tables.proofs.StateLemmas.{lasts_survived}
use Rattle.office_store_tables.proofs.StepLemmas.{Stepped, step_before, step_on, step_open, begun_ok}
use Rattle.office_store_tables.proofs.WriteLemmas.{went, same_value}
use Rattle.office_store_tables.proofs.WithinLemmas.{WentWithin, committed_stays}

-- the table is there, with no row, and the other tables have theirs
pub record Defined (schema : Schema) (table : Table) (old new : Database) : Type 0 where
  pub schema_is : new.schema ≡ created schema table
  pub empty : new.trees (next_tree schema) ≡ []
  pub others : KeepsRows schema.tables old.trees new.trees

pub defines : (schema : Schema) (text : List ℕ) (table : Table) (old new : State) (count : ℕ) → old.now.schema ≡ schema → command_of (understood schema text) ≡ CreateTable
    → statement_of text (understood schema text) ≡ text → IsPlain (understood schema text) → table_defined_by text ≡ Ok table → lacks_sequence (created schema table) ≡ false
    → Executes text [] old new (Ok count) → Defined schema table old.now new.now
defines schema text table old new count has is whole plain defined simple h =
    let w = subst (λ t. Writes old new None CreateTable t [] count) whole (runs_as text [] old new schema has CreateTable is plain count h) in
    let all = went w.changed in
    let first = went all.1 in
    let made = first.1 in
    let both : Ok made.table ≡ Ok table = sym made.defined ∙ defined in
    let same : made.table ≡ table = same_value both in
    let after : first.0.schema ≡ created schema table = made.is ∙ ap (λ s. created s made.table) has ∙ ap (created schema) same in
    let none : lacks_sequence first.0.schema ≡ false = ap lacks_sequence after ∙ simple in
    let now : new.now ≡ first.0 = ap (λ (p : Tally × Database). p.1) (same_value all.2) ∙ same_value (rw none at first.2) in
    record {
      schema_is = ap (λ (d : Database). d.schema) now ∙ after;
      empty = ap (λ (d : Database). d.trees (next_tree schema)) now ∙ subst (λ s. first.0.trees (next_tree s) ≡ []) has made.empty;
      others = subst (λ (d : Database). KeepsRows schema.tables old.now.trees d.trees) (sym now) (subst (λ (s : Schema). KeepsRows s.tables old.now.trees first.0.trees) has made.others);
    }

-- what SQLite reads in the definition of a table
pub record IsDefinition (schema : Schema) (text : List ℕ) (table : Table) : Type 0 where
  pub command : command_of (understood schema text) ≡ CreateTable
  pub whole : statement_of text (understood schema text) ≡ text
  pub plain : IsPlain (understood schema text)
  pub table_is : table_defined_by text ≡ Ok table
  pub simple : lacks_sequence (created schema table) ≡ false

pub office_is : IsDefinition no_schema create_office_text office
unfolding understood everything
office_is = record { command = refl; whole = refl; plain = (refl, refl); table_is = refl; simple = refl }

pub mail_is : IsDefinition schema_of_one create_mail_text mail
unfolding understood everything
mail_is = record { command = refl; whole = refl; plain = (refl, refl); table_is = refl; simple = refl }

pub run_is : IsDefinition schema_of_two create_run_text run
unfolding understood everything
run_is = record { command = refl; whole = refl; plain = (refl, refl); table_is = refl; simple = refl }

pub testing_source_is : IsDefinition schema_of_three create_testing_source_text testing_source
unfolding understood everything
testing_source_is = record { command = refl; whole = refl; plain = (refl, refl); table_is = refl; simple = refl }

pub testing_row_is : IsDefinition schema_of_four create_testing_row_text testing_row
unfolding understood everything
testing_row_is = record { command = refl; whole = refl; plain = (refl, refl); table_is = refl; simple = refl }

pub fact_is : IsDefinition schema_of_five create_fact_text fact
unfolding understood everything
fact_is = record { command = refl; whole = refl; plain = (refl, refl); table_is = refl; simple = refl }

pub fact_delays_is : IsDefinition schema_of_six create_fact_delays_text fact_delays
unfolding understood everything
fact_delays_is = record { command = refl; whole = refl; plain = (refl, refl); table_is = refl; simple = refl }

made_by : (schema : Schema) (text : List ℕ) (table : Table) (old new : State) (count : ℕ) → IsDefinition schema text table → Stepped text [] old new (Ok count) → IsTrusted new → (IsTrusted old → IsBuilding schema old) → Makes schema table old new
made_by schema text table old new count it h trusted building =
    let begun = begun_ok text [] old new count h in
    let was = building (step_before text [] old new (Ok count) h begun trusted) in
    let ran = step_on text [] old new count h begun trusted in
    let made = defines schema text table old new count was.schema_is it.command it.whole it.plain it.table_is it.simple ran.0 in
    record { schema_is = made.schema_is; begun = ran.2; committed = ran.1; empty = made.empty; others = made.others }

makes : (schema : Schema) (text : List ℕ) (table : Table) (old new : State) (result : Result ℕ Error) → IsDefinition schema text table → Stepped text [] old new result → IsTrusted new → (IsTrusted old → IsBuilding schema old) → OnOk result (Makes schema table old new)
makes schema text table old new (Ok count) it h trusted building = made_by schema text table old new count it h trusted building
makes schema text table old new (Err e) it h trusted building = tt

-- what the statement of a table leaves
pub creates : {S : Type 0} {store : Ghosts S} {schema : Schema} {text : List ℕ} {table : Table} {e : Error} → IsDefinition schema text table → (old new : MutBor (Held S)) (result : Result ℕ Error) → new.ghost_name ≡ old.ghost_name
    → ((state store old.now).in_transaction ≡ false → (result ≡ Err e) × (new.now ≡ old.now)) → Survives (state store old.now) (state store new.now) (λ _. ⊥)
    → (HasCleanDisk (state store new.now) → IsTrue (state store old.now).in_transaction → ExecutesInside 0 text [] (state store old.now) (state store new.now) result)
    → (IsTrusted (state store old.now) → IsBuilding schema (state store old.now)) → Creates store old new result (Makes schema table)
creates {S} {store} {schema} {text} {table} it old new result same ended survives runs building =
    let h : Stepped text [] (state store old.now) (state store new.now) result = record { clean = survives.clean; limit = survives.limit; ended = λ idle. (_, (ended idle).0); runs = runs } in
    let before : IsTrusted (state store new.now) → IsTrusted (state store old.now) = λ trusted. elim (cases_Bool (state store old.now).in_transaction) [
      | inl begun ↦ step_before _ _ _ _ result h begun trusted
      | inr idle ↦ subst (λ (s : Held S). IsTrusted (state store s)) (ended idle).1 trusted
    ] in
    record {
      same_reference = same;
      before = before;
      lasts = lasts_survived _ _ survives;
      stays = λ clean trusted. step_open _ _ _ _ result h clean trusted;
      made = λ trusted. makes schema text table (state store old.now) (state store new.now) result it h trusted building;
      err = λ trusted. committed_stays _ _ _ _ result h (building (before trusted)).begun trusted;
    }

pub makes_all : (a b c d e f g h : State) → Makes no_schema office a b → Makes schema_of_one mail b c → Makes schema_of_two run c d → Makes schema_of_three testing_source d e → Makes schema_of_four testing_row e f
    → Makes schema_of_five fact f g → Makes schema_of_six fact_delays g h → MakesAll a h
makes_all a b c d e f g h one two three four five six seven = record {
  schema_is = seven.schema_is;
  begun = seven.begun;
  committed = seven.committed ∙ six.committed ∙ five.committed ∙ four.committed ∙ three.committed ∙ two.committed ∙ one.committed;
  office = seven.others.0 ∙ six.others.0 ∙ five.others.0 ∙ four.others.0 ∙ three.others.0 ∙ two.others.0 ∙ one.empty;
  mail = seven.others.1.0 ∙ six.others.1.0 ∙ five.others.1.0 ∙ four.others.1.0 ∙ three.others.1.0 ∙ two.empty;
  runs = seven.others.1.1.0 ∙ six.others.1.1.0 ∙ five.others.1.1.0 ∙ four.others.1.1.0 ∙ three.empty;
  sources = seven.others.1.1.1.0 ∙ six.others.1.1.1.0 ∙ five.others.1.1.1.0 ∙ four.empty;
  rows = seven.others.1.1.1.1.0 ∙ six.others.1.1.1.1.0 ∙ five.empty;
  facts = seven.others.1.1.1.1.1.0 ∙ six.empty;
  delays = seven.empty;
}

-- the row of the office alone in the new tables
pub blank : (a b : State) (next : Trees) (said : Said) → MakesAll a b → SaysMore b.now.trees next said → IsBlank next said
blank a b next said made spoken = record {
  row = spoken.row;
  one = ap (λ (r : Rows). r.office) spoken.put ∙ ap (put_row spoken.row) made.office;
  row_says = spoken.says;
  says = ap said_in (ap (λ (r : Rows). r.office) spoken.put ∙ ap (put_row spoken.row) made.office) ∙ said_one spoken.row said spoken.says;
  mail = ap (λ (r : Rows). r.mail) spoken.put ∙ made.mail;
  runs = ap (λ (r : Rows). r.runs) spoken.put ∙ made.runs;
  sources = ap (λ (r : Rows). r.sources) spoken.put ∙ made.sources;
  rows = ap (λ (r : Rows). r.rows) spoken.put ∙ made.rows;
  facts = ap (λ (r : Rows). r.facts) spoken.put ∙ made.facts;
  delays = ap (λ (r : Rows). r.delays) spoken.put ∙ made.delays;
}

-- the tables stand, so the steps that made them went well
pub built_within : {S : Type 0} {store : Ghosts S} {old new : MutBor (Held S)} {count : ℕ} → Creates store old new (Ok count) MakesAll → WentWithin store old new
built_within step = record {
  same_reference = step.same_reference;
  before = step.before;
  lasts = step.lasts;
  stays = step.stays;
  on = λ trusted. let all = step.made trusted in record { inside = record { schema = all.schema_is; begun = all.begun }; committed = all.committed };
  err = λ _. tt;
}

-- a table wasn't made
pub unbuilt_within : {S : Type 0} {store : Ghosts S} {old new : MutBor (Held S)} {e : Error} {are_made : State → State → Type 0} → Creates store old new (Err e) are_made → StepsWithin {T = ℕ} store old new (Err e)
unbuilt_within step = record {
  same_reference = step.same_reference;
  before = step.before;
  lasts = step.lasts;
  stays = λ _ _. tt;
  on = λ _. tt;
  err = step.err;
}
