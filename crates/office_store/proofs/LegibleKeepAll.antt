-- Texts that are kept together leave the tables legible, and change the mail alone.
use Rattle.std.proofs.Common.{◌≡◌, List, [], ◌∷◌, Result, Ok, Err, OnOk, OnErr, sym, ap, subst, ◌∙◌}
use Rattle.sqlite.specs.Tree.{Trees}
use Rattle.office_mail.specs.Lists.{Lists}
use Rattle.office_store_keeper.specs.declared.values.NewLetter.{NewLetter}
use Rattle.office_store_keeper.specs.Content.{Content}
use Rattle.office_store_keeper.specs.NewMail.{AreFree, with_mail}
use Rattle.office_store_tables.specs.Tables.{kept_rows, said_in, run_map}
use Rattle.office_store_tables.specs.TableSteps.{Rows, rows_in, AddsLetters}
use Rattle.office_store_tables.specs.TableContent.{reports_to, count_said, content_in, release_place}
use Rattle.office_store_tables.specs.FactTables.{facts_in}
use Rattle.office_store_tables.specs.Legible.{IsLegible}
use Rattle.office_store_tables.proofs.KeepAllLemmas.{free_behind}
use Rattle.office_store.proofs.LegibleKeep.{keep_legible, keep_content}

-- the other tables stand
others_stand : (db next : Trees) (letters : List NewLetter) → AddsLetters db next letters → rows_in next ≡ record (rows_in db) { mail = next 1 }
others_stand db next [] same = ap (λ (t : Trees). record (rows_in t) { mail = next 1 }) same
others_stand db next (l ∷ letters) it = others_stand it.0 next letters it.2 ∙ ap (λ (r : Rows). record r { mail = next 1 }) it.1.put

module _ (setup : Lists) where
  pub all_leave_reports : (db next : Trees) (letters : List NewLetter) → AddsLetters db next letters → (content_in setup next).reports ≡ (content_in setup db).reports
  all_leave_reports db next letters it = ap (λ (r : Rows). reports_to (run_map r.runs) (count_said (said_in r.office))) (others_stand db next letters it)

  pub all_leave_facts : (db next : Trees) (letters : List NewLetter) → AddsLetters db next letters → (content_in setup next).facts ≡ (content_in setup db).facts
  all_leave_facts db next letters it = ap (λ (r : Rows). facts_in (release_place setup) r.facts r.delays) (others_stand db next letters it)

  pub keep_all_legible : (db next : Trees) (letters : List NewLetter) → AddsLetters db next letters → AreFree (kept_rows (db 1)) letters → IsLegible setup db → IsLegible setup next
  keep_all_legible db next [] same free was = subst (IsLegible setup) (sym same) was
  keep_all_legible db next (l ∷ letters) it free was =
      keep_all_legible it.0 next letters it.2 (free_behind db it.0 l letters it.1 free) (keep_legible setup db it.0 l.sender l.number l.text it.1 free.0 was)

  pub keep_all_content : (db next : Trees) (letters : List NewLetter) → AddsLetters db next letters → AreFree (kept_rows (db 1)) letters → IsLegible setup db → content_in setup next ≡ with_mail (content_in setup db) letters
  keep_all_content db next [] same free was = ap (content_in setup) same
  keep_all_content db next (l ∷ letters) it free was =
      keep_all_content it.0 next letters it.2 (free_behind db it.0 l letters it.1 free) (keep_legible setup db it.0 l.sender l.number l.text it.1 free.0 was)
      ∙ ap (λ (c : Content). with_mail c letters) (keep_content setup db it.0 l.sender l.number l.text it.1 free.0 was)

-- what a call promised of its success, or of its failure, where its answer is handed on
pub when_ok : {T E P : Type 0} (given : Result T E) (v : T) → Ok v ≡ given → OnOk given P → P
when_ok {T} {E} {P} given v same h = subst (λ r. OnOk r P) (sym same) h

pub when_err : {T E P : Type 0} (given : Result T E) (e : E) → Err e ≡ given → OnErr given P → P
when_err {T} {E} {P} given e same h = subst (λ r. OnErr r P) (sym same) h
