-- What tables say that were read to see whether they are as an office writes them.
use Rattle.std.proofs.Common.{◌≡◌, ◌≤◌, ◌<◌, ◌==◌, ℕ, List, map, length, Bool, false, Option, Some, None, Ok, Err, Result, IfOk, refl, sym, ap, subst, ◌∙◌, arith}
use Rattle.std.specs.Prelude.{◌↔◌, IsTrue}
use Rattle.std.proofs.lemmas.Bool.Decides.{nat_tests}
use Rattle.std.specs.List.Sorted.{IsPermutation}
use Rattle.std.specs.FinMap.{len}
use Rattle.std.specs.Str.{IsUtf8}
use Rattle.sqlite.specs.Order.{Row}
use Rattle.sqlite.specs.Tree.{Trees}
use Rattle.office_mail.specs.Lists.{Lists}
use Rattle.office_mail.specs.Setup.{setup_in}
use Rattle.office_mail.proofs.KeptFacts.{places_total, exact_places}
use Rattle.office_store_testing_tables.specs.declared.said.Said.{Said}
use Rattle.office_store_testing_tables.specs.Tables.{letter_in, kept_rows, said_in}
use Rattle.office_store_testing_tables.specs.steps.TableSteps.{office_columns, IsOnlyOffice}
use Rattle.office_store_testing_tables.specs.Legible.{SaysOnce, IsLegible, IsWhole, AreReported, AreNamed, AreRead}
use Rattle.office_store_testing_tables.specs.TableContent.{release_place}
use Rattle.office_store_testing_tables.proofs.MailLemmas.{as_many}
use Rattle.office_store_testing_tables.proofs.Whole.{at_most}
use Rattle.office_store_tables.specs.steps.Reading.{IsSaidFor, SaysFor, IsOwnCount, ReadRest}

some_said : {x y : Said} → Some x ≡ Some y → x ≡ y
some_said e = cc

-- what the only row says, which fits
abbrev pub Fits : Said → Type 0
Fits said = (said.schema < 4_294_967_296) × (said.finished < 4_294_967_296) × IsUtf8 said.setup

pub says_once : {F : Type 0} (rows : List Row) (result : Result Said F) (shown : List Row) → IsPermutation (map office_columns rows) shown → IfOk result (λ said. IsOnlyOffice said shown) → IfOk result Fits → IfOk result (λ said. said_in rows ≡ Some said)
    → IfOk result (λ said. (once : SaysOnce rows) × (once.said ≡ said))
says_once rows (Ok said) shown same only fits is =
    let many = as_many office_columns rows shown same in
    let one = ap length only.1 in
    (record { said = said; is = is; once = omega (arith, many, one); schema = fits.0; finished = fits.1; setup = fits.2 }, refl)
says_once rows (Err e) shown same only fits is = tt

-- the count of an office's own runs
pub own_count_is : {F : Type 0} (setup : Lists) (rows : List Row) (once : SaysOnce rows) (said : Said) (result : Result (Option ℕ) F) → once.said ≡ said → IfOk result (IsSaidFor setup said) → IfOk result (IsOwnCount setup rows)
own_count_is setup rows once said (Err e) same own = tt
own_count_is setup rows once said (Ok (Some n)) same own = record { office = once; schema = ap (λ (s : Said). s.schema) same ∙ own.0; setup_is = ap (λ (s : Said). setup_in s.setup) same ∙ own.1; count = ap (λ (s : Said). s.finished) same ∙ own.2 }
own_count_is setup rows once said (Ok None) same own = λ finished it.
    let is : it.office.said ≡ said = some_said (sym it.office.is ∙ once.is) ∙ same in
    own (ap (λ (s : Said). s.schema) (sym is) ∙ it.schema) (ap (λ (s : Said). setup_in s.setup) (sym is) ∙ it.setup_is)

-- mail of which as many texts are kept as there are rows has no other rows
pub mail_whole : (rows : List Row) (texts : ℕ) → texts ≤ len (kept_rows rows) → texts ≡ length rows → (len (kept_rows rows) ≡ texts) × IsWhole (kept_rows rows) rows
mail_whole rows texts low count =
    let high = at_most places_total exact_places letter_in rows in
    (omega (arith, low, count, high), omega (arith, low, count, high))

-- tables of this office that are whole but for the office's own row are whole with it
pub legible_from : (setup : Lists) (db : Trees) (finished texts : ℕ) → SaysFor setup (db 0) finished → ReadRest setup db finished texts → IsLegible setup db × (len (kept_rows (db 1)) ≡ texts)
legible_from setup db finished texts says rest = (
  record {
    office = says.office;
    schema = says.schema;
    setup_is = says.setup_is;
    mail = rest.mail;
    runs = subst (AreReported (db 3)) (sym says.count) rest.runs;
    testing = rest.testing;
    facts = rest.facts;
  },
  rest.texts_are,
)

says_for : (setup : Lists) (db : Trees) (it : IsLegible setup db) → SaysFor setup (db 0) it.office.said.finished
says_for setup db it = record { office = it.office; schema = it.schema; setup_is = it.setup_is; count = refl }

rest_of : (setup : Lists) (db : Trees) (finished texts : ℕ) (it : IsLegible setup db) → it.office.said.finished ≡ finished → len (kept_rows (db 1)) ≡ texts → ReadRest setup db finished texts
rest_of setup db finished texts it count many = record { texts_are = many; mail = it.mail; runs = subst (AreReported (db 3)) count it.runs; testing = it.testing; facts = it.facts }

-- what is found of all tables, by what is found behind the office's row
pub whole_by : (setup : Lists) (db : Trees) (finished texts : ℕ) (whole : Bool) → SaysFor setup (db 0) finished → (IsTrue whole ↔ ReadRest setup db finished texts) → IsTrue whole ↔ (IsLegible setup db × (len (kept_rows (db 1)) ≡ texts))
whole_by setup db finished texts whole says rest = (
  λ is. legible_from setup db finished texts says (rest.0 is),
  λ both.
      let it = both.0 in
      let same : it.office.said ≡ says.office.said = some_said (sym it.office.is ∙ says.office.is) in
      rest.1 (rest_of setup db finished texts it (ap (λ (s : Said). s.finished) same ∙ says.count) both.1),
)

-- without an own row nothing is whole
pub not_own : (setup : Lists) (db : Trees) (texts : ℕ) → IsOwnCount setup (db 0) None → IsTrue false ↔ (IsLegible setup db × (len (kept_rows (db 1)) ≡ texts))
not_own setup db texts none = (λ is. absurd (let e = is in cc), λ both. absurd (none both.0.office.said.finished (says_for setup db both.0)))

pub read_all : (setup : Lists) (db : Trees) (finished texts : ℕ) → texts ≤ len (kept_rows (db 1)) → texts ≡ length (db 1) → AreReported (db 3) finished → AreNamed setup db → AreRead (release_place setup) (db 8) (db 10) → ReadRest setup db finished texts
read_all setup db finished texts low count runs testing facts =
    let mail = mail_whole (db 1) texts low count in
    record { texts_are = mail.0; mail = mail.1; runs = runs; testing = testing; facts = facts }

-- whether a table has so many rows
pub same_count : (size runs count : ℕ) → size ≡ count → IsTrue (count == runs) ↔ (size ≡ runs)
same_count size runs count is = (λ e. let same : count ≡ runs = grind (arith, nat_tests) in is ∙ same, λ e. let same : count ≡ runs = sym is ∙ e in grind (arith, nat_tests))

-- where the table of mail has another count of rows, the rest isn't whole
pub other_count : (setup : Lists) (db : Trees) (finished texts rows : ℕ) → rows ≡ length (db 1) → (rows ≡ texts → ⊥) → IsTrue false ↔ ReadRest setup db finished texts
other_count setup db finished texts rows count apart = (
  λ e. absurd (let x = e in cc),
  λ rest.
      let texts_are = rest.texts_are in
      let mail = rest.mail in
      absurd (apart (omega (arith, count, texts_are, mail))),
)

-- nor is it where the runs aren't reported
pub not_reported : (setup : Lists) (db : Trees) (finished texts : ℕ) (own : Bool) → own ≡ false → (IsTrue own ↔ AreReported (db 3) finished) → IsTrue false ↔ ReadRest setup db finished texts
not_reported setup db finished texts own is both = (λ e. absurd (let x = e in cc), λ rest. sym is ∙ both.1 rest.runs)
