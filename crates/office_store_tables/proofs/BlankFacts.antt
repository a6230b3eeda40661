-- New tables read as an office writes them, and hold nothing.
use Rattle.std.proofs.Common.{◌≡◌, [], ℕ, List, length, filter_map, Option, Some, None, Ok, refl, sym, ap, subst, ◌∙◌, arith}
use Rattle.std.specs.FinMap.{get, len, empty, from_entries, entries, len-empty, len-entries, get-empty}
use Rattle.std.specs.declared.cmp.Ordering.{Ordering}
use Rattle.std.proofs.lemmas.List.{nil_from_length}
use Rattle.std.specs.Str.{IsUtf8}
use Rattle.sqlite.specs.Tree.{Trees}
use Rattle.office_mail.specs.Kept.{Place, place_cmp}
use Rattle.office_mail.specs.Lists.{Lists}
use Rattle.office_store_keeper.specs.declared.values.Reports.{Reports}
use Rattle.office_store_testing_tables.specs.declared.said.Said.{Said}
use Rattle.std.specs.Ordering.{nat_cmp}
use Rattle.testing_rules_items.specs.Words.{byte_cmp}
use Rattle.testing_rules_model.specs.Moves.{row_cmp}
use Rattle.office_mail.specs.Setup.{IsSetup, setup_in}
use Rattle.office_store_tables.specs.SetupText.{setup_text}
use Rattle.office_store_tables.specs.Fresh.{IsEmptyFor}
use Rattle.office_store_tables.proofs.SetupRoundTrip.{read_back, text_utf8}
use Rattle.office_store_keeper.specs.Content.{no_content}
use Rattle.office_store_tables.specs.Creating.{IsBlank}
use Rattle.office_store_tables.specs.Tables.{kept_rows}
use Rattle.office_store_tables.specs.Entries.{source_map, entry_map}
use Rattle.office_store_tables.specs.TableContent.{content_in, reports_to, suite_in, source_at, row_at, release_place}
use Rattle.office_store_tables.specs.FactTables.{facts_in}
use Rattle.office_store_tables.specs.Legible.{IsLegible, IsWhole, SaysOnce, AreReported, AreNamed, AreRead}

-- what the office says in new tables
abbrev pub new_said : List ℕ → Said
new_said text = record { schema = 2; setup = text; finished = 0 }

abbrev says_once : (db : Trees) (text : List ℕ) → IsUtf8 text → IsBlank db (new_said text) → SaysOnce (db 0)
says_once db text utf8 blank = record {
  said = new_said text;
  is = blank.says;
  once = ap length blank.one;
  schema = omega arith;
  finished = omega arith;
  setup = utf8;
}

-- the map of no entry
empty_len : {K : Type 0} (R : K → K → Ordering) (V : Type 0) → len (from_entries {K = K} {X = V} {R = R} []) ≡ 0
empty_len R V = len-empty R V

empty_get : {K : Type 0} (R : K → K → Ordering) (V : Type 0) (k : K) (v : V) → get (from_entries {K = K} {X = V} {R = R} []) k ≡ Some v → ⊥
empty_get R V k v found = let none : ◌≡◌ {A = Option V} None (Some v) = sym (get-empty R k) ∙ found in absurd (cc)

empty_entries : {K : Type 0} (R : K → K → Ordering) (V : Type 0) → entries (from_entries {K = K} {X = V} {R = R} []) ≡ []
empty_entries {K} R V = nil_from_length (entries (empty {K = K} {X = V} {R = R})) (sym (len-entries (empty {K = K} {X = V} {R = R})) ∙ len-empty R V)

none_reported : AreReported [] 0
none_reported = record {
  each = λ run low high. absurd (omega (arith, low, high));
  count = refl;
  texts = λ run reports found. absurd (empty_get nat_cmp Reports run reports found);
}

none_named : (setup : Lists) (db : Trees) → db 4 ≡ [] → db 6 ≡ [] → AreNamed setup db
none_named setup db sources rows = record {
  sources = subst (λ rs. IsWhole (source_map rs) rs) (sym sources) (empty_len byte_cmp Place);
  source = λ name p found. absurd (empty_get byte_cmp Place name p (rw sources at found));
  rows = subst (λ rs. IsWhole (entry_map rs) rs) (sym rows) (empty_len row_cmp (Place × ℕ));
  row = λ key value found. absurd (empty_get row_cmp (Place × ℕ) key value (rw rows at found));
}

none_read : (release : ℕ) → AreRead release [] []
none_read release = record { fact = λ row there. absurd there; delay = λ row there. absurd there; one = omega arith }

pub blank_legible : (setup : Lists) (db : Trees) (text : List ℕ) → IsUtf8 text → setup_in text ≡ Ok setup → IsBlank db (new_said text) → IsLegible setup db
blank_legible setup db text utf8 own blank = record {
  office = says_once db text utf8 blank;
  schema = refl;
  setup_is = own;
  mail = subst (λ rs. IsWhole (kept_rows rs) rs) (sym blank.mail) (empty_len place_cmp (List ℕ));
  runs = subst (λ rows. AreReported rows 0) (sym blank.runs) none_reported;
  testing = none_named setup db blank.sources blank.rows;
  facts = subst (λ rows. AreRead (release_place setup) rows (db 10)) (sym blank.facts) (subst (AreRead (release_place setup) []) (sym blank.delays) (none_read (release_place setup)));
}

suite_none : (setup : Lists) → suite_in setup empty (source_map []) (entry_map []) ≡ no_content.testing
unfolding suite_in
suite_none setup =
    ap (λ sources. record { sources = filter_map (source_at setup empty) sources; rows = filter_map (row_at setup empty) (entries (entry_map [])) }) (empty_entries byte_cmp Place)
    ∙ ap (λ rows. record { sources = []; rows = filter_map (row_at setup empty) rows }) (empty_entries row_cmp (Place × ℕ))

facts_none : (setup : Lists) → facts_in (release_place setup) [] [] ≡ no_content.facts
unfolding facts_in
facts_none setup = refl

pub blank_content : (setup : Lists) (db : Trees) (said : Said) → said.finished ≡ 0 → IsBlank db said → content_in setup db ≡ no_content
unfolding reports_to
blank_content setup db said none blank =
    rw (blank.mail, blank.runs, blank.sources, blank.rows, blank.facts, blank.delays, blank.says, none)
    (λ i. record { kept = empty; reports = []; testing = suite_none setup i; facts = facts_none setup i })

-- so do those of a setup's own text
pub new_empty : (setup : Lists) (db : Trees) → IsSetup setup → IsBlank db (new_said (setup_text setup)) → IsEmptyFor setup db
new_empty setup db valid blank = record {
  legible = blank_legible setup db (setup_text setup) (text_utf8 setup valid) (read_back setup valid) blank;
  content = blank_content setup db (new_said (setup_text setup)) refl blank;
}
