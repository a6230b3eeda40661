-- The statements of the office's store.
use Rattle.std.specs.Prelude.{codes, List, ℕ}

abbrev pub find_text : List ℕ
find_text = codes "SELECT sender, number, body FROM mail WHERE sender = ?1 AND number = ?2"

abbrev pub keep_text : List ℕ
keep_text = codes "INSERT INTO mail (sender, number, body) VALUES (?1, ?2, ?3)"

abbrev pub keep_eight_text : List ℕ
keep_eight_text = codes "INSERT INTO mail (sender, number, body) VALUES (?1, ?2, ?3), (?4, ?5, ?6), (?7, ?8, ?9), (?10, ?11, ?12), (?13, ?14, ?15), (?16, ?17, ?18), (?19, ?20, ?21), (?22, ?23, ?24)"

abbrev pub mail_rowids_text : List ℕ
mail_rowids_text = codes "SELECT rowid FROM mail"

abbrev pub office_text : List ℕ
office_text = codes "SELECT id, schema, setup, finished FROM office"

abbrev pub reports_text : List ℕ
reports_text = codes "SELECT number, excuses, updates FROM run WHERE number = ?1"

abbrev pub run_numbers_text : List ℕ
run_numbers_text = codes "SELECT number FROM run"

abbrev pub add_run_text : List ℕ
add_run_text = codes "INSERT INTO run (number, excuses, updates) VALUES (?1, ?2, ?3)"

abbrev pub clear_office_text : List ℕ
clear_office_text = codes "DELETE FROM office"

abbrev pub add_office_text : List ℕ
add_office_text = codes "INSERT INTO office (id, schema, setup, finished) VALUES (1, ?1, ?2, ?3)"

abbrev pub take_source_text : List ℕ
take_source_text = codes "DELETE FROM testing_source WHERE rowid = ?1"

abbrev pub add_source_text : List ℕ
add_source_text = codes "INSERT INTO testing_source (name, sender, number) VALUES (?1, ?2, ?3)"

abbrev pub add_eight_sources_text : List ℕ
add_eight_sources_text = codes "INSERT INTO testing_source (name, sender, number) VALUES (?1, ?2, ?3), (?4, ?5, ?6), (?7, ?8, ?9), (?10, ?11, ?12), (?13, ?14, ?15), (?16, ?17, ?18), (?19, ?20, ?21), (?22, ?23, ?24)"

abbrev pub take_row_text : List ℕ
take_row_text = codes "DELETE FROM testing_row WHERE rowid = ?1"

abbrev pub add_row_text : List ℕ
add_row_text = codes "INSERT INTO testing_row (arch, name, sender, number, place) VALUES (?1, ?2, ?3, ?4, ?5)"

abbrev pub add_eight_rows_text : List ℕ
add_eight_rows_text = codes "INSERT INTO testing_row (arch, name, sender, number, place) VALUES (?1, ?2, ?3, ?4, ?5), (?6, ?7, ?8, ?9, ?10), (?11, ?12, ?13, ?14, ?15), (?16, ?17, ?18, ?19, ?20), (?21, ?22, ?23, ?24, ?25), (?26, ?27, ?28, ?29, ?30), (?31, ?32, ?33, ?34, ?35), (?36, ?37, ?38, ?39, ?40)"

abbrev pub sources_text : List ℕ
sources_text = codes "SELECT rowid, name, sender, number FROM testing_source"

abbrev pub rows_text : List ℕ
rows_text = codes "SELECT rowid, arch, name, sender, number, place FROM testing_row"

abbrev pub facts_text : List ℕ
facts_text = codes "SELECT rowid, kind, sender, number, place FROM fact"

abbrev pub fact_ids_text : List ℕ
fact_ids_text = codes "SELECT rowid FROM fact WHERE kind = ?1 AND sender = ?2 AND number = ?3 AND place = ?4"

abbrev pub take_fact_text : List ℕ
take_fact_text = codes "DELETE FROM fact WHERE rowid = ?1"

abbrev pub add_fact_text : List ℕ
add_fact_text = codes "INSERT INTO fact (kind, sender, number, place) VALUES (?1, ?2, ?3, ?4)"

abbrev pub add_eight_facts_text : List ℕ
add_eight_facts_text = codes "INSERT INTO fact (kind, sender, number, place) VALUES (?1, ?2, ?3, ?4), (?5, ?6, ?7, ?8), (?9, ?10, ?11, ?12), (?13, ?14, ?15, ?16), (?17, ?18, ?19, ?20), (?21, ?22, ?23, ?24), (?25, ?26, ?27, ?28), (?29, ?30, ?31, ?32)"

abbrev pub delays_text : List ℕ
delays_text = codes "SELECT id, number FROM fact_delays"

abbrev pub delays_ids_text : List ℕ
delays_ids_text = codes "SELECT id FROM fact_delays WHERE number = ?1"

abbrev pub take_delays_text : List ℕ
take_delays_text = codes "DELETE FROM fact_delays WHERE id = ?1"

abbrev pub add_delays_text : List ℕ
add_delays_text = codes "INSERT INTO fact_delays (id, number) VALUES (1, ?1)"

abbrev pub load_text : List ℕ
load_text = codes "SELECT sender, number, body FROM mail WHERE sender = ?1 AND number >= ?2 AND number <= ?3"

abbrev pub next_text : List ℕ
next_text = codes "SELECT sender, number, body FROM mail WHERE sender = ?1 AND number >= ?2 ORDER BY number LIMIT 1"

-- ---- the definitions of the tables

abbrev pub create_office_text : List ℕ
create_office_text = codes "CREATE TABLE office (id INTEGER PRIMARY KEY, schema INTEGER NOT NULL, setup TEXT NOT NULL, finished INTEGER NOT NULL) STRICT"

abbrev pub create_mail_text : List ℕ
create_mail_text = codes "CREATE TABLE mail (sender INTEGER NOT NULL, number INTEGER NOT NULL, body BLOB NOT NULL, PRIMARY KEY (sender, number)) STRICT"

abbrev pub create_run_text : List ℕ
create_run_text = codes "CREATE TABLE run (number INTEGER PRIMARY KEY, excuses TEXT NOT NULL, updates TEXT NOT NULL) STRICT"

abbrev pub create_testing_source_text : List ℕ
create_testing_source_text = codes "CREATE TABLE testing_source (name TEXT NOT NULL PRIMARY KEY, sender INTEGER NOT NULL, number INTEGER NOT NULL, FOREIGN KEY (sender, number) REFERENCES mail (sender, number)) STRICT"

abbrev pub create_testing_row_text : List ℕ
create_testing_row_text = codes "CREATE TABLE testing_row (arch INTEGER NOT NULL, name TEXT NOT NULL, sender INTEGER NOT NULL, number INTEGER NOT NULL, place INTEGER NOT NULL, PRIMARY KEY (arch, name), FOREIGN KEY (sender, number) REFERENCES mail (sender, number)) STRICT"

abbrev pub create_fact_text : List ℕ
create_fact_text = codes "CREATE TABLE fact (kind INTEGER NOT NULL, sender INTEGER NOT NULL, number INTEGER NOT NULL, place INTEGER NOT NULL, PRIMARY KEY (kind, sender, number, place), FOREIGN KEY (sender, number) REFERENCES mail (sender, number)) STRICT"

abbrev pub create_fact_delays_text : List ℕ
create_fact_delays_text = codes "CREATE TABLE fact_delays (id INTEGER PRIMARY KEY, number INTEGER NOT NULL) STRICT"
