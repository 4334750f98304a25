-- What the texts that make the tables mean.
use Rattle.tables.proofs.Common.{AddsTable, CreateTable, Database, Err, IsEmpty, IsPlain, List, None, Ok, OnOk, Ran, Result, Schema, State, Table, Writes, [], ap, codes, command_of, everything, false, refl, runs_as, statement_of, subst, sym, understood, ℕ, ◌∙◌, ◌≡◌}
use Rattle.sqlite_catalog.specs.Change.{created, next_tree, KeepsRows}
use Rattle.sqlite.specs.Does.{Tally, lacks_sequence}
use Rattle.tables.proofs.Writes.{same_value, went}
use Rattle.sqlite_resolve.specs.Compile.{table_defined_by}
use Rattle.tables.specs.Schema as tables

-- the text, in this schema, makes this table
pub record Creates (schema : Schema) (text : List ℕ) (table : Table) : Type 0 where
  pub command : command_of (understood schema text) ≡ CreateTable
  pub whole : statement_of text (understood schema text) ≡ text
  pub defined : table_defined_by text ≡ Ok table
  pub plain : IsPlain (understood schema text)
  pub uncounted : lacks_sequence (created schema table) ≡ false

abbrev pub meta_text : List ℕ
meta_text = codes "CREATE TABLE meta (version INTEGER NOT NULL) STRICT"

abbrev pub dbs_text : List ℕ
dbs_text = codes "CREATE TABLE dbs (num INTEGER PRIMARY KEY, name BLOB NOT NULL UNIQUE, sec TEXT NOT NULL, seq INTEGER NOT NULL) STRICT"

abbrev pub docs_text : List ℕ
docs_text = codes "CREATE TABLE docs (db INTEGER NOT NULL, id BLOB NOT NULL, seq INTEGER NOT NULL, winner TEXT NOT NULL, del INTEGER NOT NULL, PRIMARY KEY (db, id), UNIQUE (db, seq)) STRICT"

abbrev pub revs_text : List ℕ
revs_text = codes "CREATE TABLE revs (db INTEGER NOT NULL, id BLOB NOT NULL, n INTEGER NOT NULL, hash TEXT NOT NULL, parent TEXT, held INTEGER NOT NULL, del INTEGER NOT NULL, body TEXT, PRIMARY KEY (db, id, n, hash)) STRICT"

abbrev pub locals_text : List ℕ
locals_text = codes "CREATE TABLE locals (db INTEGER NOT NULL, id BLOB NOT NULL, n INTEGER NOT NULL, body TEXT NOT NULL, PRIMARY KEY (db, id)) STRICT"

abbrev pub decls_text : List ℕ
decls_text = codes "CREATE TABLE decls (num INTEGER PRIMARY KEY, db INTEGER NOT NULL, ddoc BLOB NOT NULL, name BLOB NOT NULL, fields TEXT NOT NULL, UNIQUE (db, ddoc, name)) STRICT"

abbrev pub entries_text : List ℕ
entries_text = codes "CREATE TABLE entries (decl INTEGER NOT NULL, k BLOB NOT NULL, id BLOB NOT NULL, PRIMARY KEY (decl, k, id)) STRICT"

pub meta_made : Creates tables.no_schema meta_text tables.meta
unfolding understood everything
meta_made = record { command = refl; whole = refl; defined = refl; plain = (refl, refl); uncounted = refl }

pub dbs_made : Creates tables.schema_1 dbs_text tables.dbs
unfolding understood everything
dbs_made = record { command = refl; whole = refl; defined = refl; plain = (refl, refl); uncounted = refl }

pub docs_made : Creates tables.schema_2 docs_text tables.docs
unfolding understood everything
docs_made = record { command = refl; whole = refl; defined = refl; plain = (refl, refl); uncounted = refl }

pub revs_made : Creates tables.schema_3 revs_text tables.revs
unfolding understood everything
revs_made = record { command = refl; whole = refl; defined = refl; plain = (refl, refl); uncounted = refl }

pub locals_made : Creates tables.schema_4 locals_text tables.locals
unfolding understood everything
locals_made = record { command = refl; whole = refl; defined = refl; plain = (refl, refl); uncounted = refl }

pub decls_made : Creates tables.schema_5 decls_text tables.decls
unfolding understood everything
decls_made = record { command = refl; whole = refl; defined = refl; plain = (refl, refl); uncounted = refl }

pub entries_made : Creates tables.schema_6 entries_text tables.entries
unfolding understood everything
entries_made = record { command = refl; whole = refl; defined = refl; plain = (refl, refl); uncounted = refl }

-- a text that makes a table makes it
pub adds_table : (schema : Schema) (text : List ℕ) (table : Table) (old new : State) → Creates schema text table → old.now.schema ≡ schema → Ran text [] old new → AddsTable schema table old.now new.now
adds_table schema text table old new creates has ran =
    let w = subst (λ t. Writes old new None CreateTable t [] ran.0) creates.whole (runs_as text [] old new schema has CreateTable creates.command creates.plain ran.0 ran.1) in
    let all = went w.changed in
    let first = went all.1 in
    let made = first.1 in
    let both : Ok made.table ≡ Ok table = sym made.defined ∙ creates.defined in
    let same : made.table ≡ table = cc in
    let is : first.0.schema ≡ created schema table = made.is ∙ ap (λ s. created s made.table) has ∙ ap (created schema) same in
    let plain : lacks_sequence first.0.schema ≡ false = ap lacks_sequence is ∙ creates.uncounted in
    let now : new.now ≡ first.0 = ap (λ (p : Tally × Database). p.1) (same_value all.2) ∙ same_value (rw plain at first.2) in
    record {
      schema_is = ap (λ (d : Database). d.schema) now ∙ is;
      empty = ap (λ (d : Database). d.trees (next_tree schema)) now ∙ subst (λ s. first.0.trees (next_tree s) ≡ []) has made.empty;
      others = subst (λ (d : Database). KeepsRows schema.tables old.now.trees d.trees) (sym now) (subst (λ (s : Schema). KeepsRows s.tables old.now.trees first.0.trees) has made.others);
    }

-- the seven texts, one after the other where there was no table, make all
pub makes_all : (a b c d e f g h : State) → a.now.schema ≡ tables.no_schema → Ran meta_text [] a b → Ran dbs_text [] b c → Ran docs_text [] c d → Ran revs_text [] d e → Ran locals_text [] e f
    → Ran decls_text [] f g → Ran entries_text [] g h → IsEmpty h.now
makes_all a b c d e f g h has first second third fourth fifth sixth seventh =
    let one = adds_table tables.no_schema meta_text tables.meta a b meta_made has first in
    let two = adds_table tables.schema_1 dbs_text tables.dbs b c dbs_made one.schema_is second in
    let three = adds_table tables.schema_2 docs_text tables.docs c d docs_made two.schema_is third in
    let four = adds_table tables.schema_3 revs_text tables.revs d e revs_made three.schema_is fourth in
    let five = adds_table tables.schema_4 locals_text tables.locals e f locals_made four.schema_is fifth in
    let six = adds_table tables.schema_5 decls_text tables.decls f g decls_made five.schema_is sixth in
    let seven = adds_table tables.schema_6 entries_text tables.entries g h entries_made six.schema_is seventh in
    record {
      schema_is = seven.schema_is;
      meta = seven.others.0 ∙ six.others.0 ∙ five.others.0 ∙ four.others.0 ∙ three.others.0 ∙ two.others.0 ∙ one.empty;
      dbs = seven.others.1.0 ∙ six.others.1.0 ∙ five.others.1.0 ∙ four.others.1.0 ∙ three.others.1.0 ∙ two.empty;
      docs = seven.others.1.1.0 ∙ six.others.1.1.0 ∙ five.others.1.1.0 ∙ four.others.1.1.0 ∙ three.empty;
      revs = seven.others.1.1.1.0 ∙ six.others.1.1.1.0 ∙ five.others.1.1.1.0 ∙ four.empty;
      locals = seven.others.1.1.1.1.0 ∙ six.others.1.1.1.1.0 ∙ five.empty;
      decls = seven.others.1.1.1.1.1.0 ∙ six.empty;
      entries = seven.empty;
    }

pub makes_if_ran : {X E : Type 0} (a b c d e f g h : State) (r : Result X E) → a.now.schema ≡ tables.no_schema → Ran meta_text [] a b → Ran dbs_text [] b c → Ran docs_text [] c d → Ran revs_text [] d e
    → Ran locals_text [] e f → Ran decls_text [] f g → OnOk r (Ran entries_text [] g h) → OnOk r (IsEmpty h.now)
makes_if_ran a b c d e f g h (Err x) has first second third fourth fifth sixth seventh = tt
makes_if_ran a b c d e f g h (Ok x) has first second third fourth fifth sixth seventh = makes_all a b c d e f g h has first second third fourth fifth sixth seventh
