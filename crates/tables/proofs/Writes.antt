-- What an INSERT of values, a DELETE and an UPDATE make of their table.
use Rattle.tables.proofs.Common.{Above, AllByRecursion, Applies, Changes, Chosen, Database, Delete, Edit, Err, Given, Insert, IsPlain, List, MatchBool, None, Ok, OnOk, Option, Program, Ran, Result, Row, Schema, Some, State, Table, Term, Trees, Update, Values, Writes, [], ap, append-nil, ap₂, command_of, cond, drop, edit_of, edited, eval_all, false, ids_of, inl, inr, int_cmp, is_lt, length, mode_of, one_step, reads_listing, refl, runs_as, slice_get, subst, sym, taken_by, understood, value_rows, without_all, ℕ, ℤ, ◌++◌, ◌-◌, ◌/◌, ◌∙◌, ◌∷◌, ◌≡◌, ◌≢◌, ◌⊎◌}
use Rattle.sqlite_schema.specs.declared.schema.Keys.TheVariants.{Enforced}
use Rattle.sqlite_schema.specs.declared.command.Command.{Command}
use Rattle.sqlite_rules.specs.Action.{works}
use Rattle.sqlite.specs.Effect.{Answers}
use Rattle.sqlite.specs.Does.{Tally, Does, AtPlace, OnRows, Concludes}
use Rattle.sqlite.specs.Rows.{Part, Written, Task, Edited, stamped, rowids_for, count_of, sequence, Counts, CountsIn, Gives}

-- a table whose writes set off nothing
pub record IsPlainTable (schema : Schema) (at : ℕ) (table : Table) : Type 0 where
  pub there : slice_get schema.tables at ≡ Some table
  pub uncounted : table.is_counted ≡ false
  pub unstamped : table.stamps.terms ≡ []
  pub alone : (olds news : List Row) → works schema Enforced 0 table.tree olds news ≡ []

-- the text is this command
pub record IsCommand (schema : Schema) (text : List ℕ) (command : Command) : Type 0 where
  pub is : command_of (understood schema text) ≡ command
  pub plain : IsPlain (understood schema text)
  pub unlisted : reads_listing schema text ≡ false

-- a part that gave a value did not stop on the way
pub went : {B E R : Type 0} {b : B} {Stops : E → Type 0} → ((stop : E) × Stops stop × (Ok b ≡ Err stop)) ⊎ R → R
went (inl stopped) = absurd (let e = stopped.2 in cc)
went (inr on) = on

pub same_value : {B E : Type 0} {a b : B} → ◌≡◌ {A = Result B E} (Ok a) (Ok b) → a ≡ b
same_value e = cc

pub at_place : {X A : Type 0} (P : X → Part A) (o : Option X) (x : X) (out : _) → o ≡ Some x → AtPlace P o out → P x out
at_place P o x out is h = subst (λ q. AtPlace P q out) is h

abbrev pub task_of : State → Schema → Table → Row → Task
task_of old schema table params = record { limit = old.step_limit; keys = Enforced; schema = schema; table = table; params = params }

-- the database with these trees
abbrev with_trees : Schema → Trees → Database
with_trees schema trees = record { schema = schema; trees = trees }

-- no row counts for a table without AUTOINCREMENT
uncounts : (task : Task) (mid : Trees) (counter : Option Row) (top : ℤ) (next : Trees) → task.table.is_counted ≡ false → Counts task mid counter top (Ok next) → next ≡ mid
uncounts task mid counter top next is h =
    same_value (subst (λ c. MatchBool (cond c (is_lt (int_cmp (count_of counter) top)) false) (CountsIn task mid counter top (sequence task.schema) (Ok next)) (Gives mid (Ok next))) is h)

changed : (schema : Schema) (tree : ℕ) (rows : List Row) (old new : Database) (mid : Trees) → old.schema ≡ schema → new ≡ with_trees schema mid → mid tree ≡ rows
    → AllByRecursion (λ t. t.tree ≢ tree → mid t.tree ≡ old.trees t.tree) schema.tables → Changes tree rows old new
changed schema tree rows old new mid has is now others = record {
  schema = ap (λ (d : Database). d.schema) is ∙ sym has;
  rows = ap (λ (d : Database). d.trees tree) is ∙ now;
  others = subst (λ (s : Schema). AllByRecursion (λ t. t.tree ≢ tree → new.trees t.tree ≡ old.trees t.tree) s.tables) (sym has)
      (subst (λ (d : Database). AllByRecursion (λ t. t.tree ≢ tree → d.trees t.tree ≡ old.trees t.tree) schema.tables) (sym is) others);
}

module _ (schema : Schema) (at : ℕ) (table : Table) (it : IsPlainTable schema at table) (old new : State) (has : old.now.schema ≡ schema) (params : Row) where
  abbrev task : Task
  task = task_of old schema table params

  -- the schema stays as the rows are written
  concluded : (w : Written) (tally : Tally) → Concludes task (mode_of old) None w (Ok (tally, new.now)) → new.now ≡ with_trees schema w.trees
  concluded w tally h =
      let tested = went h in
      let shown = went tested.2 in
      ap (λ (p : Tally × Database). p.1) (same_value shown.2)

  -- an edit that is made sets off nothing
  applied : (edit : Edit) (mid : Trees) → edit.table ≡ table → Edited schema Enforced old.now.trees edit (Ok mid) → Applies schema Enforced old.now.trees edit mid
  applied edit mid same h = one_step schema Enforced old.now.trees mid edit (subst (λ (t : Table). works schema Enforced 0 t.tree (taken_by old.now.trees edit) edit.news ≡ []) (sym same) (it.alone _ _)) h

  module _ (text : List ℕ) (count : ℕ) where
    -- what the values of an INSERT make of the table
    pub inserted : (terms : List Term) (width : ℕ) → Writes old new None (Insert at (Values terms width)) text params count
        → Changes table.tree (edited old.now.trees (edit_of old.now.trees table [] Chosen 0 (value_rows params width (length terms / width) terms))) old.now new.now
    inserted terms width w =
        let command = Insert at (Values terms width) in
        let db = old.now.trees in
        let done = at_place (λ t. OnRows (task_of old schema t params) (mode_of old) None command db) (slice_get schema.tables at) table _ it.there
        (subst (λ (s : Schema). Does old.step_limit (mode_of old) params (with_trees s db) text None command (Ok (w.tally, new.now))) has w.changed) in
        let written = went done in
        let now = concluded written.0 w.tally written.2 in
        let given = went written.1 in
        let counter = went given.2 in
        let put = went counter.2 in
        let counted = went put.2 in
        let edit = edit_of db table [] (rowids_for table (count_of counter.0)) 0 given.0 in
        let after : written.0.trees ≡ put.0 = ap (λ (x : Written). x.trees) (same_value counted.2) ∙ uncounts task put.0 counter.0 _ counted.0 it.uncounted counted.1 in
        let does = applied edit put.0 refl put.1 in
        let stamps : stamped table params ≡ params = ap (λ ts. params ++ eval_all ts (drop (length params - length table.stamps.formats) params ∷ [])) it.unstamped ∙ append-nil params in
        let rows : given.0 ≡ value_rows params width (length terms / width) terms = given.1.1 ∙ ap (λ ps. value_rows ps width (length terms / width) terms) stamps in
        let ids : rowids_for table (count_of counter.0) ≡ Chosen = ap (λ b. cond b (Above (count_of counter.0)) Chosen) it.uncounted in
        let same : edit ≡ edit_of db table [] Chosen 0 (value_rows params width (length terms / width) terms) = ap₂ (λ how rs. edit_of db table [] how 0 rs) ids rows in
        changed schema table.tree _ old.now new.now put.0 has (now ∙ ap (with_trees schema) after) (does.rows ∙ ap (edited db) same) does.tables

    -- what a DELETE makes of it, by the rows that its query answers
    pub deleted : (q : Program) → Writes old new None (Delete at q) text params count
        → (rows : List Row) × Answers (with_trees schema old.now.trees) q params rows × Changes table.tree (without_all (old.now.trees table.tree) (ids_of rows)) old.now new.now
    deleted q w =
        let command = Delete at q in
        let db = old.now.trees in
        let done = at_place (λ t. OnRows (task_of old schema t params) (mode_of old) None command db) (slice_get schema.tables at) table _ it.there
        (subst (λ (s : Schema). Does old.step_limit (mode_of old) params (with_trees s db) text None command (Ok (w.tally, new.now))) has w.changed) in
        let written = went done in
        let now = concluded written.0 w.tally written.2 in
        let asked = went written.1 in
        let put = went asked.2 in
        let edit = edit_of db table (ids_of asked.0) Given 0 [] in
        let after : written.0.trees ≡ put.0 = ap (λ (x : Written). x.trees) (same_value put.2) in
        let does = applied edit put.0 refl put.1 in
        (asked.0, asked.1, changed schema table.tree _ old.now new.now put.0 has (now ∙ ap (with_trees schema) after) does.rows does.tables)

    -- what an UPDATE makes of it, likewise
    pub updated : (q : Program) → Writes old new None (Update at q) text params count
        → (rows : List Row) × Answers (with_trees schema old.now.trees) q params rows
        × Changes table.tree (edited old.now.trees (edit_of old.now.trees table (ids_of rows) Given 1 rows)) old.now new.now
    updated q w =
        let command = Update at q in
        let db = old.now.trees in
        let done = at_place (λ t. OnRows (task_of old schema t params) (mode_of old) None command db) (slice_get schema.tables at) table _ it.there
        (subst (λ (s : Schema). Does old.step_limit (mode_of old) params (with_trees s db) text None command (Ok (w.tally, new.now))) has w.changed) in
        let written = went done in
        let now = concluded written.0 w.tally written.2 in
        let asked = went written.1 in
        let put = went asked.2 in
        let edit = edit_of db table (ids_of asked.0) Given 1 asked.0 in
        let after : written.0.trees ≡ put.0 = ap (λ (x : Written). x.trees) (same_value put.2) in
        let does = applied edit put.0 refl put.1 in
        (asked.0, asked.1, changed schema table.tree _ old.now new.now put.0 has (now ∙ ap (with_trees schema) after) does.rows does.tables)

-- the same of a text that is such a command
pub inserts : (schema : Schema) (at : ℕ) (table : Table) → IsPlainTable schema at table → (old new : State) → old.now.schema ≡ schema → (text : List ℕ) (terms : List Term) (width : ℕ)
    → IsCommand schema text (Insert at (Values terms width)) → (params : Row) → Ran text params old new
    → Changes table.tree (edited old.now.trees (edit_of old.now.trees table [] Chosen 0 (value_rows params width (length terms / width) terms))) old.now new.now
inserts schema at table it old new has text terms width command params ran =
    inserted schema at table it old new has params _ ran.0 terms width (runs_as text params old new schema has (Insert at (Values terms width)) command.is command.plain ran.0 ran.1)

pub deletes : (schema : Schema) (at : ℕ) (table : Table) → IsPlainTable schema at table → (old new : State) → old.now.schema ≡ schema → (text : List ℕ) (q : Program)
    → IsCommand schema text (Delete at q) → (params : Row) → Ran text params old new
    → (rows : List Row) × Answers (record { schema = schema; trees = old.now.trees }) q params rows × Changes table.tree (without_all (old.now.trees table.tree) (ids_of rows)) old.now new.now
deletes schema at table it old new has text q command params ran =
    deleted schema at table it old new has params _ ran.0 q (runs_as text params old new schema has (Delete at q) command.is command.plain ran.0 ran.1)

pub updates : (schema : Schema) (at : ℕ) (table : Table) → IsPlainTable schema at table → (old new : State) → old.now.schema ≡ schema → (text : List ℕ) (q : Program)
    → IsCommand schema text (Update at q) → (params : Row) → Ran text params old new
    → (rows : List Row) × Answers (record { schema = schema; trees = old.now.trees }) q params rows
    × Changes table.tree (edited old.now.trees (edit_of old.now.trees table (ids_of rows) Given 1 rows)) old.now new.now
updates schema at table it old new has text q command params ran =
    updated schema at table it old new has params _ ran.0 q (runs_as text params old new schema has (Update at q) command.is command.plain ran.0 ran.1)

-- whatever the rows are, the schema stays
module _ {X E : Type 0} (schema : Schema) (at : ℕ) (table : Table) (it : IsPlainTable schema at table) (old new : State) (has : old.now.schema ≡ schema) {text : List ℕ} where
  pub insert_stays : {terms : List Term} {width : ℕ} → IsCommand schema text (Insert at (Values terms width)) → (params : Row) (r : Result X E) → OnOk r (Ran text params old new) → OnOk r (new.now.schema ≡ schema)
  insert_stays command params (Err e) h = tt
  insert_stays {terms} {width} command params (Ok x) h = (inserts schema at table it old new has text terms width command params h).schema ∙ has

  pub delete_stays : {q : Program} → IsCommand schema text (Delete at q) → (params : Row) (r : Result X E) → OnOk r (Ran text params old new) → OnOk r (new.now.schema ≡ schema)
  delete_stays command params (Err e) h = tt
  delete_stays {q} command params (Ok x) h = (deletes schema at table it old new has text q command params h).2.schema ∙ has

  pub update_stays : {q : Program} → IsCommand schema text (Update at q) → (params : Row) (r : Result X E) → OnOk r (Ran text params old new) → OnOk r (new.now.schema ≡ schema)
  update_stays command params (Err e) h = tt
  update_stays {q} command params (Ok x) h = (updates schema at table it old new has text q command params h).2.schema ∙ has
