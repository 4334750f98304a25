-- Changes of tables, one after the other, and their commit.
use Rattle.transactions.proofs.Common.{AreDatabaseRows, AreKeyed, Bool, Changes, Clears, Database, Err, IsStore, IsTrue, KeepsCounts, List, Ok, OnOk, Replaces, Result, Row, Shows, State, [], arith, dbs_tree, docs_tree, false, filter, has_number, is_row_of_database, is_row_of_document, local_cells, locals_tree, not, revs_tree, subst, sym, with_cells, ℕ, ℤ, ◌∙◌, ◌≡◌}
use Rattle.tables.proofs.Kept.{keyed-filter}
use Rattle.tables.proofs.Rests.{leaves}
use Rattle.tables.proofs.Tables.{databases_laid, locals_keyed, revs_keyed}

-- what holds of the rows of a transaction holds of what is committed
pub committed : {X E : Type 0} (r : Result X E) (P : Database → Type 0) (a b : State) → OnOk r (IsTrue a.in_transaction × Shows a b a.now a.now false × KeepsCounts a b × (b.marks ≡ [])) → P a.now → OnOk r (P b.now)
committed (Ok x) P a b h p = subst P (sym h.1.now_is) p
committed (Err e) P a b h p = tt

-- the rows left of a local document are fit for another
pub left_keyed : (a b : Database) (p : Row → Bool) → IsStore a → Changes locals_tree (filter p (a.trees locals_tree)) a b → AreKeyed (b.trees locals_tree)
left_keyed a b p store out = subst AreKeyed (sym out.rows) (keyed-filter p (a.trees locals_tree) (locals_keyed a.trees store.laid))

pub replaced : {X E : Type 0} (r : Result X E) (db : ℤ) (id : List ℕ) (number : ℕ) (body : List ℕ) (a b c : Database) → Changes locals_tree (filter (λ r. not (is_row_of_document db id r)) (a.trees locals_tree)) a b
    → OnOk r (Changes locals_tree (with_cells (b.trees locals_tree) (local_cells db id number body)) b c) → OnOk r (Replaces db id number body a c)
replaced (Ok x) db id number body a b c out put = record { mid = b; out = out; put = put }
replaced (Err e) db id number body a b c out put = tt

-- the tables of a database that is taken out, each fit for its turn
pub record Cleared (db : ℤ) (a b c d : Database) : Type 0 where
  pub documents : Changes docs_tree (filter (λ r. not (is_row_of_database db r)) (a.trees docs_tree)) a b
  pub revisions : Changes revs_tree (filter (λ r. not (is_row_of_database db r)) (b.trees revs_tree)) b c
  pub locals : Changes locals_tree (filter (λ r. not (is_row_of_database db r)) (c.trees locals_tree)) c d

pub revs_fit : (db : ℤ) (a b : Database) → IsStore a → Changes docs_tree (filter (λ r. not (is_row_of_database db r)) (a.trees docs_tree)) a b → AreKeyed (b.trees revs_tree)
revs_fit db a b store docs = subst AreKeyed (sym ((leaves docs_tree _ a b store.schema_is docs).revs (omega arith))) (revs_keyed a.trees store.laid)

pub locals_fit : (db : ℤ) (a b c : Database) → IsStore a → Changes docs_tree (filter (λ r. not (is_row_of_database db r)) (a.trees docs_tree)) a b → Changes revs_tree (filter (λ r. not (is_row_of_database db r)) (b.trees revs_tree)) b c → AreKeyed (c.trees locals_tree)
locals_fit db a b c store docs revs =
    subst AreKeyed (sym ((leaves revs_tree _ b c (docs.schema ∙ store.schema_is) revs).locals (omega arith) ∙ (leaves docs_tree _ a b store.schema_is docs).locals (omega arith))) (locals_keyed a.trees store.laid)

pub dbs_fit : (db : ℤ) (a b c d : Database) → IsStore a → Cleared db a b c d → AreDatabaseRows (d.trees dbs_tree)
dbs_fit db a b c d store t =
    subst AreDatabaseRows
    (sym ((leaves locals_tree _ c d (t.revisions.schema ∙ t.documents.schema ∙ store.schema_is) t.locals).dbs (omega arith) ∙ (leaves revs_tree _ b c (t.documents.schema ∙ store.schema_is) t.revisions).dbs (omega arith)
    ∙ (leaves docs_tree _ a b store.schema_is t.documents).dbs (omega arith)))
    (databases_laid a.trees store.laid)

pub cleared : {X E : Type 0} (r : Result X E) (db : ℤ) (a b c d e : Database) → Cleared db a b c d → OnOk r (Changes dbs_tree (filter (λ r. not (has_number db r)) (d.trees dbs_tree)) d e) → OnOk r (Clears db a e)
cleared (Ok x) db a b c d e t row = record { undocumented = b; unwritten = c; bare = d; documents = t.documents; revisions = t.revisions; locals = t.locals; row = row }
cleared (Err x) db a b c d e t row = tt
