-- What a reader of a store answers, from what it read, and what it leaves.
use Rattle.sqlstore.proofs.Common.{AllByRecursion, Answers, Bool, Damaged, DatabaseNumbers, Err, FoundValues, Ghosts, IsDatabaseRow, IsKnown, IsPermutation, IsWellFormed, IsRead, IsShownDatabase, IsShownLocal, IsStanding, IsTrue, KnownDatabase, List, Memory, NoDatabase, None, NumberValues, Ok, OnlyReads, Option, Result, Row, Some, SqlStore, Stands, StoreFault, Trees, WasStore, [], all-filter, all-slice_get, all_map, ap, arith, contents_in, contents_of, database_of_row, dbs_tree, false, filter, found_in, found_shown, get, inl, inr, is_honest, is_named, is_row_of_document, is_security, length, local_at, local_of, local_shown, locals_tree, map, next_number, numbers_in, option_map, refl, shown_database, shown_local, slice_get, state, subst, sym, trees_of, ℕ, ∥∥₁_elim, ∥∥₁_map, ∥∥₁_prop, ◌+◌, ◌<◌, ◌^◌, ◌∙◌, ◌∷◌, ◌≡◌, ◌≤◌}
use Rattle.store.specs.Causes.{HasFailed}
use Rattle.store.specs.Database.{Database}
use Rattle.sqlite_sql.specs.Ops.{fits_i64}
use Rattle.couch_json.specs.View.{view}
use Rattle.tables.proofs.Laid.{shown_databases, shown_locals}
use Rattle.tables.proofs.Lookups.{database_found, local_found}
use Rattle.tables.proofs.RowMaps.{mapped_some}

-- what is said of the first of the shown rows is what is said of the first row
pub first_shown : {A : Type 0} (show : Row → Row) (read : Row → A) (said : Row → A) → ((r : Row) → read (show r) ≡ said r) → (rows : List Row) → option_map said (slice_get rows 0) ≡ option_map read (slice_get (map show rows) 0)
first_shown show read said same [] = refl
first_shown show read said same (r ∷ rows) = ap Some (sym (same r))

module _ {S : Type 0} (g : Ghosts S) (old new : SqlStore S g) where
  pub answered : {X A : Type 0} (view : X → A) (defined said : Option A) (intact : Type 0) (r : Result X StoreFault) → IsRead view said intact r → (is_honest g new → (¬ ¬ intact) × (defined ≡ said)) → Answers g old new view defined r
  answered view defined said intact (Ok x) h is = λ honest. (is honest).1 ∙ h
  answered view defined said intact (Err Memory) h is = tt
  answered view defined said intact (Err NoDatabase) h is = λ honest. (is honest).1 ∙ h
  answered view defined said intact (Err Damaged) h is = λ honest. (is honest).0 h
  answered view defined said intact (Err fault) h is = absurd h

  -- a fault of one answer is one of another that is defined where the first is
  pub refused : {X Y A B : Type 0} (view : X → A) (other : Y → B) (defined : Option A) (further : Option B) (fault : StoreFault) → (defined ≡ None → further ≡ None)
      → Answers g {X = X} old new view defined (Err fault) → Answers g {X = Y} old new other further (Err fault)
  refused view other defined further NoDatabase none h = λ honest. none (h honest)
  refused view other defined further fault none h = h

  pub told_none : {X A : Type 0} (view : X → A) (defined : Option A) (fault : StoreFault) → fault ≡ NoDatabase → Answers g {X = X} old new view defined (Err fault) → is_honest g new → defined ≡ None
  told_none {X} view defined fault is h = subst (λ f. Answers g {X = X} old new view defined (Err f)) is h

  -- what stands was honest
  pub was_honest : Stands g old new → is_honest g new → is_honest g old
  was_honest s honest = (s.clean honest.0, subst (WasStore g) s.origin honest.1)

  pub same_contents : Stands g old new → contents_of g new ≡ contents_of g old
  same_contents s = ap (λ h. contents_in (state g h).now.trees) s.last

  pub reads : Stands g old new → OnlyReads g old new
  reads s = record {
    goes_on = record {
      counted = s.counted;
      honest = was_honest s;
      clean = s.clean;
      steady = λ honest clean. (clean, subst (WasStore g) (sym s.origin) honest.1);
    };
    same = λ honest. same_contents s;
    room = λ honest name ws lacks. subst (λ h. (db : Database) × (get (contents_in (state g h).now.trees) name ≡ Some db) × ¬ (db.length + length ws < 2 ^ 63)) s.last lacks;
    numbers = λ honest lacks. subst (λ h. fits_i64 (next_number ((state g h).now.trees dbs_tree)) ≡ false) s.last lacks;
  }

module _ {S : Type 0} (g : Ghosts S) where
  pub stands_then : (a b c : SqlStore S g) → Stands g a b → Stands g b c → Stands g a c
  stands_then a b c p q = record { origin = q.origin ∙ p.origin; last = q.last ∙ p.last; counted = omega (arith, p.counted, q.counted); clean = λ clean. p.clean (q.clean clean) }

  pub failed_later : (a b c : ℕ) → a ≤ b → HasFailed b c → HasFailed a c
  failed_later a b c up (inl h) = inl (omega (arith, up, h))
  failed_later a b c up (inr h) = inr h

  -- the rows of an honest store are laid out
  pub laid : (s : SqlStore S g) → is_honest g s → ∥ IsWellFormed (trees_of g s) ∥₁
  laid s honest = ∥∥₁_map (s.standing.held honest.0 honest.1) (λ holds. holds.store.laid)

  -- what is read of the rows of a document, which a query gave in any order
  pub answered_unordered : {X A : Type 0} (s end : SqlStore S g) (view : X → A) (defined said : Option A) (intact : Type 0) (shown : List ℕ → List Row) (key id : List ℕ) (rows : List Row) (r : Result X StoreFault) → IsRead view said intact r → Stands g s end
      → (is_honest g end → ∥ IsPermutation (shown key) rows ∥₁) → key ≡ id → IsProp (defined ≡ said) → (IsWellFormed (trees_of g s) → IsPermutation (shown id) rows → intact × (defined ≡ said)) → Answers g s end view defined r
  answered_unordered s end view defined said intact shown key id rows r read stands found is set so = answered g s end view defined said intact r read (λ honest.
      let all : ∥ intact × (defined ≡ said) ∥₁ =
      ∥∥₁_elim (laid s (was_honest g s end stands honest)) ∥∥₁_prop (λ l. ∥∥₁_map (found honest) (λ same. so l (subst (λ k. IsPermutation (shown k) rows) is same))) in (
        (λ none. ∥∥₁_elim all (λ p q. absurd p) (λ it. none it.0)),
        ∥∥₁_elim all set (λ it. it.1),
      ))

-- the rows that the query of a database shows are intact, and say what is found
pub database_read : {S : Type 0} (g : Ghosts S) (s : SqlStore S g) (name : List ℕ) (rows : List Row) → is_honest g s → rows ≡ map shown_database (filter (is_named name) (trees_of g s dbs_tree))
    → (¬ ¬ AllByRecursion IsShownDatabase rows) × (option_map found_in (slice_get (filter (is_named name) (trees_of g s dbs_tree)) 0) ≡ option_map found_shown (slice_get rows 0))
database_read g s name rows honest is = (
  λ none. ∥∥₁_elim (laid g s honest) (λ p q. absurd p) (λ l. none (subst (AllByRecursion IsShownDatabase) (sym is) (all_map IsShownDatabase shown_database _ (all-filter _ (is_named name) _ (shown_databases _ l))))),
  first_shown shown_database found_shown found_in (λ r. refl) _ ∙ ap (λ l. option_map found_shown (slice_get l 0)) (sym is),
)

-- the row of a database that is found, what is read of it, and the database
pub record IsThere {A : Type 0} (read : Row → A) (trees : Trees) (name : List ℕ) (k : A) : Type 0 where
  pub row : Row
  pub first : slice_get (filter (is_named name) (trees dbs_tree)) 0 ≡ Some row
  pub values : read row ≡ k
  pub database : get (contents_in trees) name ≡ Some (database_of_row trees row)

module _ {A : Type 0} (read : Row → A) (trees : Trees) (name : List ℕ) where
  abbrev first : Option Row
  first = slice_get (filter (is_named name) (trees dbs_tree)) 0

  pub there : (k : A) → option_map read first ≡ Some k → IsThere read trees name k
  there k h =
      let r = mapped_some read first k h in
      record { row = r.0; first = r.1; values = r.2; database = database_found trees name ∙ ap (option_map (database_of_row trees)) r.1 }

  -- where no row is found there is no database
  pub absent : option_map read first ≡ None → get (contents_in trees) name ≡ None
  absent h = database_found trees name ∙ go first h
    where
      go : (o : Option Row) → option_map read o ≡ None → option_map (database_of_row trees) o ≡ None
      go None h = refl
      go (Some r) h = absurd (cc)

  -- what is read of the row of a name is read of the one that is found
  pub also : {B : Type 0} (f : A → B) (k : A) → option_map read first ≡ Some k → option_map (λ r. f (read r)) first ≡ Some (f k)
  also f k h =
      let r = mapped_some read first k h in
      ap (option_map (λ x. f (read x))) r.1 ∙ ap (λ v. Some (f v)) r.2

-- the security object of a database that is found
pub security_there : (trees : Trees) (name : List ℕ) (k : FoundValues) → IsThere found_in trees name k → option_map (λ (db : Database). db.security) (get (contents_in trees) name) ≡ Some k.1
security_there trees name k t = ap (option_map (λ (db : Database). db.security)) t.database ∙ ap (λ (v : FoundValues). Some v.1) t.values

pub security_intact : (trees : Trees) (name : List ℕ) (k : FoundValues) → IsWellFormed trees → IsThere found_in trees name k → IsTrue (is_security k.1)
security_intact trees name k l t = subst (λ (v : FoundValues). IsTrue (is_security v.1)) t.values (all-slice_get IsDatabaseRow _ 0 t.row t.first (all-filter IsDatabaseRow (is_named name) _ l.dbs)).security

-- a local document of a database that is found
pub local_there : (trees : Trees) (name id : List ℕ) (k : NumberValues) (rows : List Row) → IsThere numbers_in trees name k → rows ≡ map shown_local (filter (is_row_of_document k.0 id) (trees locals_tree))
    → option_map (λ (db : Database). local_at db id) (get (contents_in trees) name) ≡ Some (option_map local_shown (slice_get rows 0))
local_there trees name id k rows t is =
    ap (option_map (λ (db : Database). local_at db id)) t.database
    ∙ ap Some (local_found trees t.row id ∙ ap (λ (v : NumberValues). option_map local_of (slice_get (filter (is_row_of_document v.0 id) (trees locals_tree)) 0)) t.values
    ∙ first_shown shown_local local_shown local_of (λ r. refl) _ ∙ ap (λ l. option_map local_shown (slice_get l 0)) (sym is))

pub local_intact : (trees : Trees) (p : Row → Bool) (rows : List Row) → IsWellFormed trees → rows ≡ map shown_local (filter p (trees locals_tree)) → AllByRecursion IsShownLocal rows
local_intact trees p rows l is = subst (AllByRecursion IsShownLocal) (sym is) (all_map IsShownLocal shown_local _ (all-filter _ p _ (shown_locals trees l)))

-- what a reader of a database answers where none was found
pub not_found : {S X Y A B : Type 0} (g : Ghosts S) (old new : SqlStore S g) (name : List ℕ) (read : Row → A) (shown : X → A) (other : Y → B) (f : Database → B) (fault : StoreFault) (r : Result Y StoreFault)
    → Answers g {X = X} old new shown (option_map read (slice_get (filter (is_named name) (trees_of g old dbs_tree)) 0)) (Err fault) → r ≡ Err fault → Answers g old new other (option_map f (get (contents_of g old) name)) r
not_found {X = X} g old new name read shown other f fault r h is =
    subst (Answers g old new other (option_map f (get (contents_of g old) name))) (sym is) (refused g old new {X = X} shown other _ _ fault (λ none. ap (option_map f) (absent read (trees_of g old) name none)) h)

-- a change of a database says that there is none only where there is none
pub missing : {S X : Type 0} (g : Ghosts S) (old new : SqlStore S g) (name : List ℕ) (r : Result X StoreFault) (fault : StoreFault)
    → Answers g {X = DatabaseNumbers} old new (λ d. (d.number, d.sequence)) (option_map numbers_in (slice_get (filter (is_named name) (trees_of g old dbs_tree)) 0)) (Err fault)
    → r ≡ Err fault → r ≡ Err NoDatabase → is_honest g new → get (contents_of g old) name ≡ None
missing g old new name r fault h is told honest =
    absent numbers_in (trees_of g old) name (told_none g old new {X = DatabaseNumbers} (λ d. (d.number, d.sequence)) _ fault (cc) h honest)

-- what was found of a database may be known of it
pub known_so : {S : Type 0} (g : Ghosts S) (old new : SqlStore S g) (known : Option KnownDatabase) → Stands g old new → (is_honest g new → ∥ IsKnown (trees_of g old) known ∥₁) → IsStanding g new.conn new.origin.value new.last.value known new.earlier.items
known_so g old new known s found = record {
  idle = new.standing.idle;
  unlimited = new.standing.unlimited;
  held = new.standing.held;
  known_so = λ clean was. subst (λ h. ∥ IsKnown (state g h).now.trees known ∥₁) (sym s.last) (found (clean, was));
  earlier_so = new.standing.earlier_so;
}
