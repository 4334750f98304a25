-- Documents that declare anew what they declare, one after another.
use Rattle.transactions.proofs.Common.{AllByRecursion, Bool, Database, IsAscending, IsStore, List, None, Option, Row, Trees, [], all-filter, ap, arith, cond, db_of, docs_tree, drop, false, filter, get_or, history_in_rows, id_of, is_row_of_document, length, length-map, map, refl, revs_tree, subst, sym, true, ℕ, ℤ, ◌++◌, ◌+◌, ◌<◌, ◌∙◌, ◌∷◌, ◌≡◌, ◌≢◌}
use Rattle.std.specs.Prelude.{◌&&◌, ◌||◌, bytes_eq, codes, if◌then◌else◌, nat_eq, option_and_then}
use Rattle.std.specs.Cmp.{first_so, second_so}
use Rattle.std.specs.List.{list_any, starts_with}
use Rattle.std.specs.Ordering.{int_eq}
use Rattle.std.proofs.Common.{ap₂, eqb-true}
use Rattle.std.proofs.lemmas.Bool.{false_from_ne_true}
use Rattle.sqlite_keyed.proofs.ListLemmas.{ascending-filter}
use Rattle.std.proofs.lemmas.List.{drop_more}
use Rattle.store.specs.Indexes.{declared_fields, index_fields_of, queried_document, winning_body}
use Rattle.tree.specs.DocumentId.{is_design_id}
use Rattle.tree.specs.History.{HistoryContent}
use Rattle.tables.proofs.Rests.{document_kept, length_at}
use Rattle.tables.proofs.Tables.{of_these}
use Rattle.tables.specs.Layout.{IsDocumentRow}
use Rattle.tables.specs.Listings.{has_id_between, is_between, named_document}
use Rattle.index.proofs.Alike.{alike}
use Rattle.index.proofs.Filled.{all_get, ascending-drop, get_map}
use Rattle.index.proofs.NewIndexes.{bare_indexed}
use Rattle.index.proofs.Rebuilt.{indexes_itself, indexes_then}
use Rattle.index.specs.Indexed.{AreIndexed}
use Rattle.index.specs.Meaning.{declares_in, sees_in, with_declared}
use Rattle.transactions.proofs.IndexRests.{nothing_there}
use Rattle.transactions.proofs.IndexSteps.{other_place, same_place, same_tables, store_still}
use Rattle.transactions.proofs.WinningRows.{nothing_written}
use Rattle.transactions.specs.Indexing.{IsRedeclared}
use Rattle.transactions.specs.Renewing.{AreRedeclared, AreToRedeclare, HasNoIndexes, IsCarriedOver, IsShownName, IsToRedeclare, without_documents}
use Rattle.transactions.proofs.Common.{AsksInside, CommitFault, Err, HasCleanDisk, Held, IfErr, IsUnwritten, Ok, OnOk, Result, state}
use Rattle.transactions.proofs.Committing.{asks_changed, unwritten_of}
use Rattle.sqlite_trees.specs.declared.store.Store.{Ghosts}
use Rattle.sqlite_value.specs.Order.{column}
use Rattle.tables.specs.Calls.{KeepsSchema, Stays}
use Rattle.tables.specs.Calls as calls
use Rattle.tables.specs.Layout.{IsFirstStore, IsRenewed}
use Rattle.tables.proofs.Rests.{contents_same}
use Rattle.index.specs.Steps.{AreFit, Steps}
use Rattle.index.proofs.Going.{went_on}

-- a document that is not a design document declares nothing
undesigned : (id : List ℕ) → is_design_id id ≡ false → (h : HistoryContent) (name : List ℕ) → index_fields_of id h name ≡ None
undesigned id plain h name = ap (λ b. if b then option_and_then (λ body. declared_fields body name) (winning_body h) else None) plain

hidden : {A : Type 0} (b : Bool) (o : Option A) → o ≡ None → (if b then None else o) ≡ None
hidden true o none = refl
hidden false o none = none

-- ---- one document

module _ (d : Row) (left : List Row) (a : Database) (shown : Row) (fit : IsToRedeclare shown d left a) where
  pub skipped : is_design_id (id_of d) ≡ false → AreRedeclared left a a
  skipped plain = record {
    indexed = alike (without_documents (declares_in a.trees) (d ∷ left)) (sees_in a.trees) a.trees fit.indexed (without_documents (declares_in a.trees) left) (sees_in a.trees) same (λ n id. refl);
    only = indexes_itself a;
  }
    where
      same : (n : ℤ) (other name : List ℕ) → without_documents (declares_in a.trees) (d ∷ left) n other name ≡ without_documents (declares_in a.trees) left n other name
      same n other name = by (is_row_of_document n other d) refl
        where
          by : (b : Bool) → is_row_of_document n other d ≡ b → (if (b || list_any (is_row_of_document n other) left) then None else declares_in a.trees n other name) ≡ without_documents (declares_in a.trees) left n other name
          by true is =
              let own = of_these n other d is in
              sym (hidden (list_any (is_row_of_document n other) left) (declares_in a.trees n other name) (undesigned other (ap is_design_id (sym own.1) ∙ plain) (history_in_rows (a.trees revs_tree) n other) name))
          by false is = refl

  pub redeclared : (b : Database) → IsRedeclared (without_documents (declares_in a.trees) (d ∷ left)) (sees_in a.trees) (db_of d) (id_of d) a b → AreRedeclared left a b
  redeclared b made = record {
    indexed = alike (with_declared (without_documents (declares_in a.trees) (d ∷ left)) (db_of d) (id_of d) (λ name. declares_in a.trees (db_of d) (id_of d) name)) (sees_in a.trees) b.trees made.indexed
        (without_documents (declares_in b.trees) left) (sees_in b.trees) same (λ n id. ap (λ rows. queried_document id (history_in_rows rows n id)) (sym revs));
    only = made.only;
  }
    where
      revs : b.trees revs_tree ≡ a.trees revs_tree
      revs = (same_tables a b fit.store.schema_is made.only).revs

      same : (n : ℤ) (other name : List ℕ)
          → with_declared (without_documents (declares_in a.trees) (d ∷ left)) (db_of d) (id_of d) (λ name. declares_in a.trees (db_of d) (id_of d) name) n other name ≡ without_documents (declares_in b.trees) left n other name
      same n other name = by (int_eq n (db_of d) && bytes_eq other (id_of d)) refl ∙ ap (λ rows. if list_any (is_row_of_document n other) left then None else index_fields_of other (history_in_rows rows n other) name) (sym revs)
        where
          by : (b : Bool) → (int_eq n (db_of d) && bytes_eq other (id_of d)) ≡ b
              → (if b then declares_in a.trees (db_of d) (id_of d) name else without_documents (declares_in a.trees) (d ∷ left) n other name) ≡ without_documents (declares_in a.trees) left n other name
          by true is =
              let place = same_place (db_of d) (id_of d) n other is in
              sym (ap₂ (λ (m : ℤ) i. without_documents (declares_in a.trees) left m i name) place.0 place.1 ∙ ap (λ b. if b then None else declares_in a.trees (db_of d) (id_of d) name) fit.apart)
          by false is = ap (λ b. if (b || list_any (is_row_of_document n other) left) then None else declares_in a.trees n other name) (other_place (db_of d) (id_of d) n other is)

-- ---- one document after another

-- documents that come later are others
docs_apart : (d : Row) (docs : List Row) → AllByRecursion (λ e. db_of d ≡ db_of e → id_of d ≢ id_of e) docs → list_any (is_row_of_document (db_of d) (id_of d)) docs ≡ false
docs_apart d [] all = refl
docs_apart d (e ∷ docs) all =
    ap (λ b. b || list_any (is_row_of_document (db_of d) (id_of d)) docs) (false_from_ne_true (is_row_of_document (db_of d) (id_of d) e) (λ same. let own = of_these (db_of d) (id_of d) e same in all.0 (sym own.0) (sym own.1)))
    ∙ docs_apart d docs all.1

module _ (rows docs : List Row) (i : ℕ) (s : Row) (below : i < length rows) (is : s ≡ get_or rows i s) (a b : Database) (fit : AreToRedeclare rows docs a) (made : AreRedeclared (drop i docs) a b) where
  abbrev d : Row
  d = get_or docs i []

  abbrev Apart : Row → Row → Type 0
  Apart p q = db_of p ≡ db_of q → id_of p ≢ id_of q

  within : i < length docs
  within = let size : length rows ≡ length docs = ap length fit.shown_is ∙ length-map docs named_document in omega (arith, below, size)

  cut : drop i docs ≡ d ∷ drop (i + 1) docs
  cut = drop_more docs i [] within

  -- the document that comes next declares nothing yet
  pub next_row : IsToRedeclare s d (drop (i + 1) docs) b
  next_row =
      let same = same_tables a b fit.store.schema_is made.only in
      record {
        store = store_still a b fit.store made.only;
        row = document_kept a.trees b.trees d (ap (λ l. length_at l (db_of d)) same.dbs) (ap (λ l. history_in_rows l (db_of d) (id_of d)) same.revs) (all_get (IsDocumentRow a.trees) docs i [] within fit.rows);
        shown_is = is ∙ ap (λ l. get_or l i s) fit.shown_is ∙ get_map named_document docs i [] s within;
        apart = docs_apart d (drop (i + 1) docs) (subst (IsAscending Apart) cut (ascending-drop Apart i docs fit.apart)).0;
        indexed = subst (λ l. AreIndexed (without_documents (declares_in b.trees) l) (sees_in b.trees) b.trees) cut made.indexed;
      }

  -- and then those behind it
  pub next_done : (e : Database) → AreRedeclared (drop (i + 1) docs) b e → AreRedeclared (drop (i + 1) docs) a e
  next_done e got = record { indexed = got.indexed; only = indexes_then a b e made.only got.only }

-- before the first of them is redeclared all is as it was
pub none_redeclared : (rows docs : List Row) (a : Database) → AreToRedeclare rows docs a → AreRedeclared docs a a
none_redeclared rows docs a fit = record { indexed = fit.indexed; only = indexes_itself a }

-- ---- all documents that may declare

behind : (prefix text : List ℕ) → starts_with nat_eq text prefix ≡ true → (rest : List ℕ) × (text ≡ prefix ++ rest)
behind [] text h = (text, refl)
behind (p ∷ prefix) [] h = cc
behind (p ∷ prefix) (t ∷ text) h =
    let more = behind prefix text (second_so (nat_eq p t) _ h) in
    let first : t ≡ p = sym (eqb-true p t (first_so (nat_eq p t) _ h)) in
    (more.0, λ i. first i ∷ more.1 i)

prefixed_between : (rest : List ℕ) → is_between [] (255 ∷ []) (codes "_design/" ++ rest) ≡ true
prefixed_between rest = refl

-- each id of a design document lies between the bounds
design_between : (id : List ℕ) → is_design_id id ≡ true → is_between [] (255 ∷ []) id ≡ true
design_between id h = let b = behind (codes "_design/") id (first_so _ _ h) in ap (is_between [] (255 ∷ [])) b.1 ∙ prefixed_between b.0

-- what is found among rows of a kind is found among all, if it is of that kind
any_kept : (p q : Row → Bool) → ((r : Row) → p r ≡ true → q r ≡ true) → (rows : List Row) → list_any p (filter q rows) ≡ false → filter p rows ≡ []
any_kept p q kind [] out = refl
any_kept p q kind (r ∷ rows) out = by (any_kept p q kind rows) (p r) refl (q r) refl out
  where
    by : (list_any p (filter q rows) ≡ false → filter p rows ≡ []) → (b : Bool) → p r ≡ b → (c : Bool) → q r ≡ c → list_any p (cond c (r ∷ filter q rows) (filter q rows)) ≡ false → cond b (r ∷ filter p rows) (filter p rows) ≡ []
    by more true own true other out = absurd (let yes : true ≡ false = sym (ap (λ b. b || list_any p (filter q rows)) own) ∙ out in cc)
    by more true own false other out = absurd (let yes : true ≡ false = sym (kind r own) ∙ other in cc)
    by more false own true other out = more (sym (ap (λ b. b || list_any p (filter q rows)) own) ∙ out)
    by more false own false other out = more out

-- the documents that are looked at: those whose ids are below the byte 255
abbrev pub of_ids : Row → Bool
of_ids = has_id_between [] (255 ∷ [])

-- without those documents nothing is declared
nothing_else : (a : Database) → IsStore a → (n : ℤ) (design name : List ℕ) → without_documents (declares_in a.trees) (filter of_ids (a.trees docs_tree)) n design name ≡ None
nothing_else a store n design name = by (list_any (is_row_of_document n design) (filter of_ids (a.trees docs_tree))) refl
  where
    declares : list_any (is_row_of_document n design) (filter of_ids (a.trees docs_tree)) ≡ false → (b : Bool) → is_design_id design ≡ b → declares_in a.trees n design name ≡ None
    declares out false is = undesigned design is (history_in_rows (a.trees revs_tree) n design) name
    declares out true is =
        let no_row = any_kept (is_row_of_document n design) of_ids (λ r own. ap (is_between [] (255 ∷ [])) (of_these n design r own).1 ∙ design_between design is) (a.trees docs_tree) out in
        ap (λ h. index_fields_of design h name) (nothing_written a.trees n design store.laid no_row) ∙ nothing_there design name

    by : (b : Bool) → list_any (is_row_of_document n design) (filter of_ids (a.trees docs_tree)) ≡ b → (if b then None else declares_in a.trees n design name) ≡ None
    by true is = refl
    by false is = declares is (is_design_id design) refl

pub all_to_redeclare : (shown : List Row) (a : Database) → HasNoIndexes a → shown ≡ map named_document (filter of_ids (a.trees docs_tree)) → AreToRedeclare shown (filter of_ids (a.trees docs_tree)) a
all_to_redeclare shown a fit is = record {
  store = fit.store;
  rows = all-filter (IsDocumentRow a.trees) of_ids (a.trees docs_tree) fit.store.laid.docs;
  apart = ascending-filter (λ c d. db_of c ≡ db_of d → id_of c ≢ id_of d) of_ids (a.trees docs_tree) fit.store.laid.ids_apart;
  shown_is = is;
  indexed = bare_indexed (without_documents (declares_in a.trees) (filter of_ids (a.trees docs_tree))) (sees_in a.trees) a.trees fit.decls fit.entries (nothing_else a fit.store);
}

-- ---- what is told of them

-- the row of a document, as it is named, is read
pub named_one : (trees : Trees) (d : Row) → IsDocumentRow trees d → IsShownName (named_document d)
named_one trees d k = record { width = refl; db = (db_of d, ap (λ x. column x 1) k.is); id = (id_of d, k.named, k.text, ap (λ x. column x 2) k.is) }

pub unwritten_as : {X : Type 0} (P : Type 0) (r : Result X CommitFault) (e : CommitFault) → r ≡ Err e → IsUnwritten P e → IfErr r (IsUnwritten P)
unwritten_as {X} P r e is h = subst (λ (q : Result X CommitFault). IfErr q (IsUnwritten P)) (sym is) h

module _ {S : Type 0} (g : Ghosts S) where
  -- a step, and then a refusal
  pub unwritten_then : {X E : Type 0} (F F' : Database → Type 0) (G : Database → Database → Type 0) (a b c : Held S) (x : X) (e : CommitFault) → Steps {E = E} g F G a b (Ok x) → AsksInside (state g b) (state g c)
      → (HasCleanDisk (state g b) → F (state g a).now → G (state g a).now (state g b).now → F' (state g b).now) → IsUnwritten (AreFit g F' b c) e → IsUnwritten (AreFit g F a c) e
  unwritten_then F F' G a b c x e p asks next h =
      unwritten_of (AreFit g F' b c) (AreFit g F a c) e
      (λ it. let was : HasCleanDisk (state g b) = omega (arith, asks.survives.clean, it.0) in (it.0, next was it.1 (p.ok was it.1))) h

  -- the first statements, as a step
  pub steps_renewed : {X E : Type 0} (a b : Held S) (r : Result X E) → (HasCleanDisk (state g b) → IsFirstStore (state g a).now → OnOk r (IsRenewed (state g a).now (state g b).now)) → KeepsSchema g a b r → Stays g a b r → calls.Proceeds g a b
      → Steps g IsFirstStore IsRenewed a b r
  steps_renewed a b r ok keeps inside proceeds = record {
    ok = ok;
    keeps = keeps;
    kept = λ clean has. proceeds.kept clean;
    goes_on = λ clean has up within. went_on r (state g a) (state g b) (inside clean);
    asks = asks_changed (state g a) (state g b) proceeds;
  }

-- then the file has no rows of indexes
pub renewed_bare : (a b : Database) → IsRenewed a b → HasNoIndexes b
renewed_bare a b h = record { store = h.store; decls = h.decls; entries = h.entries }

-- and gets those that it is to have
pub carried : (a b c : Database) → IsRenewed a b → AreRedeclared [] b c → IsCarriedOver a c
carried a b c made got = record {
  indexed = record { store = store_still b c made.store got.only; indexed = got.indexed };
  contents = contents_same b.trees c.trees (same_tables b c made.store.schema_is got.only) ∙ made.contents;
}
