-- What statements of a transaction leave, one after another.
use Rattle.index.proofs.Common.{AllByRecursion, AreDeclarationRows, AreEntriesOf, AreIndexed, Changes, ChangesOnly, Database, Declarations, Documents, Entries, Err, HasEntries, IfErr, IfOk, IsTrue, List, Ok, OnOk, Proceeds, Result, Row, Schema, State, StaysInside, all_both, all_of, ap, arith, declared_by, decls_tree, entries_tree, inl, is_due, keeps_itself, refl, schema, subst, sym, true, ℤ, ℕ, ◌∙◌, ◌≡◌, ◌≢◌}
use Rattle.index.proofs.EntryChanges.{entries_as}
use Rattle.tables.proofs.Rests.{leaves}

-- a transaction that stayed open went on
pub went_on : {X E : Type 0} (r : Result X E) (a b : State) → OnOk r (StaysInside a b) → OnOk r (IsTrue b.is_open × (b.in_transaction ≡ true))
went_on (Ok x) a b h = (h.is_open, h.inside)
went_on (Err e) a b h = tt

pub on_ok : {X E P Q : Type 0} (r : Result X E) → (P → Q) → OnOk r P → OnOk r Q
on_ok (Ok x) f p = f p
on_ok (Err e) f p = tt

pub if_ok : {X E : Type 0} {P Q : X → Type 0} (r : Result X E) → ((x : X) → P x → Q x) → IfOk r P → IfOk r Q
if_ok (Ok x) f p = f x p
if_ok (Err e) f p = tt

pub if_err : {X E : Type 0} {P Q : E → Type 0} (r : Result X E) → ((e : E) → P e → Q e) → IfErr r P → IfErr r Q
if_err (Ok x) f p = tt
if_err (Err e) f p = f e p

pub proceeds_itself : (a : State) → Proceeds a a
proceeds_itself a = record {
  kept = λ clean. keeps_itself a;
  survives = record { clean = omega arith; shield = λ h. h; counts = omega arith; limit = refl; closes = λ clean up. inl up; crash = λ clean db may. inl may };
}

-- ---- one table alone

pub only_itself : (tree : ℕ) (a : Database) → ChangesOnly tree a a
only_itself tree a = record { schema = refl; others = all_of (λ t. t.tree ≢ tree → a.trees t.tree ≡ a.trees t.tree) (λ t apart. refl) a.schema.tables }

pub only_changed : (tree : ℕ) (rows : List Row) (a b : Database) → Changes tree rows a b → ChangesOnly tree a b
only_changed tree rows a b h = record { schema = h.schema; others = h.others }

pub only_then : (tree : ℕ) (a b c : Database) → ChangesOnly tree a b → ChangesOnly tree b c → ChangesOnly tree a c
only_then tree a b c h k =
    let later = subst (λ (s : Schema). AllByRecursion (λ t. t.tree ≢ tree → c.trees t.tree ≡ b.trees t.tree) s.tables) h.schema k.others in
    record {
      schema = k.schema ∙ h.schema;
      others = all_both (λ t. t.tree ≢ tree → b.trees t.tree ≡ a.trees t.tree) (λ t. t.tree ≢ tree → c.trees t.tree ≡ b.trees t.tree) (λ t. t.tree ≢ tree → c.trees t.tree ≡ a.trees t.tree)
          (λ t before after apart. after apart ∙ before apart) a.schema.tables h.others later;
    }

-- ---- entries

pub has_as : (due other : Entries) (a b : Database) → ((m : ℤ) (l i : List ℕ) → due m l i ≡ other m l i) → HasEntries due a b → HasEntries other a b
has_as due other a b same h = record { entries = entries_as due other (b.trees entries_tree) same h.entries; only = h.only }

pub has_after : (due : Entries) (a b c : Database) → ChangesOnly entries_tree a b → HasEntries due b c → HasEntries due a c
has_after due a b c before h = record { entries = h.entries; only = only_then entries_tree a b c before h.only }

pub has_itself : (due : Entries) (a : Database) → AreEntriesOf due (a.trees entries_tree) → HasEntries due a a
has_itself due a h = record { entries = h; only = only_itself entries_tree a }

pub has_changed : (due : Entries) (rows : List Row) (a b : Database) → AreEntriesOf due rows → Changes entries_tree rows a b → HasEntries due a b
has_changed due rows a b h change = record { entries = subst (AreEntriesOf due) (sym change.rows) h; only = only_changed entries_tree rows a b change }

-- ---- both tables

-- what changes the entries alone leaves the declarations
pub declarations_stay : (a b : Database) → a.schema ≡ schema → ChangesOnly entries_tree a b → b.trees decls_tree ≡ a.trees decls_tree
declarations_stay a b has h = (leaves entries_tree (b.trees entries_tree) a b has (record { schema = h.schema; rows = refl; others = h.others })).decls (omega arith)

-- the entries of the same declarations over other documents
pub refreshed : (declares : Declarations) (sees after : Documents) (a b : Database) → a.schema ≡ schema → AreIndexed declares sees a.trees → HasEntries (is_due after (a.trees decls_tree)) a b
    → AreIndexed declares after b.trees × ChangesOnly entries_tree a b
refreshed declares sees after a b has h made =
    let same = declarations_stay a b has made.only in (
      record {
        decls = subst AreDeclarationRows (sym same) h.decls;
        declared = λ d design name. ap (λ rows. declared_by rows d design name) same ∙ h.declared d design name;
        entries = record { laid = made.entries.laid; exact = λ m k i. made.entries.exact m k i ∙ sym (ap (λ rows. is_due after rows m k i) same) };
      },
      made.only,
    )
