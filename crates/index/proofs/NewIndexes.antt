-- New tables have the index rows that they are to have, which are none.
use Rattle.index.proofs.Common.{AreDeclarationRows, AreEntryRows, AreIndexed, Bool, Database, Declarations, Documents, HasIndexRows, IsIndexed, IsNew, List, None, Option, Trees, [], ap, declared_by, declares_in, decls_tree, entries_tree, has_entry, if◌then◌else◌, is_due, option_map, refl, sees_in, subst, sym, true, false, ℕ, ℤ, ◌∙◌, ◌≡◌}
use Rattle.std.specs.FinMap.{empty}
use Rattle.std.specs.Prelude.{option_and_then}
use Rattle.store.proofs.Winnings.{no_winner}
use Rattle.store.specs.Indexes.{declared_fields, held_by, index_fields_of}
use Rattle.store.specs.Pages.{live_rev, live_rev_by}
use Rattle.tables.specs.Rows.{history_in_rows}
use Rattle.tree.specs.DocumentId.{is_design_id}
use Rattle.tree.specs.Revision.{Revision}
use Rattle.tree.specs.declared.entry.Held.{Held}

none_declared : AreDeclarationRows []
none_declared = record { each = tt; rising = tt; apart = tt }

none_entered : AreEntryRows []
none_entered = record { each = tt; rising = tt; apart = tt }

pub new_laid : (db : Database) → IsNew db → HasIndexRows db
new_laid db h = record { schema_is = h.schema_is; decls = subst AreDeclarationRows (sym h.decls) none_declared; entries = subst AreEntryRows (sym h.entries) none_entered }

-- nothing is declared where nothing was written
nothing_declared : (design name : List ℕ) → index_fields_of design empty name ≡ None
nothing_declared design name = ap (λ (r : Option Revision). if is_design_id design then option_and_then (λ body. declared_fields body name) (option_map (λ (h : Held). h.body) (held_by empty r)) else None) no_live ∙ both (is_design_id design)
  where
    no_live : live_rev empty ≡ None
    no_live = ap (live_rev_by empty) no_winner

    both : (b : Bool) → ◌≡◌ {A = Option (List (List ℕ))} (if b then None else None) None
    both true = refl
    both false = refl

-- where nothing is declared there are no index rows
pub bare_indexed : (declares : Declarations) (sees : Documents) (trees : Trees) → trees decls_tree ≡ [] → trees entries_tree ≡ [] → ((db : ℤ) (design name : List ℕ) → declares db design name ≡ None) → AreIndexed declares sees trees
bare_indexed declares sees trees decls entries none = record {
  decls = subst AreDeclarationRows (sym decls) none_declared;
  declared = λ d design name. ap (λ rows. declared_by rows d design name) decls ∙ sym (none d design name);
  entries = record {
    laid = subst AreEntryRows (sym entries) none_entered;
    exact = λ n k id. ap (λ rows. has_entry rows n k id) entries ∙ sym (ap (λ rows. is_due sees rows n k id) decls);
  };
}

pub new_indexed : (db : Database) → IsNew db → IsIndexed db.trees
new_indexed db h =
    bare_indexed (declares_in db.trees) (sees_in db.trees) db.trees h.decls h.entries
    (λ d design name. ap (λ rows. index_fields_of design (history_in_rows rows d design) name) h.revs ∙ nothing_declared design name)
