-- A pass that is done owes no leaf, where known revisions are revisions.
use Rattle.std.proofs.Common.{◌∙◌, false, ◌≡◌, inl, inr, ℕ, List, [], ◌∷◌, ◌++◌, true, Option, Some, None, refl, sym, ap}
use Rattle.std.specs.Prelude.{IsTrue, is_some}
use Rattle.std.proofs.lemmas.Bool.{false≢true}
use Rattle.std.specs.FinMap.{get, get-empty}
use Rattle.std.specs.Cmp.{first_so}
use Rattle.std.specs.Cmp.Lexicographic.{slice_cmp}
use Rattle.std.specs.List.{slice_get}
use Rattle.std.specs.Ordering.{nat_cmp}
use Rattle.tree.specs.History.{is_known, is_leaf}
use Rattle.tree.specs.Revision.{Revision, is_revision, revision_cmp}
use Rattle.tree.specs.declared.entry.Entry.{Entry}
use Rattle.store.specs.Contents.{Contents, new_database}
use Rattle.store.specs.Database.{Database, Document, history_at, history_in}
use Rattle.node.specs.Runs.{Steps}
use Rattle.node.specs.Step.{Serving}
use Rattle.world.specs.Happening.{Happening, Sight}
use Rattle.world.specs.Network.{Network}
use Rattle.world.specs.Playing.{Plays}
use Rattle.world.specs.Service.{Handling, alike}
use Rattle.replication.specs.Finished.{ListsLastIn, database_at, database_of_node, found_or_new}
use Rattle.replication.specs.Runs.{Run}
use Rattle.replication.proofs.Settlements.{done_owes}
use Rattle.replication.specs.Replicable.{AreAllWritable, DonePassesOweNoLeaf}
use Rattle.replication.specs.Sound.{AreWritable}
use Rattle.replication.proofs.Replicables.{runs_keep_writable}

-- the events up to the last list
up_to : {S : Type 0} (handling : Handling S) (n : ℕ) (hs : List Happening) (old : Network S) (seen : List Sight) (new : Network S) (p : Plays handling old hs seen new) (listed : Network S)
    → ListsLastIn handling n hs old seen new p listed → Run handling old listed
up_to handling n [] old seen new p listed h = absurd h
up_to handling n (h ∷ hs) old seen new (first, others, between, here, later, order) listed (inl is) = record { happenings = []; seen = []; played = (refl, is.0) }
up_to handling n (h ∷ hs) old seen new (first, others, between, here, later, order) listed (inr further) =
    let rest = up_to handling n hs between others new later listed further in
    record { happenings = h ∷ rest.happenings; seen = first ++ rest.seen; played = (first, rest.seen, between, here, rest.played, refl) }

-- each leaf of a database of such a node is a revision
leaf_writable : (nodes : List (Serving Contents)) → AreAllWritable nodes → (place : ℕ) (name id : List ℕ) (r : Revision) → IsTrue (is_leaf (history_at (database_at nodes place name) id) r) → IsTrue (is_revision r)
leaf_writable nodes all place name id r leaf = by (slice_get nodes place) refl leaf
  where
    known : (db : Database) → IsTrue (is_leaf (history_at db id) r) → is_known (history_at db id) r ≡ true
    known db l = first_so (is_known (history_at db id) r) _ l

    none : is_known (history_at new_database id) r ≡ false
    none =
        ap (λ (d : Option Document). is_known (history_in d) r) (get-empty {X = Document} (slice_cmp nat_cmp) id) ∙ ap (λ (e : Option Entry). is_some e) (get-empty {X = Entry} revision_cmp r)

    found : (db : Option Database) → ((d : Database) → db ≡ Some d → AreWritable d) → IsTrue (is_leaf (history_at (found_or_new db) id) r) → IsTrue (is_revision r)
    found None rep l = absurd (false≢true (sym none ∙ known new_database l))
    found (Some d) rep l = rep d refl id r (known d l)

    by : (o : Option (Serving Contents)) → slice_get nodes place ≡ o → IsTrue (is_leaf (history_at (found_or_new (database_of_node o name)) id) r) → IsTrue (is_revision r)
    by None at l = found None (λ d e. absurd (cc)) l
    by (Some node) at l = found (get node.store name) (λ d e. all place node at name d e) l

pub done_owe_no_leaf : DonePassesOweNoLeaf
done_owe_no_leaf n t start listed now later run more p q begins all kept lists at done further stands id r leaf above =
    let before = up_to (alike Steps) n run.happenings start run.seen now run.played listed lists in
    done_owes n t start listed now later run more p q begins kept lists at done further stands id r
    (leaf_writable listed.nodes (runs_keep_writable start listed before all) t.from t.pass.configuration.source_db id r leaf) leaf above
