-- What the numbers and hashes of a document's revisions say of its leaves.
use Rattle.sqlstore.proofs.Answering.{answered}
use Rattle.sqlstore.proofs.Common.{AllByRecursion, Answers, Bool, Coded-set, Damaged, Err, Ghosts, IsLost, IsRead, Memory, Result, SqlStore, StoreFault, is_honest, refl, subst, sym, IsWellFormed, IsPermutation, List, Option, Revision, Row, Some, Trees, [], all-filter, all_map, ap, coded_list, coded_option, filter, history_in_rows, is_row_of_document, map, revs_tree, ℕ, ℤ, ◌∙◌, ◌∷◌, ◌≡◌}
use Rattle.sqlite_trees.proofs.ListLemmas.{all-permutation}
use Rattle.tables.proofs.Laid.{shown_hashes}
use Rattle.tables.proofs.SinglePath.{single_shown}
use Rattle.tables.specs.Rows.{shown_hash}
use Rattle.tables.specs.Shown.{IsShownHash}
use Rattle.tree.specs.History.{leaves}
use Rattle.tree.specs.Revision.{revision_code}
use Rattle.sqlstore.specs.inner.Reading.{EndsPath}

pub revs_set : IsSet (Option (List Revision))
revs_set = Coded-set (coded_option (coded_list revision_code))

pub hashes_intact : (trees : Trees) (p : Row → Bool) (rows : List Row) → IsWellFormed trees → IsPermutation (map shown_hash (filter p (trees revs_tree))) rows → AllByRecursion IsShownHash rows
hashes_intact trees p rows l same = all-permutation IsShownHash _ rows same (all_map IsShownHash shown_hash _ (all-filter _ p _ (shown_hashes trees l)))

-- the revision of the last row is the only leaf where its number is that of the rows
pub path_end_alone : (trees : Trees) (db : ℤ) (id : List ℕ) (rows : List Row) (rev : Revision) → IsWellFormed trees → IsPermutation (map shown_hash (filter (is_row_of_document db id) (trees revs_tree))) rows → EndsPath rev rows
    → Some (leaves (history_in_rows (trees revs_tree) db id)) ≡ Some (rev ∷ [])
path_end_alone trees db id rows rev l same ends =
    ap Some (single_shown trees l db id rows _ ends.row same ends.last (ap (λ (r : Revision). r.number) ends.named ∙ ends.counted) ∙ ap (λ (r : Revision). r ∷ []) ends.named)

-- a row that was not read, told by what reads the rows
pub leaf_rows_lost : {S : Type 0} (g : Ghosts S) (old new : SqlStore S g) {X A : Type 0} (view : X → A) (defined : Option A) (intact : Type 0) (fault : StoreFault) (r : Result X StoreFault)
    → r ≡ Err fault → IsLost intact fault → (is_honest g new → ¬ ¬ intact) → Answers g old new view defined r
leaf_rows_lost g old new {X} view defined intact fault r is lost whole =
    subst (Answers g {X = X} old new view defined) (sym is) (answered g old new view defined defined intact (Err fault) (by fault lost) (λ honest. (whole honest, refl)))
  where
    by : (f : StoreFault) → IsLost intact f → IsRead {X = X} view defined intact (Err f)
    by Memory h = tt
    by Damaged h = h
    by f h = absurd h
