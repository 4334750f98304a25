use Rattle.index.proofs.Common.{AllByRecursion, List, ap, filter, map, state, subst, sym, ℕ, ◌∙◌, ◌≡◌}
use Rattle.index.proofs.Going.{if_err, if_ok}
use Rattle.index.proofs.SeenDocuments.{live_is, revision_intact, winner_live, winner_seen}
use Rattle.index.proofs.ShownDeclarations.{refused_of}
use Rattle.index.specs.inner.Seen.{HasLive, shown_by_rows}
use Rattle.couch_json.specs.View.{view}
use Rattle.store.specs.Indexes.{queried_document}
use Rattle.tables.specs.Rows.{history_in_rows, id_of, is_revision_of, shown_revision}
use Rattle.tables.specs.Schema.{revs_tree}
use Rattle.tables.specs.Shown.{IsShownRevision}
use Rattle.tree.specs.Revision.{Revision}
use Rattle.index.proofs.seen.find_live.Goals as goal

pub returns-clause-finds : goal.returns-clause-finds
returns-clause-finds g c clean store d k own listed live plain =
    let trees = (state g.S.Store c.args.tx.now.conn.now).now.trees in
    let db = c.args.db.now in
    let q = c.args.listed.now.winner in
    let rows_at = λ (i : List ℕ) (r : Revision). map shown_revision (filter (is_revision_of db i r) (trees revs_tree)) in
    let named : c.as_bytes-id.result.now ≡ c.args.listed.now.id = c.as_bytes-id.ensures.value ∙ c.as_str.ensures.text in
    let read : c.deref.result.now ≡ rows_at c.args.listed.now.id q = c.deref.ensures.value ∙ c.in_ok-rows.ensures.reads.found clean store
    ∙ (λ j. map shown_revision (filter (is_revision_of db (named j) (record { number = c.number.ensures.value j; hash = c.hash.ensures.value j })) (trees revs_tree))) in
    let rows : c.deref.result.now ≡ rows_at (id_of d) q = read ∙ ap (λ i. rows_at i q) listed.id in
    let seen = winner_seen trees store.laid d k q listed.winner live plain in
    let shown : shown_by_rows (id_of d) q (rows_at (id_of d) q) ≡ queried_document (id_of d) (history_in_rows (trees revs_tree) db (id_of d)) =
    subst (λ n. shown_by_rows (id_of d) q (map shown_revision (filter (is_revision_of n (id_of d) q) (trees revs_tree))) ≡ queried_document (id_of d) (history_in_rows (trees revs_tree) n (id_of d))) own seen in
    if_ok c.show_first.result
    (λ found is. live_is c.args.listed.now.id q c.deref.result.now (view found) is ∙ (λ j. shown_by_rows (listed.id j) q (rows j)) ∙ shown) c.show_first.ensures.ok

pub returns-clause-err : goal.returns-clause-err
returns-clause-err g c d =
    let trees = (state g.S.Store c.args.tx.now.conn.now).now.trees in
    let db = c.args.db.now in
    let q = c.args.listed.now.winner in
    let rows_at = λ (n : _) (i : List ℕ) (r : Revision). map shown_revision (filter (is_revision_of n i r) (trees revs_tree)) in
    let named : c.as_bytes-id.result.now ≡ c.args.listed.now.id = c.as_bytes-id.ensures.value ∙ c.as_str.ensures.text in
    if_err c.show_first.result
    (λ e. refused_of (AllByRecursion IsShownRevision c.deref.result.now × HasLive c.deref.result.now) _ e
    (λ it.
    let up = it.1 (c.in_ok-rows.ensures.reads.served it.0) in
    let found = c.deref.ensures.value ∙ c.in_ok-rows.ensures.reads.found it.0 up.0 in
    let read : c.deref.result.now ≡ rows_at db c.args.listed.now.id q = found
    ∙ (λ j. map shown_revision (filter (is_revision_of db (named j) (record { number = c.number.ensures.value j; hash = c.hash.ensures.value j })) (trees revs_tree))) in
    let rows = read ∙ ap (λ i. rows_at db i q) up.3.id ∙ ap (λ n. rows_at n (id_of d) q) (sym up.2) in (
      revision_intact trees _ c.deref.result.now up.0.laid found,
      subst HasLive (sym rows) (winner_live trees up.0.laid d up.1 q up.3.winner up.4),
    )))
    c.show_first.ensures.err
