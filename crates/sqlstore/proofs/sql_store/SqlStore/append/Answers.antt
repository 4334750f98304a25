use Rattle.sqlstore.proofs.Changing.{was_honest as had_honest}
use Rattle.sqlstore.proofs.Committed.{due_at}
use Rattle.sqlstore.proofs.Lemmas.{Trees, additions, laid, stands_same, subst, sym, trees_of, was_honest, ∥∥₁_elim, ∥∥₁_map, ∥∥₁_prop}
use Rattle.sqlstore.specs.inner.Marks.{KeepsElsewhere, documents_at, ids_of}
use Rattle.sqlstore.proofs.sql_store.SqlStore.append.Goals as goal

pub append_rows-requires-clause-due : goal.append_rows-requires-clause-due
append_rows-requires-clause-due g c honest =
    let s = c.args.self.now in
    let mid = c.part_designs-designs.new.self in
    let stands = c.part_designs-designs.ensures.stands in
    due_at (additions c.args.writes.now) c.args.name.now c.args.number.now c.args.sequence (trees_of g.S.Store mid) (trees_of g.S.Store s) (stands_same g.S.Store s mid stands) (c.requires.due (was_honest g.S.Store s mid stands honest))

pub put_back_designs-requires : goal.put_back_designs-requires
put_back_designs-requires g c honest =
    let s = c.args.self.now in
    let mid = c.part_designs-designs.new.self in
    let done = c.append_rows.new.self in
    let n = c.args.number.now in
    let ids = ids_of c.args.writes.now in
    let parted = c.part_designs-designs.ensures in
    let before = had_honest g.S.Store mid done c.append_rows.ensures.moves honest in
    ∥∥₁_elim (laid g.S.Store s (was_honest g.S.Store s mid parted.stands before)) ∥∥₁_prop (λ l. ∥∥₁_elim (parted.designs before) ∥∥₁_prop (λ are. ∥∥₁_map (c.in_ok-append_rows.ensures.elsewhere honest) (λ keeps. (
      trees_of g.S.Store s,
      l,
      are,
      subst (λ (t : Trees). KeepsElsewhere ids (documents_at t n) (documents_at (trees_of g.S.Store done) n)) (stands_same g.S.Store s mid parted.stands) keeps,
    ))))

pub returns-clause-elsewhere : goal.returns-clause-elsewhere
returns-clause-elsewhere g c honest =
    let s = c.args.self.now in
    let mid = c.part_designs-designs.new.self in
    let done = c.append_rows.new.self in
    let end = c.put_back_designs.new.self in
    let n = c.args.number.now in
    let ids = ids_of c.args.writes.now in
    let stands = c.put_back_designs.ensures.stands in
    ∥∥₁_map (c.in_ok-append_rows.ensures.elsewhere (was_honest g.S.Store done end stands honest)) (λ keeps.
    subst (λ (t : Trees). KeepsElsewhere ids (documents_at (trees_of g.S.Store s) n) (documents_at t n)) (sym (stands_same g.S.Store done end stands))
    (subst (λ (t : Trees). KeepsElsewhere ids (documents_at t n) (documents_at (trees_of g.S.Store done) n)) (stands_same g.S.Store s mid c.part_designs-designs.ensures.stands) keeps))
