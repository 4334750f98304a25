use Rattle.sqlstore.proofs.Changing.{was_honest as had_honest}
use Rattle.sqlstore.proofs.Committed.{due_at}
use Rattle.sqlstore.proofs.Common.{IfSome}
use Rattle.sqlstore.proofs.Lemmas.{Option, Trees, additions, stands_same, stands_then, subst, sym, trees_of, was_honest, ∥∥₁_elim, ∥∥₁_map, ∥∥₁_prop}
use Rattle.ranks.specs.Counts.{AreRanksOf}
use Rattle.sqlstore.specs.inner.Marks.{AreCounts, AreMarks, KeepsElsewhere, documents_at, ids_of, live_keys}
use Rattle.sqlstore.specs.declared.sql_store.marking.CountedMarks.{CountedMarks}
use Rattle.sqlstore.proofs.sql_store.SqlStore.append_counted.Goals as goal

pub append-requires-clause-due : goal.append-requires-clause-due
append-requires-clause-due g c honest =
    let s = c.args.self.now in
    let first = c.find_counted-counted.new.self in
    let mid = c.find_counted_keys-keys.new.self in
    let stands = stands_then g.S.Store s first mid c.find_counted-counted.ensures.stands c.find_counted_keys-keys.ensures.stands in
    due_at (additions c.args.writes.now) c.args.name.now c.args.number.now c.args.sequence (trees_of g.S.Store mid) (trees_of g.S.Store s) (stands_same g.S.Store s mid stands) (c.requires.due (was_honest g.S.Store s mid stands honest))

pub move_index_ranks-requires : goal.move_index_ranks-requires
move_index_ranks-requires g c honest =
    let first = c.find_counted-counted.new.self in
    let mid = c.find_counted_keys-keys.new.self in
    let done = c.append.new.self in
    let n = c.args.number.now in
    let ids = ids_of c.args.writes.now in
    let found = c.find_counted_keys-keys.ensures in
    ∥∥₁_elim (found.counted (had_honest g.S.Store mid done c.append.ensures.moves honest)) ∥∥₁_prop (λ given. ∥∥₁_map (c.in_ok-append.ensures.elsewhere honest) (λ keeps. (
      documents_at (trees_of g.S.Store first) n,
      given,
      subst (λ (t : Trees). KeepsElsewhere ids (documents_at t n) (documents_at (trees_of g.S.Store done) n)) (stands_same g.S.Store first mid found.stands) keeps,
    )))

pub move_counts-requires : goal.move_counts-requires
move_counts-requires g c honest =
    let s = c.args.self.now in
    let first = c.find_counted-counted.new.self in
    let mid = c.find_counted_keys-keys.new.self in
    let done = c.append.new.self in
    let end = c.move_index_ranks.new.self in
    let n = c.args.number.now in
    let ids = ids_of c.args.writes.now in
    let old = documents_at (trees_of g.S.Store s) n in
    let stands = stands_then g.S.Store s first mid c.find_counted-counted.ensures.stands c.find_counted_keys-keys.ensures.stands in
    let after = was_honest g.S.Store done end c.move_index_ranks.ensures.stands honest in
    let before = was_honest g.S.Store first mid c.find_counted_keys-keys.ensures.stands (had_honest g.S.Store mid done c.append.ensures.moves after) in
    let counted = subst (λ (o : Option CountedMarks). IfSome o (λ k. ∥ AreCounts k.counts old × AreMarks k.marks old × IfSome k.ranks (λ r. AreRanksOf r (live_keys old)) ∥₁)) c.in-Some.is (c.find_counted-counted.ensures.counted before) in
    ∥∥₁_elim counted ∥∥₁_prop (λ given. ∥∥₁_map (c.in_ok-append.ensures.elsewhere after) (λ keeps. (
      old,
      given.0,
      given.1,
      given.2,
      subst (λ (t : Trees). KeepsElsewhere ids old (documents_at t n)) (sym (stands_same g.S.Store done end c.move_index_ranks.ensures.stands))
          (subst (λ (t : Trees). KeepsElsewhere ids (documents_at t n) (documents_at (trees_of g.S.Store done) n)) (stands_same g.S.Store s mid stands) keeps),
    )))
