use Rattle.std.specs.FinMap as finite
use Rattle.sqlstore.proofs.Lemmas.{rules, trees_of, ◌∙◌}
use Rattle.sqlstore.proofs.SeenKeys.{key_made, seen_there}
use Rattle.sqlstore.specs.inner.Marks.{documents_at}
use Rattle.sqlstore.specs.inner.Seen.{values_seen}
use Rattle.sqlstore.proofs.sql_store.SqlStore.find_key_change.Goals as goal

pub returns-clause-written : goal.returns-clause-written
returns-clause-written g c honest =
    let id = c.args.id.now in
    seen_there id (values_seen c.in_ok-seen.seen) (finite.get (documents_at (trees_of g.S.Store c.args.self.now) c.args.number.now) id) (c.in_ok-seen.ensures.seen honest) (search rules)

pub returns-clause-is : goal.returns-clause-is
returns-clause-is g c honest =
    let id = c.args.id.now in
    c.in_ok-is.ensures ∙ key_made id (values_seen c.in_ok-seen.seen) (finite.get (documents_at (trees_of g.S.Store c.args.self.now) c.args.number.now) id) (c.in_ok-seen.ensures.seen honest) c.args.fields.now
