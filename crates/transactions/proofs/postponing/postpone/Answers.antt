use Rattle.transactions.proofs.Lemmas.{subst, sym, ◌∙◌, ap}
use Rattle.transactions.proofs.Common.{slice_cmp}
use Rattle.std.specs.BTreeSet.{insert_key}
use Rattle.std.specs.Ordering.{nat_cmp}
use Rattle.transactions.proofs.Postponed.{with_id}
use Rattle.transactions.specs.Indexing.{IsWithId}
use Rattle.transactions.proofs.postponing.postpone.Goals as goal

pub returns : goal.returns
returns c =
    let ids = c.args.postponed.now.keys in
    let id = c.args.id.now in
    subst (IsWithId id ids) (sym (c.in_ok-insert.ensures.keys ∙ ap (insert_key (slice_cmp nat_cmp) ids) c.in_ok-copy.ensures)) (with_id id ids)
