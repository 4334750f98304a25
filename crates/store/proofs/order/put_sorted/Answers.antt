use Rattle.std.proofs.Common.{◌∙◌}
use Rattle.store.proofs.Orders.{insert_entry-put}
use Rattle.store.proofs.order.put_sorted.Goals as goal

pub returns : goal.returns
returns g c = record { ok = c.in_ok-insert.ensures.entries ∙ insert_entry-put g.K.Ord.cmp c.args.key c.args.value c.args.entries.now.entries }
