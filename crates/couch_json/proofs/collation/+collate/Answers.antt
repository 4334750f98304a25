use Rattle.std.proofs.Common.{arith}
use Rattle.couch_json.proofs.Depths.{entry_below}
use Rattle.couch_json.proofs.value.Json.TheLaws.{the_size}
use Rattle.couch_json.proofs.collation.+collate.Goals as goal

pub collate_members-collate-order-requires : goal.collate_members-collate-order-requires
collate_members-collate-order-requires t c =
    (omega (arith, c.decreases, entry_below the_size _ _ _ _ c.as_slice-name-items.ensures.entries c.loop-name-test.true c.loop-name-item.is), tt)
