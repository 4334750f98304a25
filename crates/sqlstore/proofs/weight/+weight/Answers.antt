use Rattle.std.proofs.Common.{arith}
use Rattle.couch_json.proofs.Depths.{entry_below}
use Rattle.couch_json.proofs.value.Json.TheLaws.{the_size}
use Rattle.sqlstore.proofs.weight.+weight.Goals as goal

pub left_beside_members-left_beside-left-requires : goal.left_beside_members-left_beside-left-requires
left_beside_members-left_beside-left-requires t c =
    (omega (arith, c.decreases, entry_below the_size _ _ _ _ c.as_slice-name-items.ensures.entries c.loop-name-test.true c.loop-name-item.is), tt)
