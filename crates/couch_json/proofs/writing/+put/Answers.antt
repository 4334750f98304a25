use Rattle.std.proofs.Common.{arith}
use Rattle.couch_json.proofs.Depths.{entry_below}
use Rattle.couch_json.proofs.value.Json.TheLaws.{the_size}
use Rattle.couch_json.proofs.Objects.{ascending}
use Rattle.couch_json.proofs.writing.+put.Goals as goal

pub put_members-returns-clause-names : goal.put_members-returns-clause-names
put_members-returns-clause-names t c = ascending c.args.members.now.entries c.as_slice-name-items.ensures.ordered

pub put_members-put_value-requires : goal.put_members-put_value-requires
put_members-put_value-requires t c =
    (omega (arith, c.decreases, entry_below the_size _ _ _ _ c.as_slice-name-items.ensures.entries c.loop-name-test.true c.loop-name-item.is), tt)
