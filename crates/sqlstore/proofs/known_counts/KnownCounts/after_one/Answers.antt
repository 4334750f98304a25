use Rattle.std.proofs.Common.{IfSome, true, false, ◌≡◌}
use Rattle.std.specs.FinMap as map
use Rattle.sqlstore.proofs.MarkCounts.{count_moved}
use Rattle.sqlstore.specs.inner.Marks.{count_in, marked_in}
use Rattle.sqlstore.specs.declared.document_count.DocumentCount.{DocumentCount}
use Rattle.sqlstore.proofs.known_counts.KnownCounts.after_one.Goals as goal

pub returns : goal.returns
returns c old d was is counts deleted =
    let change = c.args.change.now in
    elim deleted as (λ b. IfSome (count_in b (record { live = c.move_count.result; deleted = c.move_count-2.result })) (λ (n : DocumentCount). n.value ≡ marked_in b (map.insert old change.id d))) [
      | true ↦ count_moved true old change.id d change.was change.is c.args.self.deleted c.move_count-2.result was is c.move_count-2.ensures (counts true)
      | false ↦ count_moved false old change.id d change.was change.is c.args.self.live c.move_count.result was is c.move_count.ensures (counts false)
    ]
