use Rattle.std.proofs.Common.{Some, [], refl}
use Rattle.std.specs.Option.{IsSome}
use Rattle.std.specs.Ordering.{nat_cmp}
use Rattle.std.proofs.lemmas.Map.Views.{All-values-insert_entry}
use Rattle.hub.proofs.Rests.{rests_with}
use Rattle.hub.proofs.cutters.add_cutter.Goals as goal

pub returns-clause-still_open : goal.returns-clause-still_open
returns-clause-still_open c =
    rw c.in_ok-insert.ensures.entries (All-values-insert_entry nat_cmp c.args.conn c.args.cutter IsSome c.args.cutters.now.entries c.requires.are_open (rw c.requires.at_front refl))

pub returns-clause-ok : goal.returns-clause-ok
returns-clause-ok c =
    rests_with c.args.cutters.now.entries c.insert.new.self.entries c.args.conn (Some []) (rw c.requires.at_front at c.in_ok-insert.ensures.updates.0)
