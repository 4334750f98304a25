use Rattle.std.proofs.Common.{◌≡◌, drop, map}
use Rattle.couch_json.specs.Parts.{are_named}
use Rattle.couch_json.specs.View.{members_view}
use Rattle.couch_json.proofs.members.are_named.Given as goal

abbrev pub invariant-loop-name : goal.invariant-loop-name
invariant-loop-name l =
    are_named (map (λ name. name.now) l.names) (members_view (drop l.name-index l.name-items))
    ≡ are_named (map (λ name. name.now) l.names) (members_view l.members.entries)
