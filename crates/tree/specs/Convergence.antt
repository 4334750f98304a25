-- What a replica has that was offered writes one after the other; writes that fit together, and lists of the same writes.
-- The CouchDB manual decides (replication/conflicts: replicas that have the same edits, in whatever order, pick the same winner).
use Rattle.std.specs.Prelude.{◌≡◌, List, [], ◌∷◌, Result, Ok, Err, ◌↔◌}
use Rattle.std.specs.List.{Contains}
use Rattle.std.specs.FinMap.{empty}
use Rattle.tree.specs.Revision.{Revision}
use Rattle.tree.specs.Write.{Write, IsParent, IsBrought, AreWhole}
use Rattle.tree.specs.History.{HistoryContent, placement, with_write}
use Rattle.tree.specs.declared.entry.Held.{Held}
use Rattle.tree.specs.declared.placement.Placed.{Placed}
use Rattle.tree.specs.declared.placement.Placed.TheVariants.{Added, Known}
use Rattle.tree.specs.declared.placement.TreeFault.{TreeFault}

-- the content after a write of which this became: what was added came in, and else nothing changed
abbrev pub as_judged : Result Placed TreeFault → HistoryContent → Write → HistoryContent
as_judged (Ok Added) h w = with_write h w
as_judged (Ok Known) h w = h
as_judged (Err fault) h w = h

-- the content after these writes were offered to it, in this order
abbrev pub with_offered : HistoryContent → List Write → HistoryContent
with_offered h [] = h
with_offered h (w ∷ ws) = with_offered (as_judged (placement h w.path) h w) ws

-- what a replica has that was new, and was offered these writes in this order
abbrev pub replica_of : List Write → HistoryContent
replica_of ws = with_offered empty ws

-- The writes fit together, as those of one document do, on whatever replicas they were made: paths are
-- whole, no revision has two parents, and the writes of one revision agree whether it deletes the
-- document. Their bodies are not compared.
pub record AreConsistent (ws : List Write) : Type 0 where
  pub whole : AreWhole ws
  pub one_parent : (r p q : Revision) → IsParent ws r p → IsParent ws r q → p ≡ q
  pub one_mark : (r : Revision) (d e : Held) → IsBrought ws r d → IsBrought ws r e → d.deleted ≡ e.deleted

-- the writes of r all bring the same
abbrev pub BringOne : List Write → Revision → Type 0
BringOne ws r = (d e : Held) → IsBrought ws r d → IsBrought ws r e → d ≡ e

-- the same writes, in whatever order and however often
abbrev pub HaveSame : List Write → List Write → Type 0
HaveSame ws vs = (w : Write) → Contains ws w ↔ Contains vs w
