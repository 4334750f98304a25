-- A node as a side of a pass.
-- CouchDB manual, replication/protocol.
use Rattle.std.specs.Prelude.{◌≡◌}
use Rattle.couch_http.specs.Message.{Message}
use Rattle.store.specs.declared.store.Store.{Ghosts}
use Rattle.hub.specs.Answering.{StoreSteps}
use Rattle.node.specs.Step.{Serving}
use Rattle.sync.specs.declared.answer.Answer.{Answer}
use Rattle.sync.specs.declared.answer.Answer.TheVariants.{Reply, Lost, Unreadable}

-- the node makes a step, and the reply is that step's; it is never lost
abbrev pub IsServed : {S : Type 0} → Ghosts S → Serving S → Message → Answer → Serving S → Type 0
IsServed g node m Lost after = ⊥
IsServed g node m Unreadable after = ⊥
IsServed g node m (Reply reply) after = StoreSteps g node.configuration node.store m reply after.store × (after.configuration ≡ node.configuration)
