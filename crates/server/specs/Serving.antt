-- What a server does to its hub: for one connection, or many at once.
-- This project's own, over the service of one connection (RFC 9112, section 9.3) and the acts of many; which bytes a socket brings and takes no clause can say.
use Rattle.std.specs.Prelude.{ℕ, List, Option, Result}
use Rattle.store.specs.declared.store.Store.{Ghosts}
use Rattle.hub.specs.Feeding.{HubState}
use Rattle.hub.specs.Service.{ServesOrTurnsAway}
use Rattle.hub.specs.declared.service_end.ServiceEnd.{ServiceEnd}
use Rattle.engine.specs.Acts.{Act}
use Rattle.engine.specs.Counts.{ServesWithin}
use Rattle.engine.specs.Desks.{ServesAll}
use Rattle.engine.specs.declared.limits.Limits.{Limits}

-- some bytes were read and some written
pub record Passage : Type 0 where
  pub input : Option (List ℕ)
  pub rest : Option (List ℕ)
  pub output : Option (List ℕ)
  pub after : Option (List ℕ)

-- a connection was served up to some end, or turned away
abbrev pub WasServed : {S : Type 0} → Ghosts S → HubState S → HubState S → Type 0
WasServed g old new =
    (end : ServiceEnd) × (p : Passage)
    × ServesOrTurnsAway g (record { hub = old; input = p.input; output = p.output }) end (record { hub = new; input = p.rest; output = p.after })

-- many connections at once, by some acts, whatever of them was known
abbrev pub ServesMany : {S : Type 0} → Ghosts S → HubState S → HubState S → Type 0
ServesMany g old new = (before after : Option (List Act)) × ServesAll g (record { hub = old; log = before }) (record { hub = new; log = after })

-- what bounds a server of so many connections, with at most so many of them open at once: the seconds of silence, and those of a request
abbrev pub limits_of : ℕ → ℕ → Limits
limits_of conns at_once = record { at_once = at_once; idle = 60; request = 30; conns = conns }

-- the same acts within limits: no more connections are open at once than may be, and no more are accepted than are to be served; where
-- the answer is `Ok` just so many were
abbrev pub ServesManyWithin : {S A E : Type 0} → Ghosts S → Limits → Result A E → HubState S → HubState S → Type 0
ServesManyWithin g limits result old new =
    (before after : Option (List Act)) × ServesWithin g limits result (record { hub = old; log = before }) (record { hub = new; log = after })
