-- What comes of a piece of bytes on one of a node's connections.
-- RFC 9112, section 9; that a connection is fed in pieces is this project's own.
use Rattle.std.specs.Prelude.{◌≡◌, ℕ, Bool, List, ◌++◌, length, Option, Some}
use Rattle.couch_http.specs.Message.{Message}
use Rattle.couch_http.specs.Reply.{Reply}
use Rattle.couch_http.specs.Stream.{Cuts, StreamEnd}
use Rattle.store.specs.declared.store.Store.{Ghosts}
use Rattle.node.specs.Step.{Serving}
use Rattle.hub.specs.Answering.{RepliesInOrder}
use Rattle.hub.specs.Connections.{ConnectionTable, rest_on, with_rest}
use Rattle.hub.specs.Failing.{FailedRequest, Tells, failures_in}
use Rattle.hub.specs.Endings.{is_last, last_replies, rest_of}

-- a node and its connections, and the requests whose replies of 500 its log was told of, where they are known
pub record HubState (S : Type 0) : Type 0 where
  pub node : Serving S
  pub connections : ConnectionTable
  pub failures : Option (List FailedRequest)

-- A piece came on a connection that had not ended. What had come of the next request, followed by the piece, is a stream
-- that holds these requests and then stands so. The replies are those to the requests, one to each, in order, and the last one that the end of
-- the stream asks for. The connection has the rest of the stream, and the others have what they had. The log was told of the requests
-- whose replies are 500, of each once, and of no others.
pub record IsFed {S : Type 0} (g : Ghosts S) (old : HubState S) (conn : ℕ) (piece : List ℕ) (list : List Reply) (last : Bool) (new : HubState S) : Type 0 where
  pub rest : List ℕ
  pub was : rest_on old.connections conn ≡ Some rest
  pub messages : List Message
  pub end : StreamEnd
  pub cuts : Cuts (rest ++ piece) messages end
  pub answers : List Reply
  pub each : length answers ≡ length messages
  pub replies : list ≡ answers ++ last_replies end
  pub serves : g.is_honest new.node.store → RepliesInOrder g old.node.configuration old.node.store messages answers new.node.store
  pub left : new.connections ≡ with_rest old.connections conn (rest_of end)
  pub ends : last ≡ is_last end
  pub tells : Tells old.failures new.failures (failures_in messages answers)
