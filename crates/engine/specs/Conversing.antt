-- What the program's conversations do: one after another they go on, and the server with them.
-- This project's own.
use Rattle.std.specs.Prelude.{◌≡◌, ◌≤◌, ℕ, ◌+◌, List, [], Option}
use Rattle.std.specs.FinMap.{FinMap, insert, len}
use Rattle.std.specs.Ordering.{nat_cmp}
use Rattle.store.specs.declared.store.Store.{Ghosts}
use Rattle.hub.specs.Feeding.{HubState}
use Rattle.engine.specs.Acts.{Act, Logs}
use Rattle.engine.specs.Counts.{RunsWithin, accepted_in, opened_count}
use Rattle.engine.specs.Desks.{Deed, Desk, acts_in}
use Rattle.engine.specs.Standing.{Standing, serving, ending, given_up}
use Rattle.engine.specs.declared.conversation.Conversation.{Conversation}
use Rattle.engine.specs.declared.conversation.ConversationStage.{ConversationStage}
use Rattle.engine.specs.declared.conversation.ConversationStage.TheVariants.{Open, Last, Ending, Lost}

-- ---- a server

-- a server at one moment
pub record ServerState (S : Type 0) : Type 0 where
  -- its hub, and how its connections stand
  pub desk : Desk S
  -- all that went through its sockets, where that is known
  pub log : Option (List Act)
  -- how many connections were accepted
  pub accepted : ℕ
  -- how many of these are still to be opened
  pub unopened : ℕ

-- One state of a server leads to another: these deeds were logged, and lead from the one desk to the other, with at most so many
-- connections open before each of them and after the last one. By them as many were accepted as the count grew. Only such were opened as
-- were accepted by them or before, and not opened yet.
pub record LeadsTo {S : Type 0} (g : Ghosts S) (most : ℕ) (old new : ServerState S) : Type 0 where
  pub deeds : List Deed
  pub logs : Logs old.log new.log (acts_in deeds)
  pub runs : RunsWithin g most old.desk deeds new.desk
  pub accepts : old.accepted + accepted_in (acts_in deeds) ≡ new.accepted
  pub opens : opened_count (acts_in deeds) + new.unopened ≤ old.unopened + accepted_in (acts_in deeds)

-- A server goes on: its state leads to another, where there was room for those that are open and those that are still to be opened. So
-- nothing is said of one that has 3 connections open and may have 2.
pub record GoesOnWithin {S : Type 0} (g : Ghosts S) (most : ℕ) (old new : ServerState S) : Type 0 where
  pub leads : len old.desk.standings + old.unopened ≤ most → LeadsTo g most old new

-- ---- one of its conversations

-- how a connection stands at a stage, where these bytes are owed
abbrev pub standing_at : ConversationStage → List ℕ → Standing
standing_at Open owed = serving owed
standing_at Last owed = ending owed
standing_at Ending owed = ending owed
standing_at Lost owed = given_up

-- how a connection stands by its conversation
abbrev pub standing_of : Conversation → Standing
standing_of c = standing_at c.stage c.owed

-- a conversation at one moment: the hub, how its connection stands, and all that went through the sockets, where that is known
pub record Talk (S : Type 0) : Type 0 where
  pub hub : HubState S
  pub standing : Standing
  pub log : Option (List Act)

-- a server that has this conversation beside these connections
abbrev pub with_talk : {S : Type 0} → FinMap nat_cmp Standing → ℕ → Talk S → ServerState S
with_talk others conn talk = record {
  desk = record { hub = talk.hub; standings = insert others conn talk.standing };
  log = talk.log;
  accepted = 0;
  unopened = 0;
}

-- A conversation goes on: its server does, whatever connections it has beside, and these stand as they did. None is accepted or opened.
pub record Converses {S : Type 0} (g : Ghosts S) (conn : ℕ) (old new : Talk S) : Type 0 where
  pub goes_on : (most : ℕ) (others : FinMap nat_cmp Standing) → GoesOnWithin g most (with_talk others conn old) (with_talk others conn new)

-- Nothing went through a connection in its turn: no act was logged, the hub is as it was, and the connection stands as it did. So a turn in
-- which a piece came is never silent.
pub record IsSilent {S : Type 0} (old new : Talk S) : Type 0 where
  pub unlogged : Logs old.log new.log []
  pub hub_stays : new.hub ≡ old.hub
  pub stands : new.standing ≡ old.standing
