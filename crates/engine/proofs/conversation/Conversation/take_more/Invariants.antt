use Rattle.std.proofs.Common.{◌≡◌, ◌≢◌, []}
use Rattle.engine.specs.Conversing.{Converses, standing_of}
use Rattle.engine.specs.declared.conversation.ConversationStage.TheVariants.{Lost}
use Rattle.engine.proofs.conversation.Conversation.take_more.Given as goal

-- acts of this connection led here, where nothing is owed to it
abbrev pub invariant-loop-number : goal.invariant-loop-number
invariant-loop-number g l = record {
  converses : Converses g.S.Store l.conn (record { hub = l.initial.hub; standing = standing_of l.initial.self; log = g.W.Sockets.log l.initial.sockets })
      (record { hub = l.hub; standing = standing_of l.self; log = g.W.Sockets.log l.sockets });
  stage : l.self.stage ≢ Lost;
  owed : l.self.owed ≡ [];
}
