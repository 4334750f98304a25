use Rattle.std.proofs.Common.{◌∙◌, inl, inr, refl, ap}
use Rattle.hub.specs.Feeding.{HubState}
use Rattle.hub.specs.Service.{bytes_of, farewell, hub_without}
use Rattle.engine.proofs.Talks.{open_free}
use Rattle.engine.proofs.conversation.Conversation.feed.Goals as goal

pub returns-in-Ok : goal.returns-in-Ok
returns-in-Ok g c = (
  bytes_of c.in-Ok.replies.list.items,
  inl (record {
    free = open_free c.args.self.now.stage c.args.self.now.owed c.requires.stage c.requires.owed;
    replies = c.in-Ok.replies.list.items;
    last = c.in-Ok.replies.last;
    fed = c.in-Ok.ensures.fed;
    said = refl;
    owes = c.owe_replies.ensures;
    configuration = c.in-Ok.ensures.configuration;
    onward = c.in-Ok.ensures.onward;
  }),
)

pub returns-in-Err : goal.returns-in-Err
returns-in-Err g c = (
  farewell,
  inr (inl (record {
    free = open_free c.args.self.now.stage c.args.self.now.owed c.requires.stage c.requires.owed;
    ended = c.close.ensures ∙ ap (λ (h : HubState _). hub_without c.args.conn h) c.in-Err.ensures.err;
    said = refl;
    owes = c.owe_farewell.ensures;
  })),
)
