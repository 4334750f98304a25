-- What no act changes: a node's configuration stays, and its store goes on.
use Rattle.std.proofs.Common.{◌≡◌, ◌∙◌, inl, inr, ℕ, List, [], ◌∷◌, sym, ap, subst}
use Rattle.store.proofs.Calls.{goes_on_itself, goes_on_then}
use Rattle.store.specs.Calls.{GoesOn}
use Rattle.store.specs.declared.store.Store.{Ghosts}
use Rattle.hub.specs.Arrival.{Piece}
use Rattle.hub.specs.Feeding.{HubState}
use Rattle.engine.specs.Acts.{Act, accepted, opened, brought, took, closed}
use Rattle.engine.specs.Desks.{Deed, Desk, Does, Runs}
use Rattle.engine.specs.Standing.{Seat, TakesPiece}

module _ {S : Type 0} (g : Ghosts S) where
  -- the configuration stays, and the store goes on
  abbrev pub Keeps : HubState S → HubState S → Type 0
  Keeps old new = (new.node.configuration ≡ old.node.configuration) × GoesOn g old.node.store new.node.store

  same_keeps : (old new : HubState S) → new.node ≡ old.node → Keeps old new
  same_keeps old new is =
      (ap (λ n. n.configuration) is, subst (λ n. GoesOn g old.node.store n.store) (sym is) (goes_on_itself g old.node.store))

  piece_keeps : (old new : Seat S) (p : Piece) (words : List ℕ) → TakesPiece g old p words new → Keeps old.hub new.hub
  piece_keeps old new p words (inl feeds) = (feeds.configuration, feeds.onward)
  piece_keeps old new p words (inr (inl refuses)) = same_keeps old.hub new.hub (ap (λ h. h.node) refuses.ended)
  piece_keeps old new p words (inr (inr (stood, said, is))) = same_keeps old.hub new.hub (ap (λ s. s.hub.node) is)

  does_keep : (old new : Desk S) (a : Act) (words : List ℕ) → Does g old a words new → Keeps old.hub new.hub
  does_keep old new accepted words (said, is) = same_keeps old.hub new.hub (ap (λ d. d.hub.node) is)
  does_keep old new (opened c) words (said, next, is) = same_keeps old.hub new.hub (ap (λ d. d.hub.node) is)
  does_keep old new (closed c) words (said, is) = same_keeps old.hub new.hub (ap (λ d. d.hub.node) is)
  does_keep old new (brought c bytes) words (was, now, at, takes, is) =
      subst (λ (h : HubState S). Keeps old.hub h) (sym (ap (λ d. d.hub) is)) (piece_keeps (record { hub = old.hub; standing = was }) now (record { conn = c; bytes = bytes }) words takes)
  does_keep old new (took c bytes) words (was, left, at, owed, said, is) = same_keeps old.hub new.hub (ap (λ d. d.hub.node) is)

  pub runs_keep : (old new : Desk S) (deeds : List Deed) → Runs g old deeds new → Keeps old.hub new.hub
  runs_keep old new [] is = same_keeps old.hub new.hub (ap (λ d. d.hub.node) is)
  runs_keep old new (d ∷ deeds) (between, does, rest) =
      let first = does_keep old between d.act d.words does in
      let more = runs_keep between new deeds rest in
      (more.0 ∙ first.0, goes_on_then g old.hub.node.store between.hub.node.store new.hub.node.store first.1 more.1)
