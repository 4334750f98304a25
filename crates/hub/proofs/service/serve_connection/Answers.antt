use Rattle.std.proofs.Common.{◌∙◌, inl, ℕ, Some, sym, ap, subst}
use Rattle.hub.proofs.ServiceLemmas.{ended_here, new_is_open}
use Rattle.hub.specs.Connections.{is_open, next_connection}
use Rattle.hub.specs.Feeding.{HubState}
use Rattle.hub.specs.Service.{Serves, hub_without}
use Rattle.hub.proofs.service.serve_connection.Goals as goal

pub serve_pieces-end-requires : goal.serve_pieces-end-requires
serve_pieces-end-requires g c =
    rw (c.in-Ok.ensures.ok, c.in-Ok.ensures.number) (new_is_open c.args.hub.now.connections)

pub returns-in-Ok-clause-served : goal.returns-in-Ok-clause-served
returns-in-Ok-clause-served g c =
    let input = g.R.Read.remaining c.args.reader.now in
    let rest = g.R.Read.remaining c.serve_pieces-end.new.reader in
    let output = g.W.Write.contents c.args.writer.now in
    let after = g.W.Write.contents c.serve_pieces-end.new.writer in
    let served = c.serve_pieces-end.ensures.served in
    let end = c.serve_pieces-end.result in
    let state = c.serve_pieces-end.new.hub in
    let next = next_connection c.args.hub.now.connections in
    let numbered : Serves g.S.Store next (Some end) served.0 (record { hub = c.open.new.self; input = input; output = output }) (record { hub = state; input = rest; output = after }) =
    subst (λ (k : ℕ). Serves g.S.Store k (Some end) served.0 (record { hub = c.open.new.self; input = input; output = output }) (record { hub = state; input = rest; output = after }))
    c.in-Ok.ensures.number served.2 in
    inl (record {
      count = served.0;
      state = state;
      serves = rw (sym c.in-Ok.ensures.ok) numbered;
      reads = served.1;
      closes = c.close.ensures ∙ ap (λ (k : ℕ). hub_without k state) c.in-Ok.ensures.number;
    })

pub returns-in-Ok-clause-ended : goal.returns-in-Ok-clause-ended
returns-in-Ok-clause-ended g c =
    let next = next_connection c.args.hub.now.connections in
    ap (λ (s : HubState _). is_open s.connections next) (c.close.ensures ∙ ap (λ (k : ℕ). hub_without k c.serve_pieces-end.new.hub) c.in-Ok.ensures.number)
    ∙ ended_here c.serve_pieces-end.new.hub.connections next
