use Rattle.std.proofs.Common.{◌∙◌, [], ap, false}
use Rattle.std.specs.Prelude.{is_some}
use Rattle.lab.proofs.JudgedLemmas.{judged_err, judged_line}
use Rattle.std.proofs.KnownBytes.{Appends-nil}
use Rattle.lab.proofs.SceneLemmas.{plays_close, plays_conn, plays_pass, plays_send, plays_turn}
use Rattle.lab.proofs.StoppingLemmas.{can_close-is, can_open-is, can_send-is, can_start-is, can_turn-is, closes_has_nodes, has_nodes_kept, names_running, opens_has_nodes, sends_nodes, starts_has_nodes, turns_nodes}
use Rattle.lab.specs.Lines.{pass_said, said_by}
use Rattle.lab.specs.Naming.{value_named}
use Rattle.lab.specs.Scene.{running}
use Rattle.lab.specs.Script.{close_line, conn_line, repl_line, send_line, turn_line}
use Rattle.lab.specs.Stages.{configuration_of, names_of}
use Rattle.lab.specs.Stopping.{can_be_played, can_open, can_start, names_in}
use Rattle.lab.proofs.scripts.run.Goals as goal

pub returns-in-Conn-clause-played : goal.returns-in-Conn-clause-played
returns-in-Conn-clause-played g c = (
  [],
  plays_conn g.S.Store (configuration_of c.args.server) (names_of c.args.names) (said_by c.args.line) c.in-Conn.node.now c.in-Conn.name.now (names_of c.open.new.self) (ap said_by c.in-Conn.is)
      c.in_ok-open-in-Conn.ensures.opened,
  Appends-nil (g.W.Write.contents c.args.out.now),
)

pub returns-in-Repl-clause-played : goal.returns-in-Repl-clause-played
returns-in-Repl-clause-played g c = (
  [],
  plays_pass g.S.Store (configuration_of c.args.server) (names_of c.args.names) (said_by c.args.line) (pass_said c.in-Repl.words) (names_of c.start_pass.new.self) (ap said_by c.in-Repl.is)
      c.in_ok-start_pass-in-Repl.ensures.started,
  Appends-nil (g.W.Write.contents c.args.out.now),
)

pub returns-in-Send-clause-played : goal.returns-in-Send-clause-played
returns-in-Send-clause-played g c =
    let sent = c.in_ok-send-in-Send.ensures.sent in (
      sent.0,
      plays_send g.S.Store (configuration_of c.args.server) (names_of c.args.names) (said_by c.args.line) c.in-Send.name.now c.in-Send.piece.items sent.0 (names_of c.send.new.self) (ap said_by c.in-Send.is) sent.1,
      sent.2,
    )

pub returns-in-Close-clause-played : goal.returns-in-Close-clause-played
returns-in-Close-clause-played g c = (
  [],
  plays_close g.S.Store (configuration_of c.args.server) (names_of c.args.names) (said_by c.args.line) c.in-Close.name.now (names_of c.close.new.self) (ap said_by c.in-Close.is) c.in_ok-close-in-Close.ensures.closed,
  Appends-nil (g.W.Write.contents c.args.out.now),
)

pub returns-in-Turn-clause-played : goal.returns-in-Turn-clause-played
returns-in-Turn-clause-played g c =
    let turned = c.in_ok-take_turn-in-Turn.ensures.turned in (
      turned.0,
      plays_turn g.S.Store (configuration_of c.args.server) (names_of c.args.names) (said_by c.args.line) c.in-Turn.turn c.in-Turn.name.now turned.0 (names_of c.take_turn.new.self) (ap said_by c.in-Turn.is) turned.1,
      turned.2,
    )

pub returns-in_err-open-in-Conn-clause-judged : goal.returns-in_err-open-in-Conn-clause-judged
returns-in_err-open-in-Conn-clause-judged g c nodes =
    let before = names_of c.args.names in
    let m = names_in g.S.Store (running before) in
    let same = names_running g.S.Store before in
    let r = c.from_residual.result in
    let told = c.from_residual.ensures.1 in
    judged_line m (said_by c.args.line) (conn_line c.in-Conn.node.now c.in-Conn.name.now) (can_open before c.in-Conn.node.now c.in-Conn.name.now) r (ap said_by c.in-Conn.is) (can_open-is m before same c.in-Conn.node.now c.in-Conn.name.now)
    (judged_err false (can_open before c.in-Conn.node.now c.in-Conn.name.now) c.in_err-open-in-Conn.field-0.0 r told (c.in_err-open-in-Conn.ensures.judged nodes))

pub returns-in-Conn-clause-judged : goal.returns-in-Conn-clause-judged
returns-in-Conn-clause-judged g c nodes =
    let before = names_of c.args.names in
    let m = names_in g.S.Store (running before) in
    let same = names_running g.S.Store before in
    ap (can_be_played m) (ap said_by c.in-Conn.is) ∙ can_open-is m before same c.in-Conn.node.now c.in-Conn.name.now ∙ c.in_ok-open-in-Conn.ensures.judged nodes

pub returns-in_err-start_pass-in-Repl-clause-judged : goal.returns-in_err-start_pass-in-Repl-clause-judged
returns-in_err-start_pass-in-Repl-clause-judged g c nodes =
    let before = names_of c.args.names in
    let m = names_in g.S.Store (running before) in
    let same = names_running g.S.Store before in
    let r = c.from_residual-in_err-start_pass-in-Repl.result in
    let told = c.from_residual-in_err-start_pass-in-Repl.ensures.1 in
    judged_line m (said_by c.args.line) (repl_line (pass_said c.in-Repl.words)) (can_start before (pass_said c.in-Repl.words)) r (ap said_by c.in-Repl.is) (can_start-is m before same (pass_said c.in-Repl.words))
    (judged_err false (can_start before (pass_said c.in-Repl.words)) c.in_err-start_pass-in-Repl.field-0.0 r told (c.in_err-start_pass-in-Repl.ensures.judged nodes))

pub returns-in-Repl-clause-judged : goal.returns-in-Repl-clause-judged
returns-in-Repl-clause-judged g c nodes =
    let before = names_of c.args.names in
    let m = names_in g.S.Store (running before) in
    let same = names_running g.S.Store before in
    ap (can_be_played m) (ap said_by c.in-Repl.is) ∙ can_start-is m before same (pass_said c.in-Repl.words) ∙ c.in_ok-start_pass-in-Repl.ensures.judged nodes

pub returns-in_err-send-in-Send-clause-judged : goal.returns-in_err-send-in-Send-clause-judged
returns-in_err-send-in-Send-clause-judged g c nodes =
    let before = names_of c.args.names in
    let m = names_in g.S.Store (running before) in
    let same = names_running g.S.Store before in
    let r = c.from_residual-in_err-send-in-Send.result in
    let told = c.from_residual-in_err-send-in-Send.ensures.1 in
    judged_line m (said_by c.args.line) (send_line c.in-Send.name.now c.in-Send.piece.items) (is_some (value_named c.in-Send.name.now before.connections)) r (ap said_by c.in-Send.is) (can_send-is m before same c.in-Send.name.now c.in-Send.piece.items)
    (judged_err false (is_some (value_named c.in-Send.name.now before.connections)) c.in_err-send-in-Send.field-0.0 r told c.in_err-send-in-Send.ensures.judged)

pub returns-in-Send-clause-judged : goal.returns-in-Send-clause-judged
returns-in-Send-clause-judged g c nodes =
    let before = names_of c.args.names in
    let m = names_in g.S.Store (running before) in
    let same = names_running g.S.Store before in
    ap (can_be_played m) (ap said_by c.in-Send.is) ∙ can_send-is m before same c.in-Send.name.now c.in-Send.piece.items ∙ c.in_ok-send-in-Send.ensures.judged

pub returns-in_err-close-in-Close-clause-judged : goal.returns-in_err-close-in-Close-clause-judged
returns-in_err-close-in-Close-clause-judged g c nodes =
    let before = names_of c.args.names in
    let m = names_in g.S.Store (running before) in
    let same = names_running g.S.Store before in
    let r = c.from_residual-in_err-close-in-Close.result in
    let told = c.from_residual-in_err-close-in-Close.ensures.1 in
    judged_line m (said_by c.args.line) (close_line c.in-Close.name.now) (is_some (value_named c.in-Close.name.now before.connections)) r (ap said_by c.in-Close.is) (can_close-is m before same c.in-Close.name.now)
    (judged_err false (is_some (value_named c.in-Close.name.now before.connections)) c.in_err-close-in-Close.field-0.0 r told c.in_err-close-in-Close.ensures.judged)

pub returns-in-Close-clause-judged : goal.returns-in-Close-clause-judged
returns-in-Close-clause-judged g c nodes =
    let before = names_of c.args.names in
    let m = names_in g.S.Store (running before) in
    let same = names_running g.S.Store before in
    ap (can_be_played m) (ap said_by c.in-Close.is) ∙ can_close-is m before same c.in-Close.name.now ∙ c.in_ok-close-in-Close.ensures.judged

pub returns-in_err-take_turn-in-Turn-clause-judged : goal.returns-in_err-take_turn-in-Turn-clause-judged
returns-in_err-take_turn-in-Turn-clause-judged g c nodes =
    let before = names_of c.args.names in
    let m = names_in g.S.Store (running before) in
    let same = names_running g.S.Store before in
    let r = c.from_residual-in_err-take_turn-in-Turn.result in
    let told = c.from_residual-in_err-take_turn-in-Turn.ensures.1 in
    judged_line m (said_by c.args.line) (turn_line c.in-Turn.turn c.in-Turn.name.now) (is_some (value_named c.in-Turn.name.now before.passes)) r (ap said_by c.in-Turn.is) (can_turn-is m before same c.in-Turn.turn c.in-Turn.name.now)
    (judged_err false (is_some (value_named c.in-Turn.name.now before.passes)) c.in_err-take_turn-in-Turn.field-0.0 r told c.in_err-take_turn-in-Turn.ensures.judged)

pub returns-in-Turn-clause-judged : goal.returns-in-Turn-clause-judged
returns-in-Turn-clause-judged g c nodes =
    let before = names_of c.args.names in
    let m = names_in g.S.Store (running before) in
    let same = names_running g.S.Store before in
    ap (can_be_played m) (ap said_by c.in-Turn.is) ∙ can_turn-is m before same c.in-Turn.turn c.in-Turn.name.now ∙ c.in_ok-take_turn-in-Turn.ensures.judged

pub returns-in-Conn-clause-numbered : goal.returns-in-Conn-clause-numbered
returns-in-Conn-clause-numbered g c nodes = opens_has_nodes (names_of c.args.names) (names_of c.open.new.self) c.in-Conn.node.now c.in-Conn.name.now c.in_ok-open-in-Conn.ensures.opened nodes

pub returns-in-Repl-clause-numbered : goal.returns-in-Repl-clause-numbered
returns-in-Repl-clause-numbered g c nodes = starts_has_nodes (configuration_of c.args.server) (names_of c.args.names) (names_of c.start_pass.new.self) (pass_said c.in-Repl.words) c.in_ok-start_pass-in-Repl.ensures.started nodes

pub returns-in-Close-clause-numbered : goal.returns-in-Close-clause-numbered
returns-in-Close-clause-numbered g c nodes = closes_has_nodes (names_of c.args.names) (names_of c.close.new.self) c.in-Close.name.now c.in_ok-close-in-Close.ensures.closed nodes

pub returns-in-Send-clause-numbered : goal.returns-in-Send-clause-numbered
returns-in-Send-clause-numbered g c nodes =
    let sent = c.in_ok-send-in-Send.ensures.sent in
    has_nodes_kept (names_of c.args.names) (names_of c.send.new.self) (sends_nodes g.S.Store (names_of c.args.names) (names_of c.send.new.self) c.in-Send.name.now c.in-Send.piece.items sent.0 sent.1)
    c.in_ok-send-in-Send.ensures.many nodes

pub returns-in-Turn-clause-numbered : goal.returns-in-Turn-clause-numbered
returns-in-Turn-clause-numbered g c nodes =
    let turned = c.in_ok-take_turn-in-Turn.ensures.turned in
    has_nodes_kept (names_of c.args.names) (names_of c.take_turn.new.self) (turns_nodes g.S.Store c.in-Turn.turn (names_of c.args.names) (names_of c.take_turn.new.self) c.in-Turn.name.now turned.0 turned.1)
    c.in_ok-take_turn-in-Turn.ensures.many nodes
