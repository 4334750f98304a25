use Rattle.std.proofs.Common.{◌∙◌, ap, false, not, sym, true}
use Rattle.std.specs.Prelude.{is_some}
use Rattle.lab.proofs.JudgedLemmas.{has_nodes_first, judged_as, judged_err, judged_line, judged_memory}
use Rattle.lab.proofs.SceneLemmas.{plays_first, plays_first_pass}
use Rattle.lab.proofs.StoppingLemmas.{can_add_database, can_add_node, can_open-is, can_start-is, names_first}
use Rattle.lab.specs.Lines.{pass_said, said_by}
use Rattle.lab.specs.Naming.{value_named}
use Rattle.lab.specs.Scene.{first_network, laying}
use Rattle.lab.specs.Script.{conn_line, node_line, public_line, repl_line}
use Rattle.lab.specs.Stages.{configuration_of, names_of, nodes_of}
use Rattle.lab.specs.Stopping.{can_add, can_be_played, can_open, can_start, names_in}
use Rattle.lab.proofs.scripts.lay.Goals as goal

pub returns-in-Conn-clause-played : goal.returns-in-Conn-clause-played
returns-in-Conn-clause-played g c =
    plays_first g.S.Store (configuration_of c.args.server) (nodes_of c.args.layout) (said_by c.args.line) c.in-Conn.node.now c.in-Conn.name.now
    (names_of c.in_ok-running-in-Conn.running) (names_of c.open.new.self) (ap said_by c.in-Conn.is) c.in_ok-running-in-Conn.ensures c.in_ok-open-in-Conn.ensures.opened

pub returns-in-Repl-clause-played : goal.returns-in-Repl-clause-played
returns-in-Repl-clause-played g c =
    plays_first_pass g.S.Store (configuration_of c.args.server) (nodes_of c.args.layout) (said_by c.args.line) (pass_said c.in-Repl.words)
    (names_of c.in_ok-running-in-Repl.running) (names_of c.start_pass.new.self) (ap said_by c.in-Repl.is) c.in_ok-running-in-Repl.ensures c.in_ok-start_pass-in-Repl.ensures.started

pub returns-in_err-add_node-in-Node-clause-judged : goal.returns-in_err-add_node-in-Node-clause-judged
returns-in_err-add_node-in-Node-clause-judged g c =
    let nodes = nodes_of c.args.layout in
    let m = names_in g.S.Store (laying nodes) in
    let begun = first_network (configuration_of c.args.server) nodes in
    let r = c.from_residual.result in
    let told = c.from_residual.ensures.1 in
    judged_line m (said_by c.args.line) (node_line c.in-Node.name.now) (not (is_some (value_named c.in-Node.name.now nodes))) r (ap said_by c.in-Node.is) (can_add_node g.S.Store nodes c.in-Node.name.now)
    (judged_err false (not (is_some (value_named c.in-Node.name.now nodes))) c.in_err-add_node-in-Node.field-0.0 r told c.in_err-add_node-in-Node.ensures.judged)

pub returns-in-Node-clause-judged : goal.returns-in-Node-clause-judged
returns-in-Node-clause-judged g c =
    let nodes = nodes_of c.args.layout in
    let m = names_in g.S.Store (laying nodes) in
    let begun = first_network (configuration_of c.args.server) nodes in
    ap (can_be_played m) (ap said_by c.in-Node.is) ∙ can_add_node g.S.Store nodes c.in-Node.name.now ∙ c.in_ok-add_node-in-Node.ensures.judged

pub returns-in_err-add_database-in-Public-clause-judged : goal.returns-in_err-add_database-in-Public-clause-judged
returns-in_err-add_database-in-Public-clause-judged g c =
    let nodes = nodes_of c.args.layout in
    let m = names_in g.S.Store (laying nodes) in
    let begun = first_network (configuration_of c.args.server) nodes in
    let r = c.from_residual-in_err-add_database-in-Public.result in
    let told = c.from_residual-in_err-add_database-in-Public.ensures.1 in
    judged_line m (said_by c.args.line) (public_line c.in-Public.node.now c.in-Public.name) (can_add g.S.Store nodes c.in-Public.node.now c.in-Public.name) r (ap said_by c.in-Public.is) (can_add_database g.S.Store nodes c.in-Public.node.now c.in-Public.name)
    (judged_err true (can_add g.S.Store nodes c.in-Public.node.now c.in-Public.name) c.in_err-add_database-in-Public.field-0.0 r told c.in_err-add_database-in-Public.ensures.judged)

pub returns-in-Public-clause-judged : goal.returns-in-Public-clause-judged
returns-in-Public-clause-judged g c =
    let nodes = nodes_of c.args.layout in
    let m = names_in g.S.Store (laying nodes) in
    let begun = first_network (configuration_of c.args.server) nodes in
    ap (can_be_played m) (ap said_by c.in-Public.is) ∙ can_add_database g.S.Store nodes c.in-Public.node.now c.in-Public.name ∙ c.in_ok-add_database-in-Public.ensures.judged

pub returns-in_err-running-in-Conn-clause-judged : goal.returns-in_err-running-in-Conn-clause-judged
returns-in_err-running-in-Conn-clause-judged g c =
    let nodes = nodes_of c.args.layout in
    let m = names_in g.S.Store (laying nodes) in
    let begun = first_network (configuration_of c.args.server) nodes in
    let r = c.from_residual-in_err-running-in-Conn.result in
    let told = c.from_residual-in_err-running-in-Conn.ensures.1 in
    judged_line m (said_by c.args.line) (conn_line c.in-Conn.node.now c.in-Conn.name.now) (can_open begun c.in-Conn.node.now c.in-Conn.name.now) r (ap said_by c.in-Conn.is) (can_open-is m begun (names_first g.S.Store (configuration_of c.args.server) nodes) c.in-Conn.node.now c.in-Conn.name.now)
    (judged_memory false (can_open begun c.in-Conn.node.now c.in-Conn.name.now) r told)

pub returns-in_err-open-in-Conn-clause-judged : goal.returns-in_err-open-in-Conn-clause-judged
returns-in_err-open-in-Conn-clause-judged g c =
    let nodes = nodes_of c.args.layout in
    let m = names_in g.S.Store (laying nodes) in
    let begun = first_network (configuration_of c.args.server) nodes in
    let r = c.from_residual-in_err-open-in-Conn.result in
    let told = c.from_residual-in_err-open-in-Conn.ensures.1 in
    judged_line m (said_by c.args.line) (conn_line c.in-Conn.node.now c.in-Conn.name.now) (can_open begun c.in-Conn.node.now c.in-Conn.name.now) r (ap said_by c.in-Conn.is) (can_open-is m begun (names_first g.S.Store (configuration_of c.args.server) nodes) c.in-Conn.node.now c.in-Conn.name.now)
    (judged_as false (can_open (names_of c.in_ok-running-in-Conn.running) c.in-Conn.node.now c.in-Conn.name.now) (can_open begun c.in-Conn.node.now c.in-Conn.name.now) r (ap (λ n. can_open n c.in-Conn.node.now c.in-Conn.name.now) c.in_ok-running-in-Conn.ensures)
    (judged_err false (can_open (names_of c.in_ok-running-in-Conn.running) c.in-Conn.node.now c.in-Conn.name.now) c.in_err-open-in-Conn.field-0.0 r told (c.in_err-open-in-Conn.ensures.judged (has_nodes_first (configuration_of c.args.server) nodes (names_of c.in_ok-running-in-Conn.running) c.in_ok-running-in-Conn.ensures))))

pub returns-in-Conn-clause-judged : goal.returns-in-Conn-clause-judged
returns-in-Conn-clause-judged g c =
    let nodes = nodes_of c.args.layout in
    let m = names_in g.S.Store (laying nodes) in
    let begun = first_network (configuration_of c.args.server) nodes in
    ap (can_be_played m) (ap said_by c.in-Conn.is) ∙ can_open-is m begun (names_first g.S.Store (configuration_of c.args.server) nodes) c.in-Conn.node.now c.in-Conn.name.now ∙ ap (λ n. can_open n c.in-Conn.node.now c.in-Conn.name.now) (sym c.in_ok-running-in-Conn.ensures) ∙ c.in_ok-open-in-Conn.ensures.judged (has_nodes_first (configuration_of c.args.server) nodes (names_of c.in_ok-running-in-Conn.running) c.in_ok-running-in-Conn.ensures)

pub returns-in_err-running-in-Repl-clause-judged : goal.returns-in_err-running-in-Repl-clause-judged
returns-in_err-running-in-Repl-clause-judged g c =
    let nodes = nodes_of c.args.layout in
    let m = names_in g.S.Store (laying nodes) in
    let begun = first_network (configuration_of c.args.server) nodes in
    let r = c.from_residual-in_err-running-in-Repl.result in
    let told = c.from_residual-in_err-running-in-Repl.ensures.1 in
    judged_line m (said_by c.args.line) (repl_line (pass_said c.in-Repl.words)) (can_start begun (pass_said c.in-Repl.words)) r (ap said_by c.in-Repl.is) (can_start-is m begun (names_first g.S.Store (configuration_of c.args.server) nodes) (pass_said c.in-Repl.words))
    (judged_memory false (can_start begun (pass_said c.in-Repl.words)) r told)

pub returns-in_err-start_pass-in-Repl-clause-judged : goal.returns-in_err-start_pass-in-Repl-clause-judged
returns-in_err-start_pass-in-Repl-clause-judged g c =
    let nodes = nodes_of c.args.layout in
    let m = names_in g.S.Store (laying nodes) in
    let begun = first_network (configuration_of c.args.server) nodes in
    let r = c.from_residual-in_err-start_pass-in-Repl.result in
    let told = c.from_residual-in_err-start_pass-in-Repl.ensures.1 in
    judged_line m (said_by c.args.line) (repl_line (pass_said c.in-Repl.words)) (can_start begun (pass_said c.in-Repl.words)) r (ap said_by c.in-Repl.is) (can_start-is m begun (names_first g.S.Store (configuration_of c.args.server) nodes) (pass_said c.in-Repl.words))
    (judged_as false (can_start (names_of c.in_ok-running-in-Repl.running) (pass_said c.in-Repl.words)) (can_start begun (pass_said c.in-Repl.words)) r (ap (λ n. can_start n (pass_said c.in-Repl.words)) c.in_ok-running-in-Repl.ensures)
    (judged_err false (can_start (names_of c.in_ok-running-in-Repl.running) (pass_said c.in-Repl.words)) c.in_err-start_pass-in-Repl.field-0.0 r told (c.in_err-start_pass-in-Repl.ensures.judged (has_nodes_first (configuration_of c.args.server) nodes (names_of c.in_ok-running-in-Repl.running) c.in_ok-running-in-Repl.ensures))))

pub returns-in-Repl-clause-judged : goal.returns-in-Repl-clause-judged
returns-in-Repl-clause-judged g c =
    let nodes = nodes_of c.args.layout in
    let m = names_in g.S.Store (laying nodes) in
    let begun = first_network (configuration_of c.args.server) nodes in
    ap (can_be_played m) (ap said_by c.in-Repl.is) ∙ can_start-is m begun (names_first g.S.Store (configuration_of c.args.server) nodes) (pass_said c.in-Repl.words) ∙ ap (λ n. can_start n (pass_said c.in-Repl.words)) (sym c.in_ok-running-in-Repl.ensures) ∙ c.in_ok-start_pass-in-Repl.ensures.judged (has_nodes_first (configuration_of c.args.server) nodes (names_of c.in_ok-running-in-Repl.running) c.in_ok-running-in-Repl.ensures)
