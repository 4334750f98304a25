use Rattle.std.proofs.Common.{◌∙◌, [], ap, subst, sym}
use Rattle.std.specs.Option.{is_some, option_map}
use Rattle.std.proofs.KnownBytes.{Appends-nil}
use Rattle.std.proofs.lemmas.Result.{IfOk-weaker}
use Rattle.lab.proofs.JudgedLemmas.{first_numbered, judged_bytes, judged_memory, none_behind}
use Rattle.lab.proofs.SceneLemmas.{bytes_played}
use Rattle.lab.specs.Script.{line_of}
use Rattle.lab.specs.Stopping.{HasNodesIn, names_behind, names_in, some_asks_store}
use Rattle.lab.specs.Lines.{said_by}
use Rattle.lab.specs.Scene.{laying, running}
use Rattle.lab.specs.Stages.{configuration_of, names_of, nodes_of, scene_of}
use Rattle.lab.proofs.scripts.play.Goals as goal

pub returns-in-Laying-clause-played : goal.returns-in-Laying-clause-played
returns-in-Laying-clause-played g c =
    let out = g.W.Write.contents c.args.out.now in
    IfOk-weaker c.lay.result _ _
    (λ next plays. bytes_played g.S.Store (configuration_of c.args.server) (scene_of c.args.stage) (laying (nodes_of c.in-Laying.layout)) (said_by c.in-Some.line) c.args.bytes.now
    out out (scene_of next) (sym c.in_ok-line.ensures ∙ ap (option_map said_by) c.in-Some.is) (ap scene_of c.in-Laying.is) ([], plays, Appends-nil out))
    c.lay.ensures.played

pub returns-in-Running-clause-played : goal.returns-in-Running-clause-played
returns-in-Running-clause-played g c =
    IfOk-weaker c.run.result _ _
    (λ next p. bytes_played g.S.Store (configuration_of c.args.server) (scene_of c.args.stage) (running (names_of c.in-Running.running)) (said_by c.in-Some.line) c.args.bytes.now
    (g.W.Write.contents c.args.out.now) (g.W.Write.contents c.run.new.out) (scene_of next) (sym c.in_ok-line.ensures ∙ ap (option_map said_by) c.in-Some.is)
    (ap scene_of c.in-Running.is) p)
    c.run.ensures.played

pub returns-in_err-line-clause-judged : goal.returns-in_err-line-clause-judged
returns-in_err-line-clause-judged g c = λ nodes.
    judged_memory (some_asks_store (line_of c.args.bytes.now)) (is_some (names_behind (names_in g.S.Store (scene_of c.args.stage)) c.args.bytes.now)) c.from_residual.result c.from_residual.ensures.1

pub returns-in_default-clause-judged : goal.returns-in_default-clause-judged
returns-in_default-clause-judged g c = λ nodes.
    none_behind (names_in g.S.Store (scene_of c.args.stage)) c.args.bytes.now (sym c.in_ok-line.ensures ∙ ap (option_map said_by) c.in_default.is)

pub returns-in-Laying-clause-judged : goal.returns-in-Laying-clause-judged
returns-in-Laying-clause-judged g c = λ nodes.
    judged_bytes (names_in g.S.Store (scene_of c.args.stage)) (names_in g.S.Store (laying (nodes_of c.in-Laying.layout))) (said_by c.in-Some.line) c.args.bytes.now c.lay.result
    (sym c.in_ok-line.ensures ∙ ap (option_map said_by) c.in-Some.is) (ap (names_in g.S.Store) (ap scene_of c.in-Laying.is)) c.lay.ensures.judged

pub returns-in-Running-clause-judged : goal.returns-in-Running-clause-judged
returns-in-Running-clause-judged g c = λ nodes.
    judged_bytes (names_in g.S.Store (scene_of c.args.stage)) (names_in g.S.Store (running (names_of c.in-Running.running))) (said_by c.in-Some.line) c.args.bytes.now c.run.result
    (sym c.in_ok-line.ensures ∙ ap (option_map said_by) c.in-Some.is) (ap (names_in g.S.Store) (ap scene_of c.in-Running.is))
    (c.run.ensures.judged (subst HasNodesIn (ap scene_of c.in-Running.is) nodes))

pub returns-in-Laying-clause-numbered : goal.returns-in-Laying-clause-numbered
returns-in-Laying-clause-numbered g c = λ nodes.
    IfOk-weaker c.lay.result _ _
    (λ next plays. first_numbered g.S.Store (configuration_of c.args.server) (nodes_of c.in-Laying.layout) (said_by c.in-Some.line) [] (scene_of next) plays)
    c.lay.ensures.played

pub returns-in-Running-clause-numbered : goal.returns-in-Running-clause-numbered
returns-in-Running-clause-numbered g c = λ nodes. c.run.ensures.numbered (subst HasNodesIn (ap scene_of c.in-Running.is) nodes)
