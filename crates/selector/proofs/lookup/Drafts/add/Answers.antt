use Rattle.std.proofs.Common.{◌≡◌, ◌&&◌, ◌||◌, Option, option_map, sym, ap, ◌∙◌}
use Rattle.std.proofs.lemmas.Result.{IfOk-weaker}
use Rattle.couch_json.specs.Parts.{is_there_and}
use Rattle.couch_json.specs.Value.{Value}
use Rattle.selector.specs.Bounds.{path_value}
use Rattle.selector.specs.Lookup.{comparison_meets, decides, drafts_decide}
use Rattle.selector.specs.Truth.{is_true}
use Rattle.selector.specs.declared.lookup.Test.{Test}
use Rattle.selector.proofs.Tests.{some_at}
use Rattle.selector.proofs.lookup.Drafts.add.Goals as goal

pub returns-in-Some : goal.returns-in-Some
returns-in-Some c =
    let selector = c.args.selector.now in
    let same = some_at (λ (test : Test). (root : Value) (current : Option Value) → is_true root selector current
    ≡ is_there_and (comparison_meets test.comparison) (path_value (option_map (λ p. p.now) test.path) current)) c.in-Some.is c.test_in.ensures in
    IfOk-weaker c.add_test.result _ _
    (λ added h root current. h current
    ∙ ap (λ b. (added && decides c.args.operator b) || drafts_decide c.args.self.now current) (sym (same root current)))
    c.add_test.ensures
