use Rattle.std.proofs.Common.{◌&&◌, ◌||◌, ap, ◌∙◌}
use Rattle.std.proofs.lemmas.Result.{IfOk-weaker}
use Rattle.couch_json.specs.Parts.{is_there_and}
use Rattle.selector.specs.Bounds.{path_value}
use Rattle.selector.specs.Lookup.{comparison_meets, decides, draft_decides}
use Rattle.selector.proofs.Places.{open_more}
use Rattle.selector.proofs.lookup.Drafts.add_test.Goals as goal

pub returns : goal.returns
returns c =
    let opened = c.open_for.new.self in
    IfOk-weaker c.add.result _ _
    (λ added h current. open_more _ _ _ _ _
    (h current ∙ ap (λ p. (added && decides c.args.operator (is_there_and (comparison_meets c.args.test.comparison) (path_value p current))) || draft_decides opened.open current)
    c.in_ok-open_for.ensures.path)
    (c.in_ok-open_for.ensures.decide current))
    c.add.ensures
