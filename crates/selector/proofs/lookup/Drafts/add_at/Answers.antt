use Rattle.std.proofs.Common.{◌&&◌, ◌||◌, sym, ap, ◌∙◌}
use Rattle.std.proofs.lemmas.Result.{IfOk-weaker}
use Rattle.std.specs.Prelude.{option_copied}
use Rattle.couch_json.specs.Parts.{is_there_and}
use Rattle.selector.specs.Lookup.{drafts_decide, selector_decides}
use Rattle.selector.proofs.lookup.Drafts.add_at.Goals as goal

pub returns-in-Some : goal.returns-in-Some
returns-in-Some c =
    let at = ap option_copied (sym c.in-Some.is) ∙ c.selector_at.ensures in
    IfOk-weaker c.add.result _ _
    (λ added h root current. h root current
    ∙ ap (λ s. (added && is_there_and (selector_decides c.args.operator root current) s) || drafts_decide c.args.self.now current) at)
    c.add.ensures
