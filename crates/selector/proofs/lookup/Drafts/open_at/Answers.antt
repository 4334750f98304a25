use Rattle.std.proofs.Common.{◌≡◌, ap, ◌∙◌, rules}
use Rattle.selector.specs.Lookup.{draft_decides}
use Rattle.selector.specs.declared.lookup.Draft.{Draft}
use Rattle.selector.proofs.Places.{ended}
use Rattle.selector.proofs.lookup.Drafts.open_at.Goals as goal

pub returns-clause-decide : goal.returns-clause-decide
returns-clause-decide c = λ current.
    let old : c.replace-ended.result ≡ c.args.self.now.open = search rules in
    let new : c.replace-ended.new.dest ≡ c.new-opened.result = search rules in
    ended c.args.self.now.groups.items c.push.new.self.items c.finish.result (draft_decides c.replace-ended.new.dest current) (draft_decides c.args.self.now.open current) current
    c.in_ok-push.ensures.items (ap (λ (d : Draft). draft_decides d current) new ∙ c.new-opened.ensures.none current)
    (c.finish.ensures current ∙ ap (λ (d : Draft). draft_decides d current) old)
