-- A write that was added goes on lawfully; nothing stands behind its path.
use Rattle.std.proofs.Common.{sym, ap, ◌∙◌, List, Ok, append-nil}
use Rattle.couch_json.specs.View.{view}
use Rattle.tree.specs.Revision.{Revision}
use Rattle.tree.specs.History.{with_write}
use Rattle.tree.specs.declared.placement.Placed.{Placed}
use Rattle.tree.proofs.Continued.{goes_on}
use Rattle.tree.proofs.history.History.insert.Goals as goal

pub returns-in_ok-put-in-Added-clause-added : goal.returns-in_ok-put-in-Added-clause-added
returns-in_ok-put-in-Added-clause-added c = λ _.
    c.in_ok-put-in-Added.ensures.ok
    ∙ ap (λ (path : List Revision). with_write c.args.self.now (record { path = path; deleted = c.args.deleted; body = view c.args.body.now })) (append-nil c.args.path.now)

pub returns-in_ok-put-in-Added-clause-lawful : goal.returns-in_ok-put-in-Added-clause-lawful
returns-in_ok-put-in-Added-clause-lawful c = λ is.
    goes_on c.args.self.now _ c.put.new.self
    (sym c.placement.ensures ∙ c.in_ok-placement.was ∙ ap (λ (p : Placed). Ok p) c.in-Added.is) (returns-in_ok-put-in-Added-clause-added c is)
