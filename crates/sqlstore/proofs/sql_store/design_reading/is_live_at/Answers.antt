use Rattle.std.proofs.Common.{Some, false, rules, true, ◌∙◌, ◌≡◌}
use Rattle.std.specs.Ordering.{eq_by_cmp}
use Rattle.tree.proofs.Revisions.{same as same_revision}
use Rattle.tree.specs.Revision.{revision_cmp}
use Rattle.sqlstore.proofs.sql_store.design_reading.is_live_at.Goals as goal

pub returns-then-not-winner : goal.returns-then-not-winner
returns-then-not-winner c equal =
    let w = c.in-Some.winner in
    let tied : eq_by_cmp revision_cmp w.rev c.args.rev.now ≡ true = search (rules, equal) in
    let same = same_revision w.rev c.args.rev.now tied in
    let live : w.deleted ≡ false = search rules in
    c.in-Some.is ∙ (λ i. Some (record { rev = same i; deleted = live i }))
