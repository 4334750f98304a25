use Rattle.transactions.proofs.Common.{length, rules, ◌≡◌}
use Rattle.transactions.proofs.Following.{one_there}
use Rattle.tree.proofs.Revisions.{same}
use Rattle.transactions.proofs.winners.follows.Goals as goal

pub returns-in-Some : goal.returns-in-Some
returns-in-Some c is =
    let one : length c.args.write.now.path.items ≡ 1 = search rules in
    let first = one_there c.args.write.now.path.items one in
    let it : c.in-Some.parent ≡ c.args.rev.now = same c.in-Some.parent c.args.rev.now (search rules) in
    record { newest = first.0; alone = first.1; follows = search rules; live = search rules }
