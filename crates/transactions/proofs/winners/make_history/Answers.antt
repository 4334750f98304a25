use Rattle.transactions.proofs.Common.{None, Some, ap, HasBest, HistoryContent, addition_of, rules, subst, sym, with_addition, ◌<◌, ◌∙◌, ◌≡◌}
use Rattle.transactions.proofs.Following.{marked_is, single_has_best, single_wins, winner_serves}
use Rattle.transactions.specs.inner.Following.{IsFollower, Serves}
use Rattle.tree.specs.History.{winner}
use Rattle.transactions.proofs.winners.make_history.Goals as goal

pub returns-clause-serves : goal.returns-clause-serves
returns-clause-serves c h is begins parents place =
    let a = addition_of c.args.write.now in
    let w = c.in-Some.winner.rev in
    let f : IsFollower a w = c.follows.ensures (search rules) in
    let positive : 0 < w.number = search rules in
    subst (Serves a h) (sym c.in_ok-make_single.ensures) (winner_serves a w f positive h (marked_is h (winner h) c.in-Some.winner (sym c.in-Some.is ∙ is)) parents place)

pub returns-clause-has_best : goal.returns-clause-has_best
returns-clause-has_best c h begins best =
    let a = addition_of c.args.write.now in
    let w = c.in-Some.winner.rev in
    let f : IsFollower a w = c.follows.ensures (search rules) in
    let positive : 0 < w.number = search rules in
    subst (λ (k : HistoryContent). HasBest (with_addition k a)) (sym c.in_ok-make_single.ensures) (single_has_best a w f positive)

pub returns-clause-empty : goal.returns-clause-empty
returns-clause-empty c none =
    let w = c.in-Some.winner.rev in
    let both : Some w ≡ None = sym (single_wins w) ∙ ap winner (sym c.in_ok-make_single.ensures) ∙ none in
    absurd (cc)
