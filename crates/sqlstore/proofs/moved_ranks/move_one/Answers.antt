use Rattle.std.proofs.Common.{Bool, List, not, subst, ℕ, ◌≡◌, ◌∙◌}
use Rattle.ranks.specs.Counts.{AreRanksOf, with_key}
use Rattle.sqlstore.proofs.LiveKeys.{ranks_moved}
use Rattle.sqlstore.proofs.moved_ranks.move_one.Goals as goal

pub returns : goal.returns
returns c old d was is ranks =
    let change = c.args.change.now in
    let key : c.as_bytes-key.result.now ≡ change.id = c.as_bytes-key.ensures.value ∙ c.as_str.ensures.text in
    ranks_moved old change.id d change.was change.is c.args.ranks c.change.new.self was is
    (subst (λ (b : Bool). (rest : List (List ℕ)) → AreRanksOf c.args.ranks (with_key b change.id rest) → AreRanksOf c.change.new.self (with_key (not change.is) change.id rest)) c.is_live.ensures
    (subst (λ (k : List ℕ). (rest : List (List ℕ)) → AreRanksOf c.args.ranks (with_key c.is_live.result k rest) → AreRanksOf c.change.new.self (with_key (not change.is) k rest)) key c.change.ensures)) ranks
