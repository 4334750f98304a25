use Rattle.std.proofs.Common.{◌≡◌, ◌<◌, ℕ, length, subst, sym}
use Rattle.find.specs.inner.Kept.{first_ones}
use Rattle.find.proofs.FirstPlaces.{kept_behind}
use Rattle.find.proofs.by_fields.drop_last.Goals as goal

pub returns-then-descending-clause-kept : goal.returns-then-descending-clause-kept
returns-then-descending-clause-kept c =
    let before = c.args.places.now.keys in
    let after = c.pop_first.new.self.keys in
    subst (λ down. (n : ℕ) → n < length before → first_ones down n after ≡ first_ones down n before) (sym c.if-descending.true)
    (kept_behind c.pop_first.result before after c.pop_first.ensures.removal c.pop_first.ensures.unchanged)
