use Rattle.sqlstore.proofs.Common.{IsKnown, KnownDatabase, Option, ap, rules, subst, sym, ℤ, ◌∙◌, ◌≡◌}
use Rattle.sqlstore.proofs.KnownCounts.{known_counted}
use Rattle.sqlstore.specs.inner.Listing.{all_count}
use Rattle.sqlstore.specs.Standing.{IsKnownDatabase}
use Rattle.sqlstore.proofs.known_database.keep_count.Goals as goal

pub returns-in-Some : goal.returns-in-Some
returns-in-Some c trees known is =
    let k = c.in-Some.known in
    let same : k.found.number ≡ c.args.number.now = search rules in
    let was : IsKnownDatabase trees k = subst (λ (o : Option KnownDatabase). IsKnown trees o) c.in-Some.is known in
    subst (IsKnownDatabase trees) (sym c.put_count.ensures) (known_counted trees k c.args.deleted c.args.count was (is ∙ ap (λ (n : ℤ). all_count trees n c.args.deleted) (sym same)))
