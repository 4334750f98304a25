use Rattle.std.proofs.Common.{◌≡◌, true, rules, sym, subst}
use Rattle.find.specs.inner.Planning.{AreThere, Covers}
use Rattle.find.proofs.KeyRanges.{first_covers, first_of}
use Rattle.find.proofs.ranges.range_of.Goals as goal

pub returns-in_ok-range_within-in-Some-clause-covers : goal.returns-in_ok-range_within-in-Some-clause-covers
returns-in_ok-range_within-in-Some-clause-covers c =
    let query = c.args.query.now in
    let field = c.in-Some.field.now in
    let range = c.in_ok-range_within-in-Some.field-0 in
    let all = first_of c.args.fields.now field c.in-Some.ensures.value in
    let yes : c.are_there.result ≡ true = search rules in
    subst (λ fs. Covers fs range query) (sym all.1)
    (first_covers query field all.0 c.bounds.result range (subst (λ fs. AreThere fs query) all.1 (c.are_there.ensures yes)) c.bounds.ensures.inside c.in_ok-range_within-in-Some.ensures.within)
