use Rattle.std.proofs.Common.{ap, arith, map, rules, subst, sym, ◌∙◌, ◌≡◌}
use Rattle.std.proofs.lemmas.List.{get_or-map, length-map}
use Rattle.std.specs.Prelude.{Contains}
use Rattle.index.specs.Shown.{Declared, declared}
use Rattle.sqlstore.proofs.known_indexes.is_among.Goals as goal

pub returns-then-is_same : goal.returns-then-is_same
returns-then-is_same c told =
    let all = c.args.all.now in
    let other = c.other-item.result in
    let i = c.loop-other.other-index in
    let same : declared other ≡ declared c.args.declaration.now = c.is_same.ensures (search rules) in
    subst (λ (d : Declared). Contains (map declared all) d) same
    (i, omega (arith, length-map all declared, c.loop-other-test.true), get_or-map declared all i other (declared other) c.loop-other-test.true ∙ ap declared (sym c.other-item.is))
