use Rattle.index.proofs.Common.{[], arith, length, rules, sym, take_more, ◌++◌, ◌<◌, ◌∙◌, ◌∷◌, ◌≡◌}
use Rattle.index.proofs.declaring.are_same_paths.Goals as goal

pub loop-i-preserved : goal.loop-i-preserved
loop-i-preserved c =
    let a = c.args.a.now in
    let b = c.args.b.now in
    let i = c.loop-i.i in
    let inv = c.loop-i.invariant in
    let below : i < length b = let size = inv.1 in omega (arith, c.loop-i-test.true, size) in
    let texts : c.as_str.result.now ≡ c.as_str-in-loop-i.result.now = search rules in
    let same : c.index-a-i.result ≡ c.index-b-i.result = sym c.as_str.ensures.text ∙ texts ∙ c.as_str-in-loop-i.ensures.text in (
      take_more a i c.index-a-i.result c.loop-i-test.true ∙ (λ j. inv.0 j ++ (sym c.index-a-i.is ∙ same ∙ c.index-b-i.is) j ∷ []) ∙ sym (take_more b i c.index-b-i.result below),
      inv.1,
    )
