use Rattle.std.proofs.Common.{Global, Vec, cond, subst, sym, ◌++◌, ◌∷◌, []}
use Rattle.std.specs.Result.{is_ok}
use Rattle.sqlstore.proofs.Common.{KnownDatabase}
use Rattle.sqlstore.proofs.EarlierKnown.{pushed_if, removed_known}
use Rattle.sqlstore.specs.Standing.{AreKnown}
use Rattle.sqlstore.proofs.earlier.put_known.Goals.{then-len-ge-MOST, else-len-ge-MOST}
use Rattle.sqlstore.proofs.earlier.put_known.Goals as goal

pub returns : goal.returns
returns c trees all known =
    let held = λ (v : Vec KnownDatabase Global). AreKnown trees v.items in
    let items = c.if-len-ge-MOST.earlier.items in
    let left : AreKnown trees items = elim c.if-len-ge-MOST.branch [
      | then-len-ge-MOST w ↦ subst held (sym w.earlier-is) (subst (AreKnown trees) (sym w.remove.ensures.by_index.2) (removed_known trees c.args.earlier.now.items all 0))
      | else-len-ge-MOST w ↦ subst held (sym w.earlier-is) all
    ] in
    subst (AreKnown trees) (sym c.push.ensures.items)
    (subst (λ (k : KnownDatabase). AreKnown trees (cond (is_ok c.push.result) (items ++ k ∷ []) items)) (sym c.split-known.ensures.known) (pushed_if trees items left (is_ok c.push.result) c.args.known known))
