use Rattle.std.proofs.Common.{◌∙◌, ◌≡◌, ◌∷◌, ap, length, rules, sym, arith}
use Rattle.std.specs.Vec.Iter.{into_iter_items}
use Rattle.write.proofs.Paths.{ends, goes_on}
use Rattle.write.proofs.ancestry.read_path.Goals as goal

pub returns-in_default : goal.returns-in_default
returns-in_default c =
    let l = c.loop-id in
    let first : into_iter_items l.id-iterator ≡ c.in-Some.id ∷ into_iter_items c.next.new.self = search rules in
    ends c.args.ids.items (into_iter_items l.id-iterator) c.in-Some.id (into_iter_items c.next.new.self) l.number l.path.items first l.invariant.counted
    (sym c.in_default.is ∙ c.revision_at.ensures) l.invariant.path

pub loop-id-preserved-in_ok-push : goal.loop-id-preserved-in_ok-push
loop-id-preserved-in_ok-push c =
    let l = c.loop-id in
    let first : into_iter_items l.id-iterator ≡ c.in-Some.id ∷ into_iter_items c.next.new.self = search rules in
    let counted : l.number ≡ length (c.in-Some.id ∷ into_iter_items c.next.new.self) = l.invariant.counted ∙ ap (λ vs. length vs) first in
    record {
      path = rw c.in_ok-push.ensures.items
          (goes_on c.args.ids.items (into_iter_items l.id-iterator) c.in-Some.id (into_iter_items c.next.new.self) l.number l.path.items c.in-Some-revision_at.rev first l.invariant.counted
          (sym c.in-Some-revision_at.is ∙ c.revision_at.ensures) l.invariant.path);
      counted = grind (arith, counted);
    }
