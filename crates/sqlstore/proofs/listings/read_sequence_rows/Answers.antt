use Rattle.sqlstore.proofs.Lemmas.{SeqRow, [], ap, map, map-append, rules, sequence_row, sequence_row_of, sequence_rows, sym, ◌++◌, ◌<◌, ◌^◌, ◌∙◌, ◌∷◌, ◌≡◌}
use Rattle.std.proofs.lemmas.List.{append_assoc}
use Rattle.std.proofs.lemmas.List.Elements.{All-push}
use Rattle.std.specs.Vec.Iter.{into_iter_items}
use Rattle.sqlstore.proofs.listings.read_sequence_rows.Goals as goal

pub loop-row-preserved : goal.loop-row-preserved
loop-row-preserved c =
    let l = c.loop-row in
    let one = c.in_ok-read_sequence_row.field-0 in
    let left = into_iter_items c.next.new.self in
    let first : into_iter_items l.row-iterator ≡ c.in-Some.row ∷ left = search rules in
    let read = sequence_rows l.read.items in
    let pushed = ap sequence_rows c.in_ok-push.ensures.items ∙ map-append sequence_row_of l.read.items (one ∷ []) ∙ ap (λ r. read ++ r ∷ []) c.in_ok-read_sequence_row.ensures.ok in (
      ap (λ rs. rs ++ map sequence_row left) pushed ∙ append_assoc read (sequence_row c.in-Some.row ∷ []) (map sequence_row left) ∙ sym (ap (λ rs. read ++ map sequence_row rs) first) ∙ l.invariant.0,
      rw c.in_ok-push.ensures.items (All-push (λ (r : SeqRow). r.sequence < 2 ^ 63) l.read.items one l.invariant.1 c.in_ok-read_sequence_row.ensures.bounded),
      search rules,
    )
