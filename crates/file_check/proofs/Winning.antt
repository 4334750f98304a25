-- What is read of the winner of a document alone.
use Rattle.transactions.proofs.Common.{None, Option, Revision, Some, ap, refl, sym, ◌∙◌, ◌≡◌}
use Rattle.std.specs.FinMap as finite
use Rattle.std.specs.Prelude.{option_and_then, option_map}
use Rattle.store.specs.Winning.{single, single_by, winner_alone}
use Rattle.tree.proofs.Shown.{inside}
use Rattle.tree.specs.History.{HistoryContent, held_of, winner}
use Rattle.tree.specs.Outline.{marked_revision, marked_winner}
use Rattle.tree.specs.declared.entry.Entry.{Entry}
use Rattle.tree.specs.declared.marked_rev.MarkedRev.{MarkedRev}

-- where there is no winner its history is empty
pub alone_none : (h : HistoryContent) → marked_winner h ≡ None → finite.empty ≡ winner_alone h
alone_none h none = by (winner h) none
  where
    by : (w : Option Revision) → option_map (marked_revision h) w ≡ None → finite.empty ≡ single_by h w
    by None is = refl
    by (Some r) is = absurd (cc)

-- the winner with what is known of it is the winner alone
pub alone_known : (h : HistoryContent) (m : MarkedRev) (known : Option Entry) → marked_winner h ≡ Some m → known ≡ finite.get h m.rev → single m.rev (option_and_then (λ (e : Entry). e.held) known) ≡ winner_alone h
alone_known h m known won is = by (winner h) won
  where
    by : (w : Option Revision) → option_map (marked_revision h) w ≡ Some m → single m.rev (option_and_then (λ (e : Entry). e.held) known) ≡ single_by h w
    by None up = absurd (cc)
    by (Some r) up =
        let rev : m.rev ≡ r = ap (λ (x : MarkedRev). x.rev) (sym (inside _ _ up)) in
        ap (λ (k : Option Entry). single m.rev (option_and_then (λ (e : Entry). e.held) k)) is ∙ ap (λ (q : Revision). single q (held_of h q)) rev
