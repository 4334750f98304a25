-- What an edit that names no revision follows, by whether the history is live.
use Rattle.std.proofs.Common.{◌≡◌, Bool, true, false, not, cond, Option, Some, None, refl, sym, ap, ◌∙◌}
use Rattle.std.proofs.lemmas.Bool.{false≢true}
use Rattle.tree.specs.Revision.{Revision}
use Rattle.tree.specs.History.{HistoryContent, held_of, is_deleted, is_live, winner}
use Rattle.tree.proofs.Leaves.{live_winner, winner_mark}
use Rattle.write.specs.Admission.{implicit_parent}

pub extended_live : (h : HistoryContent) → is_live h ≡ true → implicit_parent h (winner h) ≡ None
extended_live h l =
    let x = live_winner h l in
    ap (implicit_parent h) x.1 ∙ ap (λ b. cond b (Some (Some x.0)) None) x.2

extended_deleted : (h : HistoryContent) (r : Revision) → not (is_deleted (held_of h r)) ≡ false → implicit_parent h (Some r) ≡ Some (Some r)
extended_deleted h r e = by (is_deleted (held_of h r)) e
  where
    by : (b : Bool) → not b ≡ false → cond b (Some (Some r)) None ≡ Some (Some r)
    by true e = refl
    by false e = absurd (false≢true (sym e))

pub extended_other : (h : HistoryContent) → is_live h ≡ false → implicit_parent h (winner h) ≡ Some (winner h)
extended_other h l = by (winner h) refl
  where
    by : (o : Option Revision) → winner h ≡ o → implicit_parent h o ≡ Some o
    by None e = refl
    by (Some r) e = extended_deleted h r (sym (winner_mark h r e) ∙ l)
