-- What rows of a document tell that don't fit together.
use Rattle.sqlstore.proofs.Common.{Answers, Err, Ghosts, None, Option, Result, Some, SqlStore, StoreFault, ap, is_honest, option_map, refl, subst, sym, ◌∙◌, ◌≡◌}
use Rattle.store.specs.declared.fault.StoreFault.TheVariants.{Damaged}
use Rattle.tree.proofs.Outlines.{winner_in}
use Rattle.tree.specs.History.{HistoryContent, winner}
use Rattle.tree.specs.Outline.{marked_revision, marked_winner, outline_of}
use Rattle.tree.specs.Revision.{Revision}
use Rattle.tree.specs.declared.marked_rev.MarkedRev.{MarkedRev}

-- what is told to be damaged where an honest store has no damage
pub damaged : {S X A : Type 0} (g : Ghosts S) (old new : SqlStore S g) (view : X → A) (defined : Option A) (r : Result X StoreFault) (fault : StoreFault) → r ≡ Err fault → fault ≡ Damaged → ¬ (is_honest g new) → Answers g old new view defined r
damaged {X} g old new view defined r fault is told dishonest = subst (Answers g old new view defined) (sym (is ∙ ap (λ f. Err f) told)) dishonest

pub rev_marked : (h : HistoryContent) → option_map (λ (w : MarkedRev). w.rev) (marked_winner h) ≡ winner h
rev_marked h = by (winner h)
  where
    by : (o : Option Revision) → option_map (λ (w : MarkedRev). w.rev) (option_map (marked_revision h) o) ≡ o
    by None = refl
    by (Some r) = refl

-- the first leaf of the outline is the winner that was found
pub outline_agrees : (h outline : HistoryContent) (found : Option MarkedRev) → found ≡ marked_winner h → outline ≡ outline_of h → option_map (λ (w : MarkedRev). w.rev) found ≡ winner outline
outline_agrees h outline found won is = ap (option_map (λ (w : MarkedRev). w.rev)) won ∙ rev_marked h ∙ sym (winner_in h) ∙ ap winner (sym is)
