-- What reading a document gives is what was read of its winner.
use Rattle.std.specs.Prelude.{if◌then◌else◌}
use Rattle.std.proofs.Common.{◌≡◌, ℕ, Bool, true, false, List, Option, Some, None, Result, Ok, Err, option_map, refl, sym, ap, subst, ◌∙◌}
use Rattle.couch_json.specs.Value.{Value}
use Rattle.tree.specs.Revision.{Revision}
use Rattle.tree.specs.History.{HistoryContent, held_of, is_deleted, winner}
use Rattle.tree.specs.declared.entry.Held.{Held}
use Rattle.tree.proofs.Shown.{inside}
use Rattle.store.specs.Database.{Database, history_at}
use Rattle.store.specs.Winning.{held_winner}
use Rattle.read.specs.Shown.{document_by, found, shown_document, winning_document}
use Rattle.read.specs.declared.fault.ReadFault.{ReadFault}
use Rattle.read.specs.declared.fault.ReadFault.TheVariants.{Missing, Deleted}

-- what is so of each history with this winner is so of the one of the database, where it was found
pub won_document : (o : Option Database) (id : List ℕ) (revs : Bool) (w : Option (Revision × Option Held)) (r : Result Value ReadFault) → option_map (λ (d : Database). held_winner (history_at d id)) o ≡ Some w
    → ((d : Database) → o ≡ Some d → held_winner (history_at d id) ≡ w → winning_document id (history_at d id) (winner (history_at d id)) revs ≡ r)
    → option_map (λ (d : Database). document_by id (history_at d id) None revs) o ≡ Some r
won_document None id revs w r is said = absurd (cc)
won_document (Some d) id revs w r is said = ap Some (said d refl (inside _ w is))

module _ (h : HistoryContent) where
  pub won_some : (r : Revision) (held : Held) → held_winner h ≡ Some (r, Some held) → (winner h ≡ Some r) × (held_of h r ≡ Some held)
  won_some r held is = by (winner h) refl is
    where
      by : (o : Option Revision) → winner h ≡ o → option_map {U = Revision × Option Held} (λ (q : Revision). (q, held_of h q)) o ≡ Some (r, Some held) → (winner h ≡ Some r) × (held_of h r ≡ Some held)
      by None at up = absurd (cc)
      by (Some q) at up =
          let both = inside (q, held_of h q) (r, Some held) up in
          let rev : q ≡ r = ap (λ (p : Revision × Option Held). p.0) both in
          (at ∙ ap Some rev, ap (held_of h) (sym rev) ∙ ap (λ (p : Revision × Option Held). p.1) both)

  pub won_live : (id : List ℕ) (revs : Bool) (r : Revision) (held : Held) (document : Value) → held.deleted ≡ false → held_winner h ≡ Some (r, Some held) → Some document ≡ shown_document id h r revs
      → winning_document id h (winner h) revs ≡ Ok document
  won_live id revs r held document live is shown =
      let won = won_some r held is in
      ap (λ o. winning_document id h o revs) won.0 ∙ ap (λ b. if b then Err Deleted else found (shown_document id h r revs)) (ap is_deleted won.1 ∙ live) ∙ ap found (sym shown)
