-- An index that the winner of a design document declares is declared in the database.
use Rattle.std.proofs.Common.{◌≡◌, ℕ, List, sym, ap, ◌∙◌}
use Rattle.tree.specs.History.{HistoryContent}
use Rattle.store.proofs.Winnings.{fields_alone}
use Rattle.store.specs.Database.{Database, history_at}
use Rattle.store.specs.Indexes.{index_fields_of}
use Rattle.store.specs.Winning.{winner_alone}
use Rattle.find.specs.IndexRead.{index_asked}
use Rattle.find.specs.inner.Planning.{MayServe, MayServeBy}
use Rattle.find.specs.declared.plan.Plan.{Plan}
use Rattle.find.specs.declared.query.Query.{Query}

pub served_by : (query : Query) (d : Database) (design : List ℕ) (h : HistoryContent) (p : Plan) → h ≡ winner_alone (history_at d design) → p.index.design ≡ design
    → MayServeBy (index_asked p.index) p.rows.range query h → MayServe (index_asked p.index) p.rows.range query d
served_by query d design h p read same serves =
    let index = index_asked p.index in
    record {
      declared =
          sym (fields_alone (history_at d index.design) index.design index.name)
          ∙ ap (λ x. index_fields_of index.design x index.name) (ap (λ i. winner_alone (history_at d i)) same ∙ sym read)
          ∙ serves.declared;
      covers = serves.covers;
    }
