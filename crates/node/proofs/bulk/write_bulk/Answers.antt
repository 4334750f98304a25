use Rattle.std.proofs.Common.{rules}
use Rattle.store.specs.Database.{Database, history_at}
use Rattle.write.specs.Bulk.{outcomes}
use Rattle.write.specs.Planning.{Plans}
use Rattle.write.specs.Terms.{terms_in}
use Rattle.api.specs.BulkAsked.{bulk_asked}
use Rattle.node.proofs.Planned.{bulk_comes, of_there}
use Rattle.node.proofs.bulk.write_bulk.Goals as goal

pub returns : goal.returns
returns g c = record {
  works = record {
    comes = λ honest db there.
        let bulk = bulk_asked c.args.asked in
        bulk_comes c.args.caller.now bulk c.args.name.now db c.in_ok-value.value c.in-Ok.planned
        (of_there _ db (λ (d : Database). Plans d bulk.documents (outcomes (terms_in c.args.caller.now c.args.name.now d) bulk.new_edits (history_at d) bulk.documents) c.in-Ok.planned) there (c.in-Ok.ensures.plan honest))
        c.in-Ok.ensures.appends c.in_ok-value.ensures;
    may = search rules;
    own = search rules;
    ends = search rules;
    reads = search rules;
  };
}
