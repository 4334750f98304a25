use Rattle.std.proofs.Common.{◌≡◌, Err, Ok, Result, subst, sym, rules}
use Rattle.couch_http.specs.Message.{message_of}
use Rattle.api.specs.Asking.{plain}
use Rattle.node.specs.Causes.{stop_of_request}
use Rattle.node.specs.inner.Coming.{MatchesDefinition}
use Rattle.node.specs.inner.Drafts.{done_of}
use Rattle.node.specs.Works.{documents_written}
use Rattle.node.specs.declared.draft.WriteDraft.{WriteDraft}
use Rattle.node.specs.declared.early_end.EarlyEnd.{EarlyEnd}
use Rattle.node.proofs.Comings.{bulk_stops}
use Rattle.node.proofs.bulk.write_documents.Goals as goal

pub returns-in_err-asked : goal.returns-in_err-asked
returns-in_err-asked g c =
    let m = message_of c.args.request.now in
    let stopped : c.from_residual-in_err-asked.result ≡ Err (stop_of_request c.in_err-asked.field-0.0) = search rules in
    let plainly : plain m ≡ Ok c.in_ok-without_parameters.field-0 = search rules in
    record {
      works = record {
        comes = λ honest db there.
            subst (λ (r : Result WriteDraft EarlyEnd). MatchesDefinition (done_of db) r (documents_written c.args.caller.now m c.args.name.now db)) (sym stopped)
            (bulk_stops c.args.caller.now m c.args.name.now db c.in_ok-without_parameters.field-0 c.in_err-asked.field-0.0 plainly c.in_err-asked.ensures);
        may = search rules;
        own = search rules;
        ends = search rules;
        reads = search rules;
      };
    }
