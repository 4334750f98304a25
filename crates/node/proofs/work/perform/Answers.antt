use Rattle.std.proofs.Common.{sym, subst, Ok, Err}
use Rattle.couch_http.specs.Message.{message_of}
use Rattle.node.specs.Answer.{outcome_in_database}
use Rattle.node.specs.inner.Drafts.{outcome_of, work_of, writing_of}
use Rattle.node.specs.inner.Coming.{MatchesDefinition}
use Rattle.api.specs.Refusals.{and_then}
use Rattle.node.specs.declared.work.Work.{Work}
use Rattle.node.proofs.Comings.{work_stops}
use Rattle.node.proofs.work.perform.Goals as goal

pub returns-in-Err-clause-comes : goal.returns-in-Err-clause-comes
returns-in-Err-clause-comes g c = λ honest db there.
    let databases = g.S.Store.contents c.args.store.now in
    let caller = c.args.caller.now in
    let m = message_of c.args.request.now in
    let name = c.args.name.now in
    subst (λ (w : Work). MatchesDefinition (outcome_of databases) (Err c.in-Err.stop) (and_then (work_of w caller m name db) (λ d. Ok (outcome_in_database name d)))) (sym c.in-Write.is)
    (work_stops databases name db c.in-Err.stop (writing_of c.in-Write.writing caller m name db) (c.in-Err.ensures.works.comes honest db there))
