use Rattle.std.proofs.Common.{◌≡◌, ◌∙◌, ap, map, refl}
use Rattle.std.specs.FinMap as finite
use Rattle.couch_json.specs.View.{view}
use Rattle.store.specs.Contents.{Contents}
use Rattle.store.specs.Database.{Database, history_at}
use Rattle.write.specs.Bulk.{all_told, outcomes, writes_in}
use Rattle.write.specs.Terms.{Terms, terms_in}
use Rattle.write.proofs.Acceptances.{acceptable_in, all_acceptable}
use Rattle.write.proofs.Plannings.{all_planned, if_there}
use Rattle.write.proofs.bulk_writes.bulk.Goals as goal

pub returns-clause-plan : goal.returns-clause-plan
returns-clause-plan g c = λ honest.
    let before = c.in_ok-writes.ensures.reads.goes_on.honest honest in
    let same = c.in_ok-terms.ensures.reads.same before in
    let own = terms_in c.args.caller.now c.args.db.now in
    let read = if_there (λ (d : Database). c.in_ok-terms.terms ≡ own d) _ in
    all_planned _ (map view c.args.documents.items) (λ d. outcomes (own d) c.args.new_edits (history_at d) (map view c.args.documents.items)) _
    (λ d there. c.in_ok-writes.ensures.writes honest d (ap (λ (x : Contents). finite.get x c.args.db.now) same ∙ there)
    ∙ ap (λ (t : Terms). writes_in (outcomes t c.args.new_edits (history_at d) (map view c.args.documents.items))) (read d there (c.in_ok-terms.ensures.terms before)))
    (λ d. refl) (λ d may. may)
    (λ d there. acceptable_in _ c.args.db.now d _ (g.met.S.Store.lawful c.args.store.now (c.in_ok-terms.ensures.reads.goes_on.honest before)) there
    (all_acceptable (own d) c.args.new_edits d (map view c.args.documents.items)))
    (λ d there. c.in_ok-writes.ensures.results honest d (ap (λ (x : Contents). finite.get x c.args.db.now) same ∙ there)
    ∙ ap (λ (t : Terms). all_told (map view c.args.documents.items) (outcomes t c.args.new_edits (history_at d) (map view c.args.documents.items))) (read d there (c.in_ok-terms.ensures.terms before)))
