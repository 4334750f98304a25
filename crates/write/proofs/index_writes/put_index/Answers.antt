use Rattle.std.proofs.Common.{◌≡◌, None, Ok, option_map, refl, subst}
use Rattle.std.specs.FinMap as finite
use Rattle.couch_json.specs.Value.{null}
use Rattle.store.specs.Contents.{Contents, IfThere}
use Rattle.store.specs.Database.{Database, history_at}
use Rattle.store.specs.Writing.{addition_of, written_in}
use Rattle.write.specs.IndexWrites.{index_outcome}
use Rattle.write.specs.Terms.{terms_in}
use Rattle.write.proofs.Acceptances.{acceptable_in, index_alone_acceptable}
use Rattle.write.proofs.Names.{index-named}
use Rattle.write.proofs.Plannings.{made_there, plan_there}
use Rattle.write.proofs.index_writes.put_index.Goals as goal

pub returns-clause-ok : goal.returns-clause-ok
returns-clause-ok g c = λ honest.
    let id = c.args.id.now in
    let name = c.args.name.now in
    let fields = c.args.fields.now in
    let terms = c.in_ok-terms.terms in
    let write = c.in_ok-write.write in
    let before = c.in_ok-write.ensures.reads.goes_on.honest honest in
    let same = c.in_ok-terms.ensures.reads.same before in
    let now = finite.get (g.S.Store.contents c.args.store.now) c.args.db.now in
    let Outcome : Database → Type 0 = λ d. index_outcome terms id (history_at d id) name fields ≡ Ok (option_map (λ w. written_in (history_at d id) (addition_of w)) write) in
    let judged : IfThere now Outcome = subst (λ (x : Contents). IfThere (finite.get x c.args.db.now) Outcome) same (c.in_ok-write.ensures.ok honest) in
    made_there now id (λ t h. index_outcome t id h name fields) terms (terms_in c.args.caller.now c.args.db.now) write c.in_ok-plan_alone.field-0
    (c.in_ok-terms.ensures.terms before) judged (index-named terms id name fields) c.in_ok-plan_alone.ensures.writes

pub returns-clause-plan : goal.returns-clause-plan
returns-clause-plan g c = λ honest.
    let id = c.args.id.now in
    let name = c.args.name.now in
    let fields = c.args.fields.now in
    let terms = c.in_ok-terms.terms in
    let write = c.in_ok-write.write in
    let before = c.in_ok-write.ensures.reads.goes_on.honest honest in
    let same = c.in_ok-terms.ensures.reads.same before in
    let now = finite.get (g.S.Store.contents c.args.store.now) c.args.db.now in
    let Outcome : Database → Type 0 = λ d. index_outcome terms id (history_at d id) name fields ≡ Ok (option_map (λ w. written_in (history_at d id) (addition_of w)) write) in
    let judged : IfThere now Outcome = subst (λ (x : Contents). IfThere (finite.get x c.args.db.now) Outcome) same (c.in_ok-write.ensures.ok honest) in
    plan_there now id null (λ t h. index_outcome t id h name fields) terms (terms_in c.args.caller.now c.args.db.now) write (record { id = None; rev = None }) c.in_ok-plan_alone.field-0
    (c.in_ok-terms.ensures.terms before) judged (index-named terms id name fields)
    (λ d there. acceptable_in _ c.args.db.now d _ (g.met.S.Store.lawful c.args.store.now (c.in_ok-terms.ensures.reads.goes_on.honest before)) there
    (λ lawful. index_alone_acceptable (terms_in c.args.caller.now c.args.db.now d) d id name fields lawful c.requires))
    c.in_ok-plan_alone.ensures.writes c.in_ok-plan_alone.ensures.changed c.in_ok-plan_alone.ensures.may c.in_ok-plan_alone.ensures.results
    refl refl
