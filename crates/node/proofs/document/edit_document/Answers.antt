use Rattle.std.proofs.Common.{rules, ◌≡◌, [], ◌∷◌, Ok}
use Rattle.couch_json.specs.View.{view}
use Rattle.store.specs.Database.{Database}
use Rattle.write.specs.Admission.{admission}
use Rattle.write.specs.Bulk.{as_outcome, writes_alone}
use Rattle.write.specs.Planning.{Plans, planned_writes}
use Rattle.write.specs.Terms.{terms_in}
use Rattle.node.proofs.Planned.{edit_comes, of_there}
use Rattle.node.proofs.document.edit_document.Goals as goal

pub returns : goal.returns
returns g c = record {
  works = record {
    comes = λ honest db there.
        let caller = c.args.caller.now in
        let name = c.args.name.now in
        let id = c.args.id.now in
        let v = view c.args.document in
        let planned = c.in-Ok.planned in
        edit_comes caller c.args.status id db v (admission (terms_in caller name db) db id c.args.rev v) planned c.made_revision-rev.result c.in_ok-value.value
        (of_there _ db (λ (d : Database). writes_alone (as_outcome (admission (terms_in caller name d) d id c.args.rev v)) ≡ Ok (planned_writes d planned.changes)) there (c.in-Ok.ensures.ok honest))
        (of_there _ db (λ (d : Database). Plans d (v ∷ []) (as_outcome (admission (terms_in caller name d) d id c.args.rev v) ∷ []) planned) there (c.in-Ok.ensures.plan honest))
        (rw c.deref.ensures.value at c.made_revision-rev.ensures) c.in_ok-value.ensures;
    may = search rules;
    own = search rules;
    ends = search rules;
    reads = search rules;
  };
}
