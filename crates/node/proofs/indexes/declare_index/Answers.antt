use Rattle.std.proofs.Common.{◌≡◌, [], ◌∷◌, Ok, ap, ◌∙◌, rules}
use Rattle.couch_json.specs.Value.{null}
use Rattle.find.specs.IndexRead.{index_asked}
use Rattle.store.specs.Database.{Database}
use Rattle.write.specs.Bulk.{DocumentOutcome, writes_alone}
use Rattle.write.specs.IndexWrites.{index_admission}
use Rattle.write.specs.Planning.{Plans, planned_writes}
use Rattle.write.specs.Terms.{terms_in}
use Rattle.node.specs.Works.{index_done}
use Rattle.node.proofs.Planned.{index_comes, of_there}
use Rattle.node.proofs.indexes.declare_index.Goals as goal

pub returns : goal.returns
returns g c = record {
  works = record {
    comes = λ honest db there.
        let caller = c.args.caller.now in
        let name = c.args.name.now in
        let asked = index_asked c.args.index.now in
        let planned = c.in-Ok.planned in
        let named : asked.name ≡ c.deref.result.now = search rules in
        let fields : asked.fields ≡ c.deref-2.result.now = search rules in
        let outcome : Database → DocumentOutcome = λ d. index_admission (terms_in caller name d) d asked.design c.deref.result.now c.deref-2.result.now in
        let same : index_admission (terms_in caller name db) db asked.design asked.name asked.fields ≡ outcome db =
        λ i. index_admission (terms_in caller name db) db asked.design (named i) (fields i) in
        ap (index_done caller asked.design asked.name) same
        ∙ index_comes caller asked.design asked.name db (outcome db) planned c.says_made.result c.in_ok-value.value
        (of_there _ db (λ (d : Database). writes_alone (outcome d) ≡ Ok (planned_writes d planned.changes)) there (c.in-Ok.ensures.ok honest))
        (of_there _ db (λ (d : Database). Plans d (null ∷ []) (outcome d ∷ []) planned) there (c.in-Ok.ensures.plan honest))
        c.in-Ok.ensures.appends c.in-Ok.ensures.unrefused
        (rw c.deref-3.ensures.value at c.says_made.ensures) c.in_ok-value.ensures;
    may = search rules;
    own = search rules;
    ends = search rules;
    reads = search rules;
  };
}
