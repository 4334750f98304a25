use Rattle.std.proofs.Common.{◌≡◌, ℕ, IsTrue, List, Some, sym, subst, rules}
use Rattle.couch_json.specs.View.{view}
use Rattle.store.specs.Lawful.{IsBody}
use Rattle.tree.specs.DocumentId.{is_local_id}
use Rattle.write.specs.LocalWrites.{local_body, next_number}
use Rattle.write.proofs.LocalBodies.{local_body-Some, number_is_lawful}
use Rattle.write.proofs.local_writes.plan_local.Goals as goal

pub returns-clause-may : goal.returns-clause-may
returns-clause-may c =
    let stripped : local_body (view c.args.document) ≡ Some (view c.in-Some-strip_local.body) = search rules in
    let numbered : next_number c.args.stored ≡ Some c.in-Some-next_number.number = search rules in
    let number = number_is_lawful c.args.stored c.in-Some-next_number.number numbered in
    λ local _. record {
      named = subst (λ (x : List ℕ). IsTrue (is_local_id x)) (sym c.in_ok-copy-2.ensures) local;
      first = number.0;
      last = number.1;
      body = subst IsBody (sym c.new-body.ensures) (local_body-Some (view c.args.document) (view c.in-Some-strip_local.body) stripped);
    }
