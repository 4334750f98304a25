use Rattle.std.proofs.Common.{◌≡◌, Some, true, rules}
use Rattle.couch_json.specs.Value.{member_of}
use Rattle.couch_json.specs.View.{view}
use Rattle.policy.specs.DesignDocuments.{is_index_object}
use Rattle.store.proofs.DeclaredFields.{is_index_at}
use Rattle.index.proofs.rebuilding.find_index.Goals as goal

pub returns-in-Some-member-clause-formed : goal.returns-in-Some-member-clause-formed
returns-in-Some-member-clause-formed c =
    let listed : is_index_object (view c.in-Some.indexes.now) ≡ true = search rules in
    let there : member_of (view c.in-Some.indexes.now) c.args.name.now ≡ Some (view c.in-Some-member.index.now) = search rules in
    is_index_at (view c.in-Some.indexes.now) c.args.name.now (view c.in-Some-member.index.now) listed there
