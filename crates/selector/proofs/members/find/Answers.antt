use Rattle.std.proofs.Common.{rules}
use Rattle.std.proofs.lemmas.Fn.{always_returns_same}
use Rattle.couch_json.specs.Collation.{collation}
use Rattle.couch_json.specs.View.{view}
use Rattle.selector.proofs.Searches.{searched, searched_place}
use Rattle.selector.proofs.members.find.Goals as goal

pub returns-clause-among : goal.returns-clause-among
returns-clause-among c =
    let facts = c.binary_search_by.ensures in
    let by_value = facts.position (λ y. collation (view y) (view c.args.value.now)) (always_returns_same _ _ _ (λ a r f called. search rules)) in
    searched (view c.args.value.now) c.args.values.now c.requires _ facts.bound by_value

pub returns-clause-place : goal.returns-clause-place
returns-clause-place c =
    let facts = c.binary_search_by.ensures in
    let by_value = facts.position (λ y. collation (view y) (view c.args.value.now)) (always_returns_same _ _ _ (λ a r f called. search rules)) in
    searched_place (view c.args.value.now) c.args.values.now _ facts.bound by_value
