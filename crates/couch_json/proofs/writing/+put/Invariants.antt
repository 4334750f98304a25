use Rattle.std.proofs.Common.{◌≡◌, ◌++◌, drop}
use Rattle.couch_json.specs.Lawful.{AreLawfulItems, AreLawfulMembers}
use Rattle.couch_json.specs.View.{items_view, members_view}
use Rattle.couch_json.specs.inner.Written.{elements_tokens, object_tokens}
use Rattle.couch_json.proofs.writing.+put.Given as goal

abbrev pub invariant-put_items-loop-item : goal.invariant-put_items-loop-item
invariant-put_items-loop-item l = record {
  written : l.out.tokens ++ elements_tokens (items_view (drop l.item-index l.item-items)) ≡ l.initial.out.tokens ++ elements_tokens (items_view l.item-items);
  before : l.out.before ≡ l.initial.out.before;
  lawful : AreLawfulItems (items_view (drop l.item-index l.item-items)) → AreLawfulItems (items_view l.item-items);
}

abbrev pub invariant-put_members-loop-name : goal.invariant-put_members-loop-name
invariant-put_members-loop-name l = record {
  written : l.out.tokens ++ object_tokens (members_view (drop l.name-index l.name-items)) ≡ l.initial.out.tokens ++ object_tokens (members_view l.members.entries);
  before : l.out.before ≡ l.initial.out.before;
  lawful : AreLawfulMembers (members_view (drop l.name-index l.name-items)) → AreLawfulMembers (members_view l.members.entries);
}
