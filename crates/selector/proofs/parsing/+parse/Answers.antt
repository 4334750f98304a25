use Rattle.std.proofs.Common.{◌≡◌, ◌∷◌, ◌++◌, ◌+◌, [], None, false, drop, length, nat_eq, string_bytes, subst, sym, ap, ◌∙◌, arith, rules}
use Rattle.std.proofs.lemmas.List.{drop_all}
use Rattle.couch_json.specs.View.{view, items_view, members_view}
use Rattle.couch_json.specs.Value.{member}
use Rattle.couch_json.proofs.Depths.{entry_below, left_from}
use Rattle.couch_json.proofs.value.Json.TheLaws.{the_size}
use Rattle.selector.specs.Grammar.{first, member_fault, selector_fault, list_fault, members_fault, items_fault}
use Rattle.selector.specs.LookedUp.{AreLookedUp}
use Rattle.selector.specs.Operators.{operator_named}
use Rattle.selector.specs.View.{name_of, value_of}
use Rattle.selector.proofs.Joined.{members_then, members_then-no_members, members_then-push}
use Rattle.selector.proofs.ListTruths.{looked_up-push}
use Rattle.selector.proofs.Lists.{filled_fault-there}
use Rattle.selector.proofs.parsing.+parse.Goals as goal

pub parse_members-loop-name-preserved : goal.parse_members-loop-name-preserved
parse_members-loop-name-preserved t c =
    let l = c.loop-name in
    let done = l.conditions.items in
    let new = c.in_ok-parse_member.field-0 in
    let items = c.as_slice-name-items.result.now in
    let e = c.loop-name-item.result in
    let steps = left_from items l.name-index e c.loop-name-test.true c.loop-name-item.is in
    let left = members_view (drop (l.name-index + 1) items) in
    let pushed : c.push.new.self.items ≡ done ++ new ∷ [] = search rules in
    let name : name_of new ≡ string_bytes e.0 = search rules in
    let value : value_of new ≡ view e.1 = search rules in
    let taken : member (name_of new) (value_of new) left ≡ members_view (drop l.name-index items) =
    (λ i. member (name i) (value i) left) ∙ sym (ap members_view steps) in
    let n = string_bytes e.0 in
    let v = view e.1 in
    let lawful : member_fault c.args.in_rule (operator_named n) n v (selector_fault c.args.in_rule v (c.args.level + 1)) (list_fault c.args.in_rule v (c.args.level + 1)) ≡ None = search rules in
    record {
      looked_up = subst AreLookedUp (sym pushed) (looked_up-push done new l.invariant.looked_up c.in_ok-parse_member.ensures.looked_up);
      members = ap (λ cs. members_then cs left) pushed ∙ members_then-push done new left ∙ ap (members_then done) taken ∙ l.invariant.members;
      fault = l.invariant.fault ∙ ap (λ es. members_fault c.args.in_rule (members_view es) c.args.level) steps
          ∙ ap (λ f. first f (members_fault c.args.in_rule left c.args.level)) lawful;
    }

pub parse_members-returns-clause-members : goal.parse_members-returns-clause-members
parse_members-returns-clause-members t c =
    let l = c.loop-name in
    let none = ap members_view (sym (drop_all l.name-index c.as_slice-name-items.result.now (omega (arith, c.loop-name-test.false)))) in
    sym (members_then-no_members l.conditions.items) ∙ ap (members_then l.conditions.items) none ∙ l.invariant.members

pub parse_items-loop-item-init : goal.parse_items-loop-item-init
parse_items-loop-item-init t c =
    let items = c.deref-item-items.result.now in
    let there : nat_eq (length items) 0 ≡ false = search rules in
    record {
      items = search rules;
      fault = filled_fault-there items (items_fault c.args.in_rule (items_view items) c.args.level) there;
    }

pub parse_members-parse_member-requires : goal.parse_members-parse_member-requires
parse_members-parse_member-requires t c =
    (omega (arith, c.decreases, entry_below the_size _ _ _ _ c.as_slice-name-items.ensures.entries c.loop-name-test.true c.loop-name-item.is), omega arith)
