use Rattle.std.proofs.Common.{Some, option_map, sym, ap, ◌∙◌, arith}
use Rattle.std.specs.Prelude.{option_copied}
use Rattle.couch_json.specs.View.{view}
use Rattle.selector.specs.Truth.{is_true}
use Rattle.selector.specs.declared.selector.Selector.TheDeep.{deep-Condition}
use Rattle.selector.proofs.ListTruths.{list_true, most_at}
use Rattle.selector.proofs.Lists.{each_of_there, most_within}
use Rattle.selector.proofs.matching.+truth.Goals as goal

pub is_true_of_each-returns-then-not-is_empty : goal.is_true_of_each-returns-then-not-is_empty
is_true_of_each-returns-then-not-is_empty t c =
    let items = c.args.items.now in
    let there = sym c.is_empty.ensures ∙ c.if-not-is_empty.true in
    c.is_true_of_all.ensures ∙ each_of_there (λ v. is_true (view c.args.root.now) c.args.selector.now (Some v)) items there

pub is_condition_true-list_decides-requires : goal.is_condition_true-list_decides-requires
is_condition_true-list_decides-requires t c =
    (omega (arith, c.decreases, most_within (deep-Condition c.args.condition.now) c.in-List.selectors.items (ap deep-Condition c.in-List.is)), tt)

pub is_condition_true-returns-in-List : goal.is_condition_true-returns-in-List
is_condition_true-returns-in-List t c =
    let step = c.in-List in
    λ looked. list_true c.args.condition.now step.operator step.selectors step.lookup step.is looked
    (view c.args.root.now) (option_map (λ v. view v.now) c.args.current) c.list_decides.result c.is_true_by.result c.is_true_by.ensures c.list_decides.ensures

pub decides_at-is_true-requires : goal.decides_at-is_true-requires
decides_at-is_true-requires t c =
    (omega (arith, c.decreases, most_at c.args.selectors.now.items c.args.place c.in-Some.selector.now (sym c.selector_at.ensures ∙ ap option_copied c.in-Some.is)), tt)
