-- What is held of a known revision is what the history shows of it.
use Rattle.std.proofs.Common.{◌≡◌, Some, ap, option_map, rules, sym, ◌∙◌}
use Rattle.std.specs.FinMap as map
use Rattle.std.specs.Prelude.{option_and_then}
use Rattle.couch_json.specs.View.{view}
use Rattle.tree.proofs.Shown.{inside}
use Rattle.tree.specs.History.{held_of}
use Rattle.tree.specs.declared.entry.Entry.{Entry}
use Rattle.store.specs.Database.{Database, history_at}
use Rattle.read.proofs.shown.read_shown.Goals as goal

pub returns-clause-ok : goal.returns-clause-ok
returns-clause-ok g c honest d there same =
    let id = c.args.id.now in
    let rev = c.args.rev.now in
    let h = history_at d id in
    let known : map.get h rev ≡ c.in_ok-known.known =
    inside _ _ (sym (ap (option_map (λ (db : Database). map.get (history_at db id) rev)) there) ∙ c.in_ok-known.ensures.answer honest) in
    let taken : option_and_then (λ (e : Entry). e.held) c.in_ok-known.known ≡ Some (record { deleted = c.in-Some.deleted; body = view c.in-Some.body }) = search rules in
    let held : held_of h rev ≡ Some (record { deleted = c.in-Some.deleted; body = view c.in-Some.body }) =
    ap (option_and_then (λ (e : Entry). e.held)) known ∙ taken in
    c.in_ok-show_held.ensures h same held
