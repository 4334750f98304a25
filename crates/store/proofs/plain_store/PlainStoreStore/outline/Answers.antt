use Rattle.std.proofs.Common.{◌≡◌, Some, option_map, sym, ap, ◌∙◌, rules}
use Rattle.std.specs.FinMap as map
use Rattle.tree.specs.Outline.{outline_of}
use Rattle.store.specs.Database.{history_at}
use Rattle.store.specs.Plain.{content, contents_of, history_after}
use Rattle.store.specs.Writing.{additions}
use Rattle.store.proofs.Contents.{history_at-content}
use Rattle.store.proofs.plain_store.PlainStoreStore.outline.Goals as goal

pub returns-in_ok-replay_outline-in-Some-clause-answer : goal.returns-in_ok-replay_outline-in-Some-clause-answer
returns-in_ok-replay_outline-in-Some-clause-answer c =
    let d = c.in-Some.database.now in
    let there : map.get (contents_of c.args.self.now.databases.items) c.args.name.now ≡ Some (content c.in-Some.database.now) = search rules in
    let replayed : c.in_ok-replay_outline-in-Some.field-0 ≡ outline_of (history_after map.empty c.args.id.now (additions c.in-Some.database.now.writes.items)) = search rules in
    λ _. ap (option_map (λ db. outline_of (history_at db c.args.id.now))) there ∙ ap Some (ap outline_of (history_at-content d c.args.id.now) ∙ sym replayed)
