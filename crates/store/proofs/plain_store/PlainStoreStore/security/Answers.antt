use Rattle.std.proofs.Common.{◌≡◌, Some, option_map, sym, ap, ◌∙◌, rules}
use Rattle.std.specs.FinMap as map
use Rattle.store.specs.Plain.{content, contents_of}
use Rattle.store.proofs.Contents.{security-content}
use Rattle.store.proofs.plain_store.PlainStoreStore.security.Goals as goal

pub returns-in_ok-copy-in-Some-clause-answer : goal.returns-in_ok-copy-in-Some-clause-answer
returns-in_ok-copy-in-Some-clause-answer c =
    let d = c.in-Some.database.now in
    let there : map.get (contents_of c.args.self.now.databases.items) c.args.name.now ≡ Some (content c.in-Some.database.now) = search rules in
    let copied : c.in_ok-copy-in-Some.field-0 ≡ c.in-Some.database.now.security = search rules in
    λ _. ap (option_map (λ db. db.security)) there ∙ ap Some (security-content d ∙ sym copied)
