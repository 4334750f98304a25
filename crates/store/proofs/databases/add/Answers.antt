use Rattle.std.proofs.Common.{◌≡◌, [], ◌∷◌, ◌++◌, ap, ◌∙◌, rules}
use Rattle.std.specs.FinMap as map
use Rattle.store.specs.Contents.{new_database}
use Rattle.store.specs.Database.{empty_database}
use Rattle.store.specs.Plain.{content, contents_of, locals_of, written_content}
use Rattle.store.specs.Writing.{additions}
use Rattle.store.specs.declared.plain.PlainDatabase.{PlainDatabase}
use Rattle.store.proofs.Contents.{with_locals}
use Rattle.store.proofs.LocalMaps.{no_locals}
use Rattle.store.proofs.Plains.{contents_of-push}
use Rattle.store.proofs.databases.add.Goals as goal

pub returns-clause-ok : goal.returns-clause-ok
returns-clause-ok c =
    let es = c.args.databases.now.items in
    let name = c.args.name.now in
    let d : PlainDatabase = record { writes = c.new.result; security = c.in_ok-closed.field-0; locals = c.new-2.result } in
    let pushed : c.push.new.self.items ≡ c.args.databases.now.items ++ (c.in_ok-copy.field-0, record { writes = c.new.result; security = c.in_ok-closed.field-0; locals = c.new-2.result }) ∷ [] = search rules in
    let s = c.in_ok-closed.field-0 in
    let none : locals_of c.new-2.result.entries ≡ map.empty = ap locals_of c.new-2.ensures.empty ∙ no_locals in
    let fresh : content d ≡ new_database =
    ap (λ ws. with_locals (written_content s (additions ws)) (locals_of c.new-2.result.entries)) c.new.ensures.items
    ∙ ap (with_locals (empty_database s)) none
    ∙ ap empty_database c.in_ok-closed.ensures in
    ap contents_of (pushed ∙ ap (λ n. es ++ (n, d) ∷ []) c.in_ok-copy.ensures) ∙ contents_of-push es name d c.requires ∙ ap (map.insert (contents_of es) name) fresh
