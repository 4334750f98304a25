use Rattle.std.proofs.Common.{◌∙◌, ap₂}
use Rattle.std.specs.FinMap as map
use Rattle.store.specs.Plain.{locals_of}
use Rattle.store.proofs.LocalMaps.{locals_with}
use Rattle.store.proofs.locals.put_local.Goals as goal

pub returns-clause-ok : goal.returns-clause-ok
returns-clause-ok c =
    locals_with c.args.locals.now.entries c.insert.new.self.entries c.in_ok-copy.field-0 c.in_ok-document.document c.in_ok-insert.ensures.updates.0
    ∙ ap₂ (map.insert (locals_of c.args.locals.now.entries)) c.in_ok-copy.ensures c.in_ok-document.ensures
