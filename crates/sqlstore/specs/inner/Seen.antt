-- What queries see of a document, as the code holds it.
-- CouchDB manual, api/database/find: what queries see is said by `Indexes` of `store`.
use Rattle.std.specs.Prelude.{None, Option, Some}
use Rattle.couch_json.specs.Value.{Value}
use Rattle.couch_json.specs.View.{view}
use Rattle.sqlstore.specs.declared.seen.Seen.{Seen}
use Rattle.sqlstore.specs.declared.seen.Seen.TheVariants.{Hidden, Shown, Unwritten}

-- the document that is shown, none where queries see nothing of it, if it was ever written
abbrev pub values_seen : Seen → Option (Option Value)
values_seen Unwritten = None
values_seen Hidden = Some None
values_seen (Shown document) = Some (Some (view document))
