-- What a database says of itself: its name, how many documents it has, not deleted and deleted, and its update sequence.
-- CouchDB manual, api/database/common (`GET /{db}`: `db_name`, `doc_count`, `doc_del_count`, `update_seq`); that it says no more is this server's own.
use Rattle.std.specs.Prelude.{ℕ, List, codes, pos}
use Rattle.std.specs.FinMap.{entries}
use Rattle.couch_json.specs.Value.{Value, whole, text, object, no_members, member}
use Rattle.store.specs.Database.{Database}
use Rattle.store.specs.Pages.{gone_count, live_count}

-- the reply to a GET of a database, by its parts
abbrev pub information_by : List ℕ → ℕ → ℕ → ℕ → Value
information_by name documents deleted sequence =
    object
    (member (codes "db_name") (text name)
    (member (codes "doc_count") (whole (pos documents))
    (member (codes "doc_del_count") (whole (pos deleted)) (member (codes "update_seq") (whole (pos sequence)) no_members))))

-- what the database of this name says
abbrev pub information : List ℕ → Database → Value
information name db = information_by name (live_count (entries db.documents)) (gone_count (entries db.documents)) db.length
