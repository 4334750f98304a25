-- What a node's reply to a call of a pass says of the database, where the pass takes it in.
-- CouchDB manual, api/database/changes, api/database/misc (`_revs_diff`) and api/document/common (`open_revs`).
use Rattle.std.specs.Prelude.{◌≡◌, ◌≤◌, ℕ, List, Option, Some, IfSome, Ok}
use Rattle.std.specs.FinMap.{get}
use Rattle.auth.specs.Callers as auth
use Rattle.couch_http.specs.Reply.{Reply}
use Rattle.couch_json.specs.Canonical.{canonical}
use Rattle.couch_json.specs.Lawful.{IsLawful}
use Rattle.couch_json.specs.Value.{Value}
use Rattle.couch_json.specs.Range.{greatest_count}
use Rattle.store.specs.Contents.{Contents}
use Rattle.store.specs.Database.{Database, HasSequences}
use Rattle.node.specs.Runs.{Steps}
use Rattle.repl.specs.Calls.{Revisions, compare_revisions, documents_value, list_changes, open_revisions, push_documents, request_of, revisions_value, texts_value}
use Rattle.repl.specs.Configuration.{PassConfiguration}
use Rattle.repl.specs.Replies.{Changes, Opened, changes_listed, differences_read, documents_pushed, revisions_opened}
use Rattle.repl.specs.declared.side.Side.TheVariants.{Source, Target}
use Rattle.passes.specs.Owed.{AreDistinct, Compares, Names, Opens, Pushes}
use Rattle.passes.specs.Spelled.{AreBytes}

-- the database of this name is there, and a step reads it and changes nothing
pub record ReadsDatabase (before : Contents) (name : List ℕ) (after : Contents) (told : Database → Type 0) : Type 0 where
  pub db : Database
  pub there : get before name ≡ Some db
  pub same : after ≡ before
  pub says : told db

-- the database of this name is there afterwards
pub record Leaves (after : Contents) (name : List ℕ) (told : Database → Type 0) : Type 0 where
  pub db : Database
  pub there : get after name ≡ Some db
  pub says : told db

-- a list of changes that is taken in names the leaves of the source
abbrev pub ListingsAreTrue : Type 0
ListingsAreTrue =
    (c : auth.Configuration) (before : Contents) (k : PassConfiguration) (since : ℕ) (most : Option ℕ) (r : Reply) (after : Contents) (listed : Changes) → AreBytes k.source_db
    → since ≤ greatest_count → IfSome most (λ n. n ≤ greatest_count) → Steps c before (request_of k Source (list_changes since most)) r after
    → changes_listed r.status r.body ≡ Ok listed → ReadsDatabase before k.source_db after (λ db. HasSequences db → Names db since most listed)

-- a comparison that is taken in tells of all that the target doesn't know
abbrev pub ComparisonsAreTrue : Type 0
ComparisonsAreTrue =
    (c : auth.Configuration) (before : Contents) (k : PassConfiguration) (leaves missing : List Revisions) (r : Reply) (after : Contents) → AreBytes k.target_db → AreDistinct leaves
    → IsLawful (revisions_value leaves) → Steps c before (request_of k Target (compare_revisions leaves)) r after → differences_read leaves r.status r.body ≡ Ok missing
    → ReadsDatabase before k.target_db after (λ db. Compares db leaves missing)

-- of opened revisions that are taken in each came, or is reported
abbrev pub OpeningsAreTrue : Type 0
OpeningsAreTrue =
    (c : auth.Configuration) (before : Contents) (k : PassConfiguration) (row : Revisions) (opened : List Opened) (r : Reply) (after : Contents) → AreBytes k.source_db → AreBytes row.id
    → AreBytes (canonical (texts_value row.revisions)) → IsLawful (texts_value row.revisions) → Steps c before (request_of k Source (open_revisions row)) r after
    → revisions_opened r.status r.body ≡ Ok opened → ReadsDatabase before k.source_db after (λ db. Opens row opened)

-- of pushed documents whose reply is taken in each is known afterwards, or reported
abbrev pub PushesAreTrue : Type 0
PushesAreTrue =
    (c : auth.Configuration) (before : Contents) (k : PassConfiguration) (documents failures : List Value) (r : Reply) (after : Contents) → AreBytes k.target_db
    → IsLawful (documents_value documents) → Steps c before (request_of k Target (push_documents documents)) r after → documents_pushed r.status r.body ≡ Ok failures
    → Leaves after k.target_db (λ db. Pushes db documents failures)
