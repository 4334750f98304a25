-- What holds of each answer: which effects fit a lawful database, and what becomes of a database.
-- This server's own.
use Rattle.std.specs.Prelude.{◌≡◌, true, Option, Some, None, ⊤}
use Rattle.couch_http.specs.Message.{Message}
use Rattle.policy.specs.Security.{is_security}
use Rattle.store.specs.Contents.{AreAcceptable}
use Rattle.store.specs.Database.{Database, IsLater}
use Rattle.store.specs.Lawful.{IsLocalDocument}
use Rattle.api.specs.Routing.{page_of}
use Rattle.api.specs.declared.page.Page.TheVariants.{AllDatabases}
use Rattle.node.specs.Work.{Effect, appended, local_put, nothing, secured}

-- the effect may be had on this database: its writes may be appended, its security object is one, and its local document is one
abbrev pub Fits : Effect → Database → Type 0
Fits nothing db = ⊤
Fits (appended ws) db = AreAcceptable db ws
Fits (secured security) db = is_security security ≡ true
Fits (local_put id document) db = IsLocalDocument id document

-- a later state of the database
abbrev pub IsLaterThan : Database → Option Database → Type 0
IsLaterThan db None = ⊥
IsLaterThan db (Some now) = IsLater db now

-- the path leads to the page that lists all databases
abbrev pub IsOfAll : Message → Type 0
IsOfAll m = page_of m.path ≡ Some AllDatabases
