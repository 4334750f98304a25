-- What a request does in one database: its status, its value, and its effect there.
-- This server's own: what is asked of a database depends on that database alone.
use Rattle.std.specs.Prelude.{ℕ, List, Result, Ok}
use Rattle.couch_json.specs.Value.{Value}
use Rattle.store.specs.Contents.{with_local, with_security}
use Rattle.store.specs.Database.{Database, DocumentWrite, with_all}
use Rattle.store.specs.declared.local_document.LocalDocument.{LocalDocument}
use Rattle.api.specs.Refusals.{and_then}
use Rattle.api.specs.declared.refusal.Refusal.{Refusal}

-- what is done to a database
pub data Effect : Type 0 where
  nothing : Effect
  -- these writes are appended
  appended : List DocumentWrite → Effect
  -- this is its security object from now on
  secured : Value → Effect
  -- this is its local document of this id from now on
  local_put : List ℕ → LocalDocument → Effect

-- the database afterwards
abbrev pub with_effect : Effect → Database → Database
with_effect nothing db = db
with_effect (appended ws) db = with_all db ws
with_effect (secured security) db = with_security db security
with_effect (local_put id document) db = with_local db id document

-- what a request comes to in a database
pub record Done : Type 0 where
  pub status : ℕ
  pub value : Value
  pub effect : Effect

-- what a request asks of a database: what it comes to there, or a refusal
abbrev pub Work : Type 0
Work = Database → Result Done Refusal

-- a value that is read
abbrev pub value_done : Value → Done
value_done value = record { status = 200; value = value; effect = nothing }

-- work that only reads
abbrev pub read_work : (Database → Result Value Refusal) → Work
read_work read = λ db. and_then (read db) (λ value. Ok (value_done value))
