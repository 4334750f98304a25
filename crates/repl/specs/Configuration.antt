-- What a pass is told: the two databases, the user in whose name it asks, its session, how much it lists at a time, and whether it begins at 0.
-- CouchDB manual, replication/protocol ("Replication ID") and api/server/authn ("Proxy Authentication"); a batch's bounds are this project's own.
use Rattle.std.specs.Prelude.{ℕ, Bool, ◌&&◌, List, map, nat_le, Option, Some, None, option_map, string_bytes, if◌then◌else◌}
use Rattle.repl.specs.declared.batch.Batch.{Batch}
use Rattle.repl.specs.declared.config.Config.{Config}
use Rattle.repl.specs.declared.config.User.{User}
use Rattle.repl.specs.declared.side.Side.{Side}
use Rattle.repl.specs.declared.side.Side.TheVariants.{Source, Target}

-- a user: its name, its roles in order, and the token that vouches for the name
pub record Account : Type 0 where
  pub name : List ℕ
  pub roles : List (List ℕ)
  pub token : List ℕ

-- a pass: the texts that name its two sides, the databases' names, its user, its session, how many changes it lists at a
-- time, where it doesn't list all at once, and whether it begins at 0, whatever the checkpoints say
pub record PassConfiguration : Type 0 where
  pub source : List ℕ
  pub source_db : List ℕ
  pub target : List ℕ
  pub target_db : List ℕ
  pub user : Option Account
  pub session : List ℕ
  pub batch : Option ℕ
  pub is_from_start : Bool

-- the database of a side
abbrev pub database_of_side : PassConfiguration → Side → List ℕ
database_of_side c Source = c.source_db
database_of_side c Target = c.target_db

-- a batch of so many changes: at least one, and at most 1,000
abbrev pub batch_of : ℕ → Option ℕ
batch_of size = if nat_le 1 size && nat_le size 1000 then Some size else None

-- how many changes a batch of the program has
abbrev pub batch_size : Batch → ℕ
batch_size b = b.size

-- a user of the program
abbrev pub account_of : User → Account
account_of u = record {
  name = string_bytes u.name;
  roles = map string_bytes u.roles.items;
  token = string_bytes u.token;
}

-- what the program is told
abbrev pub configuration_of : Config → PassConfiguration
configuration_of c = record {
  source = string_bytes c.source;
  source_db = string_bytes c.source_db;
  target = string_bytes c.target;
  target_db = string_bytes c.target_db;
  user = option_map account_of c.user;
  session = string_bytes c.session;
  batch = option_map batch_size c.batch;
  is_from_start = c.is_from_start;
}
