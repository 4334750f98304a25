-- What a pass is told by the words of the command line.
-- This project's own.
use Rattle.std.specs.Prelude.{List, ℕ, Bool, [], ◌++◌, codes, option_map}
use Rattle.auth.specs.Hmac.{token_of}
use Rattle.command_line.specs.Plan.{SideAsked, SyncAsked, file_asked, address_asked}
use Rattle.repl.specs.Configuration.{Account, PassConfiguration, batch_of}

-- the name of a side: the place, a slash, and the database
abbrev pub side_name : List ℕ → List ℕ → List ℕ
side_name place database = place ++ (codes "/" ++ database)

-- the path or the address of a side
abbrev pub place_of : SideAsked → List ℕ
place_of (file_asked path) = path
place_of (address_asked address) = address

-- the user of this name, without roles, and with the token that vouches for the name under this secret
abbrev pub account_named : List ℕ → List ℕ → Account
account_named secret name = record { name = name; roles = []; token = token_of secret name }

-- what a pass is told that lists so many changes at a time, and begins at 0 or not
abbrev pub configuration_with : SyncAsked → ℕ → Bool → PassConfiguration
configuration_with asked batch is_from_start = record {
  source = side_name (place_of asked.source) asked.database;
  source_db = asked.database;
  target = side_name (place_of asked.target) asked.target_database;
  target_db = asked.target_database;
  user = option_map (account_named asked.secret) asked.user;
  session = asked.session;
  batch = batch_of batch;
  is_from_start = is_from_start;
}

-- what a pass is told at first
abbrev pub pass_configuration : SyncAsked → PassConfiguration
pass_configuration asked = configuration_with asked asked.batch asked.from_start
