-- The texts that cells have.
-- This server's own: a value is stored as its canonical text.
use Rattle.std.specs.Prelude.{◌≡◌, ℕ, IsTrue, List}
use Rattle.couch_json.specs.Canonical.{canonical}
use Rattle.policy.specs.Security.{is_security}
use Rattle.store.specs.Lawful.{IsBody}
use Rattle.sqlite_value.specs.declared.value.Value.TheVariants.{Text}
use Rattle.tables.specs.Rows.{json_in_cell}

-- the canonical text of a security object
pub record IsSecurityText (text : List ℕ) : Type 0 where
  pub canonical : text ≡ canonical (json_in_cell (Text text))
  pub security : IsTrue (is_security (json_in_cell (Text text)))

-- the canonical text of the body of a document
pub record IsBodyText (text : List ℕ) : Type 0 where
  pub canonical : text ≡ canonical (json_in_cell (Text text))
  pub body : IsBody (json_in_cell (Text text))
