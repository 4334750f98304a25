use Rattle.std.proofs.Common.{◌≡◌, Bool, true, false, Some, None, refl, if◌then◌else◌}
use Rattle.store.specs.DatabaseName.{is_database_name}
use Rattle.lab.proofs.Names.{database_name_is_text}
use Rattle.lab.proofs.words.read_name.Goals as goal

pub returns-in_default : goal.returns-in_default
returns-in_default c = go (is_database_name c.args.bytes.now) refl
  where
    go : (b : Bool) → is_database_name c.args.bytes.now ≡ b → None ≡ (if b then Some c.args.bytes.now else None)
    go true is = absurd (c.in_default.ensures.cases.0 (database_name_is_text c.args.bytes.now is))
    go false is = refl
