use Rattle.sqlstore.proofs.Lemmas.{name_is_text}
use Rattle.sqlstore.proofs.database_names.name_of.Goals as goal

pub returns-in_default-clause-err : goal.returns-in_default-clause-err
returns-in_default-clause-err c named = c.in_default.ensures.cases.0 (name_is_text c.args.bytes.now named)
