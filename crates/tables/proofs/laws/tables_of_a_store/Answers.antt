use Rattle.tables.proofs.Lemmas.{ap, has_all, ours_has_all, version_in, ◌∙◌}
use Rattle.tables.proofs.laws.tables_of_a_store.Goals as goal

pub returns-clause-tables : goal.returns-clause-tables
returns-clause-tables c db is = ap has_all is.schema_is ∙ ours_has_all

pub returns-clause-first_tables : goal.returns-clause-first_tables
returns-clause-first_tables c db is = ap has_all is.schema_is ∙ ours_has_all

pub returns-clause-version : goal.returns-clause-version
returns-clause-version c db is = ap version_in is.laid.version

pub returns-clause-first_version : goal.returns-clause-first_version
returns-clause-first_version c db is = ap version_in is.laid.version
