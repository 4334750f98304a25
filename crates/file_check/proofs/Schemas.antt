-- The schema of this server, part by part.
use Rattle.tables.proofs.Common.{[], everything, refl, ◌≡◌}
use Rattle.tables.specs.Schema.{schema}
use Rattle.file_check.specs.inner.Schemas.{all_indexes, all_tables}

pub tables_are : schema.tables ≡ all_tables
unfolding everything
tables_are = refl

pub indexes_are : schema.indexes ≡ all_indexes
unfolding everything
indexes_are = refl

pub views_are : schema.views ≡ []
views_are = refl
