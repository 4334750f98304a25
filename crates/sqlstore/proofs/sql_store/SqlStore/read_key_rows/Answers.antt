use Rattle.std.specs.List.{AllByRecursion}
use Rattle.couch_json.specs.Lawful.{IsLawful}
use Rattle.index.specs.Places.{spot_of, spot_shown}
use Rattle.sqlstore.proofs.KeyEntries.{index_refused, read_ok}
use Rattle.sqlstore.proofs.Lemmas.{map, ◌≡◌}
use Rattle.sqlstore.proofs.sql_store.SqlStore.read_key_rows.Goals as goal

pub returns-clause-spots : goal.returns-clause-spots
returns-clause-spots g c = read_ok (λ read. map spot_of read.items ≡ map spot_shown c.args.rows.items) c.read_entries-read.result c.judge_index.result c.judge_index.ensures.ok c.read_entries-read.ensures.spots

pub returns-clause-lawful : goal.returns-clause-lawful
returns-clause-lawful g c = read_ok (λ read. AllByRecursion (λ p. IsLawful p.key) read.items) c.read_entries-read.result c.judge_index.result c.judge_index.ensures.ok c.read_entries-read.ensures.lawful

pub returns-clause-told : goal.returns-clause-told
returns-clause-told g c = index_refused _ _ _ c.read_entries-read.result c.judge_index.result c.read_entries-read.ensures.err c.judge_index.ensures.told
