use Rattle.index.proofs.IndexPlaces.{entries_at}
use Rattle.index.proofs.laws.entries_are_the_rows_of_an_index.Goals as goal

pub returns : goal.returns
returns c db r d design name store is found = entries_at db.trees store.laid is r d design name found
