use Rattle.store.proofs.Lawfuls.{lawful_by_all, lawful_by_one, lawful_empty, lawful_local, lawful_secured}
use Rattle.store.proofs.laws.lawful_databases.Goals as goal

pub returns : goal.returns
returns c = record { empty = lawful_empty; by_one = lawful_by_one; by_all = lawful_by_all; secured = lawful_secured; local = lawful_local }
