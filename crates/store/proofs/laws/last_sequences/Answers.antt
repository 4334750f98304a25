use Rattle.store.proofs.Lasts.{ends_by_all, ends_empty, ends_local, ends_secured}
use Rattle.store.proofs.laws.last_sequences.Goals as goal

pub returns : goal.returns
returns c = record { empty = ends_empty; by_all = ends_by_all; secured = ends_secured; local = ends_local }
