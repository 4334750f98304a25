use Rattle.store.proofs.Laters.{sequences_of_content, sequences_by_one, sequences_by_all}
use Rattle.store.proofs.laws.sequences.Goals as goal

pub returns : goal.returns
returns c = record { of_content = sequences_of_content; by_one = sequences_by_one; by_all = sequences_by_all }
