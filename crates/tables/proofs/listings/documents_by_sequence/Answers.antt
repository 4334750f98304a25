use Rattle.tables.proofs.Lemmas.{leaves_by_sequence, winners_by_sequence}
use Rattle.tables.proofs.listings.documents_by_sequence.Goals as goal

pub returns : goal.returns
returns c = record { winners = winners_by_sequence; leaves = leaves_by_sequence }
