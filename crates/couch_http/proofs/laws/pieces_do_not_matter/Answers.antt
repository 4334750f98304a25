use Rattle.std.proofs.Common.{[]}
use Rattle.couch_http.proofs.CutLemmas.{Cuts_unique, CutInPieces-whole, Begins-nothing}
use Rattle.couch_http.specs.Pieces.{bytes_of_pieces}
use Rattle.couch_http.proofs.laws.pieces_do_not_matter.Goals as goal

pub returns : goal.returns
returns c = λ pieces others messages also end other same cut again.
    Cuts_unique (bytes_of_pieces others) messages also end other (rw same at (CutInPieces-whole pieces [] messages end Begins-nothing cut))
    (CutInPieces-whole others [] also other Begins-nothing again)
