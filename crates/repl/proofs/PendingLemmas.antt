-- The first of the pending documents is the one at the front of the queue.
use Rattle.std.proofs.Common.{◌≡◌, ◌<◌, List, [], ◌∷◌, length, map, ap, sym, slice_index_or, arith}
use Rattle.repl.specs.Listed.{revisions_of}
use Rattle.repl.specs.Passes.{first_of_pending}
use Rattle.repl.specs.declared.revisions.DocumentRevisions.{DocumentRevisions}

pub first_is_front : (ds : List DocumentRevisions) (d : DocumentRevisions) → 0 < length ds → d ≡ slice_index_or ds 0 d
    → first_of_pending (map revisions_of ds) ≡ revisions_of d
first_is_front [] d some is = absurd (omega arith)
first_is_front (x ∷ xs) d some is = ap revisions_of (sym is)
