-- Groups of revisions before others.
use Rattle.std.proofs.Common.{◌≡◌, ℕ, List, [], ◌∷◌, ◌++◌, ap, refl}
use Rattle.repl.specs.Calls.{Revisions}
use Rattle.repl.specs.Replies.{of_document}

pub of_document_before : (id : List ℕ) (gs : List (List (List ℕ))) (others : List Revisions) → of_document id gs others ≡ of_document id gs [] ++ others
of_document_before id [] others = refl
of_document_before id (g ∷ gs) others = ap (λ (rest : List Revisions). record { id = id; revisions = g } ∷ rest) (of_document_before id gs others)
