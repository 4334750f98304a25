-- The text of the body that pushes documents.
use Rattle.std.proofs.Common.{◌≡◌, ℕ, List, ◌++◌, codes, ap, append_assoc, ◌∙◌}
use Rattle.std.specs.List.{join_with_byte}
use Rattle.json.specs.Print.{escape_byte}
use Rattle.couch_json.specs.Canonical.{canonical, items_texts}
use Rattle.couch_json.specs.Value.{Value}
use Rattle.couch_json.specs.View.{items_of}
use Rattle.repl.specs.Calls.{documents_value}

-- texts one after another, in another grouping
regrouped : (a b c d : List ℕ) → ((a ++ b) ++ c) ++ d ≡ a ++ (b ++ (c ++ d))
regrouped a b c d = append_assoc (a ++ b) c d ∙ append_assoc a b (c ++ d)

pub canonical_documents : (vs : List Value) → canonical (documents_value vs)
    ≡ codes "{\"docs\":[" ++ (join_with_byte 44 (items_texts (items_of vs)) ++ codes "],\"new_edits\":false}")
unfolding escape_byte
canonical_documents vs =
    ap (λ rest. codes "{\"docs\":[" ++ rest) (regrouped (join_with_byte 44 (items_texts (items_of vs))) (codes "]") (codes ",\"new_edits\":false") (codes "}"))
