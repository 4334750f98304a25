-- The sessions of a checkpoint, cut to 50.
use Rattle.std.proofs.Common.{◌≡◌, List, ◌∷◌, map, take, ap, sym, ◌∙◌}
use Rattle.std.proofs.lemmas.List.{take-map}
use Rattle.couch_json.specs.Value.{Value}
use Rattle.couch_json.specs.View.{view}
use Rattle.couch_json.specs.declared.value.Json.{Json}
use Rattle.repl.specs.Checkpoints.{Session, session_value}

pub cut_sessions : (h : List Json) (first : Value) (others : List Session) → map view h ≡ first ∷ map session_value others
    → map view (take 50 h) ≡ first ∷ map session_value (take 49 others)
cut_sessions h first others whole =
    sym (take-map view 50 h) ∙ ap (take 50) whole ∙ ap (λ rest. first ∷ rest) (take-map session_value 49 others)
