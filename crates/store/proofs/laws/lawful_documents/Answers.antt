use Rattle.store.proofs.Lawfuls.{has_winner, held_body, winner_held}
use Rattle.store.proofs.laws.lawful_documents.Goals as goal

pub returns : goal.returns
returns c =
    record {
      winner = λ db id d h there. has_winner d.history (h.documents id d there);
      held = λ db id d r h there is. winner_held d.history r (h.documents id d there) is;
      body = λ db id d r held h there is. held_body d.history r held (h.documents id d there) is;
    }
