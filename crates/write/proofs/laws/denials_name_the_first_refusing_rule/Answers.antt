use Rattle.store.specs.Database.{history_at}
use Rattle.write.proofs.Outcomes.{edit_denied, replicated_denied, unnamed_denied}
use Rattle.write.proofs.laws.denials_name_the_first_refusing_rule.Goals as goal

pub returns : goal.returns
returns c = record {
  edited = λ terms db id query document rule e. edit_denied terms id (history_at db id) query document rule e;
  replicated = λ terms db id document rule e. replicated_denied terms id (history_at db id) document rule e;
  unnamed = λ terms id rule e. unnamed_denied terms id rule e;
}
