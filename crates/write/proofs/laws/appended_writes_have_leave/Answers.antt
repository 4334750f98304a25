use Rattle.store.specs.Database.{history_at}
use Rattle.write.proofs.Outcomes.{edit_leave, replicated_leave}
use Rattle.write.proofs.laws.appended_writes_have_leave.Goals as goal

pub returns : goal.returns
returns c = record {
  edited = λ terms db id query document w e. edit_leave terms id (history_at db id) query document w e;
  replicated = λ terms db id document w e. replicated_leave terms id (history_at db id) document w e;
}
