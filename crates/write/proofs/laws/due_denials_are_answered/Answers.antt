use Rattle.store.specs.Database.{history_at}
use Rattle.write.proofs.Leave.{edit_due, edit_due_together, replication_due, replication_due_together, unnamed_due}
use Rattle.write.proofs.laws.due_denials_are_answered.Goals as goal

pub returns : goal.returns
returns c = record {
  edited = λ terms db id query document rule due. edit_due terms id (history_at db id) query document rule due;
  replicated = λ terms db id document rule due. replication_due terms id (history_at db id) document rule due;
  unnamed = λ terms id rule due. unnamed_due terms id rule due;
  edited_together = λ terms histories id document rule named due. edit_due_together terms histories id document named rule due;
  replicated_together = λ terms histories id document rule named due. replication_due_together terms histories id document named rule due;
}
