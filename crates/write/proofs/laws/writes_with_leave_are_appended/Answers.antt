use Rattle.store.specs.Database.{history_at}
use Rattle.write.proofs.Leave.{edit_appended, edit_appended_together, edit_ended, replication_appended, replication_appended_together}
use Rattle.write.proofs.laws.writes_with_leave_are_appended.Goals as goal

pub returns : goal.returns
returns c = record {
  edited = λ terms db id query document rev leave further. edit_appended terms id (history_at db id) query document rev leave further;
  ended = λ terms db id query document leave none. edit_ended terms id (history_at db id) query document leave none;
  replicated = λ terms db id document leave. replication_appended terms id (history_at db id) document leave;
  edited_together = λ terms histories id document rev named leave further. edit_appended_together terms histories id document named rev leave further;
  replicated_together = λ terms histories id document named leave. replication_appended_together terms histories id document named leave;
}
