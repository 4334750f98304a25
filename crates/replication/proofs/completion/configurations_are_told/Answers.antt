use Rattle.std.proofs.lemmas.Str.{IsUtf8-string_bytes}
use Rattle.replication.proofs.LawfulParts.{text_is_bytes}
use Rattle.replication.proofs.Starting.{told_batch}
use Rattle.replication.proofs.completion.configurations_are_told.Goals as goal

pub returns : goal.returns
returns c = record {
  source_db = text_is_bytes _ (IsUtf8-string_bytes c.args.config.now.source_db);
  target_db = text_is_bytes _ (IsUtf8-string_bytes c.args.config.now.target_db);
  batch = told_batch c.args.config.now.batch;
}
