-- A hash is ASCII, so it is a text.
use Rattle.tree.proofs.RevisionText.{IsUtf8-revision, IsOk-text}
use Rattle.tree.proofs.revision.Rev.hash.Goals as goal

pub unwrap-requires : goal.unwrap-requires
unwrap-requires c =
    IsOk-text c.hash_bytes.result.now _ _ _ (rw c.hash_bytes.ensures.value (IsUtf8-revision c.args.self.now c.hash_bytes.ensures.lawful)) c.from_utf8.ensures.cases
