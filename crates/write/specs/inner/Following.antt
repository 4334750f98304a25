-- What becomes of what an edit says, and what the winner of a document tells of the revision that it follows.
-- This server's own: the winner is a leaf, so an edit that names it, or none, asks for no more of the history.
use Rattle.std.specs.Prelude.{◌≡◌, ℕ, List, Option, Some, None, Result, ⊤}
use Rattle.tree.specs.History.{HistoryContent, winner}
use Rattle.tree.specs.Revision.{Revision}
use Rattle.store.specs.Database.{DocumentWrite}
use Rattle.write.specs.Admission.{given, next_edit, parent_for_edit}
use Rattle.write.specs.Terms.{Terms}
use Rattle.write.specs.declared.document.ParsedDocument.{ParsedDocument}
use Rattle.write.specs.declared.fault.WriteFault.{WriteFault}
use Rattle.write.specs.declared.fault.WriteFault.TheVariants as fault
use Rattle.write.specs.declared.following.Followed.{Followed}
use Rattle.write.specs.declared.following.Followed.TheVariants.{New, Leaf, Conflict, NeedsHistory}

-- what becomes of what an edit says, which has to have what it may follow
abbrev pub edit_following : Terms → List ℕ → HistoryContent → ParsedDocument → Result DocumentWrite WriteFault
edit_following terms id h sent = given fault.Conflict (parent_for_edit h sent.rev) (λ parent. next_edit terms id h sent parent)

-- what is told is so
abbrev pub IsFollowed : HistoryContent → Option (Option Revision) → Followed → Type 0
IsFollowed h based New = (based ≡ Some None) × (winner h ≡ None)
IsFollowed h based (Leaf parent) = based ≡ Some (Some parent)
IsFollowed h based Conflict = based ≡ None
IsFollowed h based NeedsHistory = ⊤
