-- Replies of the program, in the words of `Replies`.
use Rattle.std.specs.Prelude.{map, option_map, Result, Ok, Err, string_bytes}
use Rattle.couch_json.specs.View.{view}
use Rattle.repl.specs.Kept.{checkpoint_of}
use Rattle.repl.specs.Listed.{revisions_of}
use Rattle.repl.specs.Replies.{Changes, Opened, Stored, document, missing}
use Rattle.repl.specs.declared.opened.OpenedRevision.{OpenedRevision}
use Rattle.repl.specs.declared.opened.OpenedRevision.TheVariants.{Document, Missing}
use Rattle.repl.specs.declared.replies.ChangesListed.{ChangesListed}
use Rattle.repl.specs.declared.replies.Found.{Found}
use Rattle.repl.specs.declared.why.Why.{Why}

abbrev pub stored_of : Found → Stored
stored_of f = record { revision = option_map string_bytes f.revision; checkpoint = option_map checkpoint_of f.checkpoint }

abbrev pub changes_of : ChangesListed → Changes
changes_of c = record { sequence = c.sequence.value; leaves = map revisions_of c.leaves.items }

abbrev pub opened_of : OpenedRevision → Opened
opened_of (Document v) = document (view v)
opened_of (Missing revision) = missing (string_bytes revision)

-- what a reply says, as shown
abbrev pub said_as : {A B : Type 0} → (A → B) → Result A Why → Result B Why
said_as shown (Ok a) = Ok (shown a)
said_as shown (Err why) = Err why
