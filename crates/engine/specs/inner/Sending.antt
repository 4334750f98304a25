-- What a conversation sends, and what follows its last reply.
-- This project's own.
use Rattle.std.specs.Prelude.{◌≡◌, ◌⊎◌, ℕ, List, [], ◌∷◌, ◌++◌, Option}
use Rattle.engine.specs.Acts.{Act, Logs, took}
use Rattle.engine.specs.declared.conversation.ConversationStage.{ConversationStage}
use Rattle.engine.specs.declared.conversation.ConversationStage.TheVariants.{Open, Last, Ending, Lost}

-- bytes were written to a connection, or none
abbrev pub Sends : ℕ → Option (List Act) → Option (List Act) → List ℕ → List ℕ → Type 0
Sends conn before after owed left =
    (Logs before after [] × (left ≡ owed)) ⊎ ((bytes : List ℕ) × Logs before after (took conn bytes ∷ []) × (owed ≡ bytes ++ left))

-- the stage once the last reply was taken
abbrev pub stage_after_finish : ConversationStage → ConversationStage
stage_after_finish Open = Open
stage_after_finish Last = Ending
stage_after_finish Ending = Ending
stage_after_finish Lost = Lost
