-- What a connection gave or took.
-- This project's own.
use Rattle.std.specs.Prelude.{⊤, ℕ, ◌≤◌, List, take}
use Rattle.hub.specs.Parts.{IsPart}
use Rattle.engine.specs.declared.flow.Flow.{Flow}
use Rattle.engine.specs.declared.flow.Flow.TheVariants.{Bytes, Later, Never}

-- no more bytes than there was room for
abbrev pub FlowsAtMost : Flow → ℕ → Type 0
FlowsAtMost (Bytes count more) limit = count ≤ limit
FlowsAtMost Later limit = ⊤
FlowsAtMost Never limit = ⊤

-- the bytes that were read are one part, in which two requests end at most
abbrev pub ReadsPart : Flow → List ℕ → Type 0
ReadsPart (Bytes count more) room = IsPart (take count room)
ReadsPart Later room = ⊤
ReadsPart Never room = ⊤
