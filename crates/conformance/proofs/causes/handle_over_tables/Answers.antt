use Rattle.std.proofs.Common.{◌⊎◌, inl, inr}
use Rattle.conformance.proofs.causes.handle_over_tables.Goals as goal

given : {A H B : Type 0} → A ⊎ (H → B) → H → A ⊎ B
given (inl a) h = inl a
given (inr b) h = inr (b h)

pub returns : goal.returns
returns c after = record { cause = λ failed honest. given (after.handle.ensures.failure failed) honest }
