use Rattle.std.proofs.Common.{◌∷◌, ap}
use Rattle.write.specs.Bulk.{DocumentOutcome, after, outcomes, put_before, writes_in}
use Rattle.write.proofs.laws.denied_writes_change_nothing.Goals as goal

pub returns : goal.returns
returns c = record {
  others = λ terms new_edits histories document documents rule e.
      ap (λ (o : DocumentOutcome). o ∷ outcomes terms new_edits (after histories o) documents) e;
  writes = λ terms new_edits histories document documents rule e.
      ap (λ (o : DocumentOutcome). put_before o (writes_in (outcomes terms new_edits (after histories o) documents))) e;
}
