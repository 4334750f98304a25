use Rattle.std.proofs.Common.{List, ℕ, ◌∙◌, ap, sym}
use Rattle.write.specs.BulkResults.{seen_in, with_history}
use Rattle.write.proofs.Judgings.{stored_seen}
use Rattle.write.proofs.histories.load.Goals as goal

pub returns-clause-ok : goal.returns-clause-ok
returns-clause-ok g c = λ honest d there.
    stored_seen c.args.histories.now c.put_history.new.histories c.in-Some.id d _ _ there (c.in_ok-history.ensures.answer honest)
    (sym c.contains_key.ensures ∙ c.if-contains_key.false)
    (λ stored. c.in_ok-put_history.ensures.value stored
    ∙ ap (λ (id : List ℕ). with_history (seen_in stored c.args.histories.now) id c.in_ok-history.history) c.in_ok-copy.ensures)
