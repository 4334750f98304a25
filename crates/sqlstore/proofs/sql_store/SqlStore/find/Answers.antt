use Rattle.sqlstore.proofs.Lemmas.{DatabaseNumbers, FoundValues, Some, also, ap, found_in, known_so, sym, trees_of, ◌∙◌}
use Rattle.sqlstore.proofs.sql_store.SqlStore.find.Goals as goal

pub invariant_of-self : goal.invariant_of-self
invariant_of-self g c = record { standing = known_so g.S.Store c.args.self.now c.know.new.self (Some c.in_ok-known.known) c.know.ensures.stands c.in_ok-known.ensures.known }

pub returns-clause-answer : goal.returns-clause-answer
returns-clause-answer g c honest = also found_in (trees_of g.S.Store c.args.self.now) c.args.name.now (λ (v : FoundValues). (v.0, v.2)) _ (c.in_ok-known.ensures.answer honest)
    ∙ ap (λ (d : DatabaseNumbers). Some (d.number, d.sequence)) (sym c.numbers-numbers.ensures)
