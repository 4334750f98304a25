use Rattle.sqlstore.proofs.Lemmas.{DatabaseNumbers, Option, Some, absent, ap, is_some, numbers_in, there, told_none, trees_of}
use Rattle.store.specs.Database.{Database}
use Rattle.sqlstore.proofs.sql_store.SqlStore.has.Goals as goal

pub returns-in-Err-NoDatabase-clause-answer : goal.returns-in-Err-NoDatabase-clause-answer
returns-in-Err-NoDatabase-clause-answer g c honest =
    let s = c.args.self.now in
    let none = told_none g.S.Store s c.find.new.self {X = DatabaseNumbers} (λ d. (d.number, d.sequence)) _ _ c.in-Err-NoDatabase.field-0-is c.in-Err-NoDatabase.ensures.answer honest in
    ap (λ (o : Option Database). Some (is_some o)) (absent numbers_in (trees_of g.S.Store s) c.args.name.now none)

pub returns-clause-answer : goal.returns-clause-answer
returns-clause-answer g c honest =
    ap (λ (o : Option Database). Some (is_some o)) (there numbers_in (trees_of g.S.Store c.args.self.now) c.args.name.now _ (c.in-Ok.ensures.answer honest)).database
