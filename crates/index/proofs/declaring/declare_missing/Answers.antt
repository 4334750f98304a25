use Rattle.index.proofs.Common.{List, None, Ok, Some, declared, map, option_map, rules, state, sym, ℕ, ◌∙◌, ◌∷◌, ◌≡◌}
use Rattle.index.proofs.Declared.{settled, settled_none}
use Rattle.index.proofs.Rebuilt.{indexes_itself}
use Rattle.index.proofs.StepLemmas.{steps_none}
use Rattle.index.specs.Declaring.{ArePartly, ArePartlySet}
use Rattle.index.proofs.declaring.declare_missing.Goals as goal

pub returns-in-Some-clause-declares : goal.returns-in-Some-clause-declares
returns-in-Some-clause-declares g c declares sees f left wanted =
    let is : option_map {U = List (List ℕ)} (λ paths. paths.items) c.args.fields.now ≡ Some c.deref.result.now = search rules in
    c.declare_wanted.ensures.declares declares sees f left (sym is ∙ wanted)

pub returns-in-None-clause-declares : goal.returns-in-None-clause-declares
returns-in-None-clause-declares g c declares sees f left wanted =
    let old = (state g.S.Store c.args.tx.now.conn.now).now in
    let db = c.args.db.now in
    let design = c.args.design.now in
    let name = c.args.name.now in
    let before = map declared c.args.fresh.now.items in
    let is : option_map {U = List (List ℕ)} (λ paths. paths.items) c.args.fields.now ≡ None = search rules in
    steps_none g.S.Store (ArePartly declares sees db design f (name ∷ left) before) (ArePartlySet declares sees db design f left before) c.args.tx.now.conn.now (Ok tt)
    (λ fit. record {
      now = settled declares sees db design name f left before old fit (settled_none declares sees db design name f left before old fit (fit.due.0 ∙ sym wanted ∙ is));
      only = indexes_itself old;
    }) tt
