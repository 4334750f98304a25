use Rattle.index.proofs.Common.{Declared, Err, HasIndexRows, IndexFault, None, Ok, Some, ap, declared, declared_by, decls_tree, map, option_map, refl, rules, state, subst, sym, ⊤, ◌∙◌, ◌∷◌, ◌≡◌}
use Rattle.index.proofs.Declared.{rows_fit, settled, settled_some}
use Rattle.index.proofs.Going.{if_err}
use Rattle.index.proofs.Rebuilt.{found_by, indexes_itself}
use Rattle.index.proofs.Refusals.{refused_as, refused_then}
use Rattle.index.proofs.ShownDeclarations.{refused_of}
use Rattle.index.proofs.StepLemmas.{steps_none, steps_read, steps_then}
use Rattle.index.specs.Declaring.{ArePartly, ArePartlySet, IsLeftOut, IsMissing}
use Rattle.index.specs.Steps.{AreFit}
use Rattle.index.proofs.declaring.declare_wanted.Goals as goal

pub returns-in-Some-clause-declares : goal.returns-in-Some-clause-declares
returns-in-Some-clause-declares g c declares sees f left wanted =
    let a = c.args.tx.now.conn.now in
    let b = c.find_stored.new.tx.conn.now in
    let old = (state g.S.Store a).now in
    let db = c.args.db.now in
    let design = c.args.design.now in
    let name = c.args.name.now in
    let before = map declared c.args.fresh.now.items in
    let e = c.in_ok-found.ensures in
    let F = ArePartly declares sees db design f (name ∷ left) before in
    let there : c.in_ok-found.found ≡ Some c.in-Some._stored = search rules in
    steps_then g.S.Store {E = IndexFault} F (λ p. ⊤) (λ p q. q ≡ p) (λ p q. q ≡ p) (ArePartlySet declares sees db design f left before) a b b c.in_ok-found.found (Ok tt)
    (steps_read g.S.Store F a b (Ok c.in_ok-found.found) e.stands e.looks e.asks (λ fit. fit.store.schema_is))
    (steps_none g.S.Store (λ p. ⊤) (λ p q. q ≡ p) b (Ok tt) (λ u. refl) tt) (λ was fit same. tt)
    (λ was fit same got.
    let rows = rows_fit declares sees db design name f left before old fit in
    let has : declared_by (old.trees decls_tree) db design name ≡ Some (declared c.in-Some._stored).fields =
    sym (found_by declares db design name (option_map declared c.in_ok-found.found) (old.trees decls_tree) (e.finds was rows)) ∙ ap (λ o. option_map (λ (x : Declared). x.fields) (option_map declared o)) there in
    subst (λ z. ArePartlySet declares sees db design f left before old z) (sym same)
    (record {
      now = settled declares sees db design name f left before old fit (settled_some declares sees db design name f left before old fit (declared c.in-Some._stored).fields has);
      only = indexes_itself old;
    }))

pub returns-in-None-clause-declares : goal.returns-in-None-clause-declares
returns-in-None-clause-declares g c declares sees f left wanted =
    let a = c.args.tx.now.conn.now in
    let b = c.find_stored.new.tx.conn.now in
    let m = c.add_fresh.new.tx.conn.now in
    let old = (state g.S.Store a).now in
    let new = (state g.S.Store m).now in
    let db = c.args.db.now in
    let design = c.args.design.now in
    let name = c.args.name.now in
    let before = map declared c.args.fresh.now.items in
    let after = map declared c.add_fresh.new.fresh.items in
    let e = c.in_ok-found.ensures in
    let F = ArePartly declares sees db design f (name ∷ left) before in
    let L = IsLeftOut declares sees db design name f left before in
    let there : c.in_ok-found.found ≡ None = search rules in
    steps_then g.S.Store {E = IndexFault} F L (λ p q. q ≡ p) (ArePartlySet declares sees db design f left after) (ArePartlySet declares sees db design f left after) a b m c.in_ok-found.found c.add_fresh.result
    (steps_read g.S.Store F a b (Ok c.in_ok-found.found) e.stands e.looks e.asks (λ fit. fit.store.schema_is))
    (c.add_fresh.ensures.adds declares sees f left wanted)
    (λ was fit same.
    let rows = rows_fit declares sees db design name f left before old fit in
    let none : declared_by (old.trees decls_tree) db design name ≡ None =
    sym (found_by declares db design name (option_map declared c.in_ok-found.found) (old.trees decls_tree) (e.finds was rows)) ∙ ap (λ o. option_map (λ (x : Declared). x.fields) (option_map declared o)) there in
    subst L (sym same) (record { partly = fit; none = none }))
    (λ was fit same got. subst (λ z. ArePartlySet declares sees db design f left after z new) same got)

pub returns-in_err-found-clause-err : goal.returns-in_err-found-clause-err
returns-in_err-found-clause-err g c declares sees f left =
    let a = c.args.tx.now.conn.now in
    let b = c.find_stored.new.tx.conn.now in
    let db = c.args.db.now in
    let before = map declared c.args.fresh.now.items in
    let fit = AreFit g.S.Store (ArePartly declares sees db c.args.design.now f (c.args.name.now ∷ left) before) a b in
    let why = c.in_err-found.field-0.0 in
    let is : c.from_residual.result ≡ Err why = search rules in
    refused_as fit c.from_residual.result why is
    (refused_of (AreFit g.S.Store HasIndexRows a b) fit why (λ it. (it.0, rows_fit declares sees db c.args.design.now c.args.name.now f left before (state g.S.Store a).now it.1)) c.in_err-found.ensures.err)

pub returns-in-None-clause-err : goal.returns-in-None-clause-err
returns-in-None-clause-err g c declares sees f left =
    let a = c.args.tx.now.conn.now in
    let b = c.find_stored.new.tx.conn.now in
    let m = c.add_fresh.new.tx.conn.now in
    let old = (state g.S.Store a).now in
    let db = c.args.db.now in
    let design = c.args.design.now in
    let name = c.args.name.now in
    let before = map declared c.args.fresh.now.items in
    let F = ArePartly declares sees db design f (name ∷ left) before in
    let there : c.in_ok-found.found ≡ None = search rules in
    if_err c.add_fresh.result
    (λ why h. refused_then g.S.Store {E = IndexFault} F (IsMissing db design name) (λ p q. q ≡ p) a b m c.in_ok-found.found why
    (steps_read g.S.Store F a b (Ok c.in_ok-found.found) c.in_ok-found.ensures.stands c.in_ok-found.ensures.looks c.in_ok-found.ensures.asks (λ fit. fit.store.schema_is)) (c.add_fresh.ensures.adds declares sees (λ n. Some c.args.fields.now) left refl).asks
    (λ was fit same.
    let rows = rows_fit declares sees db design name f left before old fit in
    let none : declared_by (old.trees decls_tree) db design name ≡ None =
    sym (found_by declares db design name (option_map declared c.in_ok-found.found) (old.trees decls_tree) (c.in_ok-found.ensures.finds was rows)) ∙ ap (λ o. option_map (λ (x : Declared). x.fields) (option_map declared o)) there in
    subst (IsMissing db design name) (sym same) (record { rows = rows; none = none })) h)
    c.add_fresh.ensures.err
