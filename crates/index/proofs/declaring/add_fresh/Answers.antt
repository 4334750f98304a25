use Rattle.index.proofs.Common.{Changes, Database, Declared, Err, IndexFault, Ok, [], ap, declaration_cells, declared, decls_tree, fields_text, map, map-append, next_number, refl, rules, state, subst, sym, with_cells, ⊤, ◌++◌, ◌∙◌, ◌∷◌, ◌≡◌}
use Rattle.index.proofs.Declared.{declared_one, declared_only, rows_fit}
use Rattle.index.proofs.StepLemmas.{steps_none, steps_then, steps_weaker}
use Rattle.index.specs.Declaring.{ArePartly, ArePartlySet, IsLeftOut, IsMissing}
use Rattle.index.specs.Steps.{Steps}
use Rattle.index.specs.declared.fault.IndexFault.TheVariants as fault
use Rattle.index.proofs.declaring.add_fresh.Goals as goal

pub returns-clause-adds : goal.returns-clause-adds
returns-clause-adds g c declares sees f left wanted =
    let a = c.args.tx.now.conn.now in
    let b = c.declare.new.tx.conn.now in
    let old = (state g.S.Store a).now in
    let new = (state g.S.Store b).now in
    let db = c.args.db.now in
    let design = c.args.design.now in
    let name = c.args.name.now in
    let fields = c.args.fields.now in
    let before = map declared c.args.fresh.now.items in
    let after = map declared c.push.new.self.items in
    let e = c.in_ok-declaration.ensures in
    let x = c.in_ok-declaration.declaration in
    let F = IsLeftOut declares sees db design name f left before in
    let G = λ (p : Database) (q : Database). Changes decls_tree (with_cells (p.trees decls_tree) (declaration_cells db design name (fields_text fields))) p q in
    steps_then g.S.Store {E = IndexFault} F (λ p. ⊤) G (λ p q. q ≡ p) (ArePartlySet declares sees db design f left after) a b b x (Ok tt)
    (steps_weaker g.S.Store {E = IndexFault} F (IsMissing db design name) G G a b (Ok x) e.declares
    (λ l. record { rows = rows_fit declares sees db design name f left before old l.partly; none = l.none }) (λ l change. change))
    (steps_none g.S.Store (λ p. ⊤) (λ p q. q ≡ p) b (Ok tt) (λ u. refl) tt) (λ was l change. tt)
    (λ was l change same.
    let missing : IsMissing db design name old = record { rows = rows_fit declares sees db design name f left before old l.partly; none = l.none } in
    let told : ◌≡◌ {A = Declared} (declared x) (record { number = next_number (old.trees decls_tree); fields = fields }) = e.tells was missing in
    let pushed : after ≡ before ++ declared x ∷ [] = ap (map declared) c.in_ok-push.ensures.items ∙ map-append declared c.args.fresh.now.items (x ∷ []) in
    let after_is = pushed ∙ ap (λ (y : Declared). before ++ y ∷ []) told in
    let due = l.partly.due.0 ∙ sym wanted in
    record {
      now = subst (λ ys. ArePartly declares sees db design f left ys new) (sym after_is) (declared_one declares sees db design name f left before old l.partly fields e.paths due l.none new change);
      only = declared_only declares sees db design name f left before old l.partly fields e.paths due l.none new change;
    })

pub returns-in_err-push-clause-adds : goal.returns-in_err-push-clause-adds
returns-in_err-push-clause-adds g c declares sees f left wanted =
    let a = c.args.tx.now.conn.now in
    let b = c.declare.new.tx.conn.now in
    let e = c.in_ok-declaration.ensures in
    let is : c.from_residual-in_err-push.result ≡ Err fault.Memory = search rules in
    subst (Steps g.S.Store _ _ a b) (sym is) (record { ok = λ clean fit. tt; keeps = λ clean has. tt; kept = e.declares.kept; goes_on = λ clean has up inside. tt; asks = e.declares.asks })
