use Rattle.index.proofs.Common.{Declared, Err, HasIndexRows, IndexFault, List, None, Ok, Option, Some, declared, option_map, refl, rules, state, subst, sym, ℕ, ⊤, ◌∙◌, ◌≡◌}
use Rattle.index.proofs.Refusals.{refused_as}
use Rattle.index.proofs.ShownDeclarations.{refused_of}
use Rattle.index.specs.Steps.{AreFit, Steps}
use Rattle.index.proofs.Rebuilt.{taken, unchanged}
use Rattle.index.proofs.StepLemmas.{steps_none, steps_read, steps_stop, steps_then}
use Rattle.index.specs.Declaring.{IsCleared, IsFoundIn, IsRebuildable, IsRebuilt, with_index}
use Rattle.index.specs.declared.declaration.Declaration.{Declaration}
use Rattle.index.specs.declared.fault.IndexFault.TheVariants as fault
use Rattle.index.proofs.declaring.clear_index.Goals as goal

fields_alike : (o : Option Declaration) → option_map (λ (x : Declared). x.fields) (option_map declared o) ≡ option_map {U = List (List ℕ)} (λ d. (declared d).fields) o
fields_alike None = refl
fields_alike (Some d) = refl

pub returns-then-is_declared_so-clause-clears : goal.returns-then-is_declared_so-clause-clears
returns-then-is_declared_so-clause-clears g c declares sees =
    let a = c.args.tx.now.conn.now in
    let b = c.find_stored.new.tx.conn.now in
    let db = c.args.db.now in
    let design = c.args.design.now in
    let name = c.args.name.now in
    let fields = option_map {U = List (List ℕ)} (λ paths. paths.items) c.args.fields.now in
    let found = option_map declared c.in_ok-found.found in
    let told : option_map {U = List (List ℕ)} (λ d. (declared d).fields) c.in_ok-found.found ≡ fields = search rules in
    let same = fields_alike c.in_ok-found.found ∙ told in
    let e = c.in_ok-found.ensures in
    steps_then g.S.Store {E = IndexFault} (IsRebuildable declares sees db) (IsFoundIn declares sees db design name found) (λ p q. q ≡ p) (IsCleared declares sees db design name fields) (IsCleared declares sees db design name fields)
    a b b c.in_ok-found.found (Ok tt)
    (steps_read g.S.Store (IsRebuildable declares sees db) a b (Ok c.in_ok-found.found) e.stands e.looks e.asks (λ fit. fit.store.schema_is))
    (steps_none g.S.Store (IsFoundIn declares sees db design name found) (IsCleared declares sees db design name fields) b (Ok tt)
    (λ fit. unchanged declares db design name sees fields found (state g.S.Store b).now fit same) tt)
    (λ was fit is.
    let rows : HasIndexRows (state g.S.Store a).now = record { schema_is = fit.store.schema_is; decls = fit.indexed.decls; entries = fit.indexed.entries.laid } in
    subst (IsFoundIn declares sees db design name found) (sym is) (record { fit = fit; found_is = e.finds was rows }))
    (λ was fit is got. subst (λ z. IsCleared declares sees db design name fields z (state g.S.Store b).now) is got)

pub returns-in_err-take_out-clause-clears : goal.returns-in_err-take_out-clause-clears
returns-in_err-take_out-clause-clears g c declares sees =
    let db = c.args.db.now in
    let design = c.args.design.now in
    let name = c.args.name.now in
    let fields = option_map {U = List (List ℕ)} (λ paths. paths.items) c.args.fields.now in
    let found = option_map declared c.in_ok-found.found in
    let e = c.in_ok-found.ensures in
    let why = c.in_err-take_out.field-0.0 in
    let is : c.from_residual-in_err-take_out.result ≡ Err (fault.Sqlite why) = search rules in
    steps_stop g.S.Store {X = Unit {0}} (IsRebuildable declares sees db) (λ p q. ⊤) (IsCleared declares sees db design name fields) c.args.tx.now.conn.now c.take_out.new.tx.conn.now why (fault.Sqlite why) c.from_residual-in_err-take_out.result is
    (steps_then g.S.Store {E = IndexFault} (IsRebuildable declares sees db) (IsFoundIn declares sees db design name found) (λ p q. q ≡ p) (IsRebuilt (with_index declares db design name None) sees) (λ p q. ⊤) c.args.tx.now.conn.now c.find_stored.new.tx.conn.now c.take_out.new.tx.conn.now c.in_ok-found.found (Err why)
    (steps_read g.S.Store (IsRebuildable declares sees db) c.args.tx.now.conn.now c.find_stored.new.tx.conn.now (Ok c.in_ok-found.found) e.stands e.looks e.asks (λ fit. fit.store.schema_is))
    (c.in_err-take_out.ensures.takes declares sees)
    (λ was fit same.
    let rows : HasIndexRows (state g.S.Store c.args.tx.now.conn.now).now = record { schema_is = fit.store.schema_is; decls = fit.indexed.decls; entries = fit.indexed.entries.laid } in
    subst (IsFoundIn declares sees db design name found) (sym same) (record { fit = fit; found_is = e.finds was rows }))
    (λ was fit same got. tt))

pub returns-clause-clears : goal.returns-clause-clears
returns-clause-clears g c declares sees =
    let a = c.args.tx.now.conn.now in
    let b = c.find_stored.new.tx.conn.now in
    let m = c.take_out.new.tx.conn.now in
    let db = c.args.db.now in
    let design = c.args.design.now in
    let name = c.args.name.now in
    let fields = option_map {U = List (List ℕ)} (λ paths. paths.items) c.args.fields.now in
    let found = option_map declared c.in_ok-found.found in
    let e = c.in_ok-found.ensures in
    let out = c.in_ok-take_out.ensures.takes declares sees in
    let went : Steps {X = Unit {0}} {E = IndexFault} g.S.Store (IsFoundIn declares sees db design name found) (IsRebuilt (with_index declares db design name None) sees) b m (Ok tt) =
    record { ok = λ clean fit. out.ok clean fit; keeps = λ clean has. out.keeps clean has; kept = out.kept; goes_on = λ clean has up inside. out.goes_on clean has up inside; asks = out.asks } in
    steps_then g.S.Store {E = IndexFault} {D = IndexFault} (IsRebuildable declares sees db) (IsFoundIn declares sees db design name found) (λ p q. q ≡ p) (IsRebuilt (with_index declares db design name None) sees) (IsCleared declares sees db design name fields)
    a b m c.in_ok-found.found (Ok tt)
    (steps_read g.S.Store (IsRebuildable declares sees db) a b (Ok c.in_ok-found.found) e.stands e.looks e.asks (λ fit. fit.store.schema_is))
    went
    (λ was fit same.
    let rows : HasIndexRows (state g.S.Store a).now = record { schema_is = fit.store.schema_is; decls = fit.indexed.decls; entries = fit.indexed.entries.laid } in
    subst (IsFoundIn declares sees db design name found) (sym same) (record { fit = fit; found_is = e.finds was rows }))
    (λ was fit same got. taken declares db design name sees fields (state g.S.Store a).now (state g.S.Store m).now (subst (λ p. IsRebuilt (with_index declares db design name None) sees p (state g.S.Store m).now) same got))

pub returns-in_err-found-clause-err : goal.returns-in_err-found-clause-err
returns-in_err-found-clause-err g c declares sees =
    let fit = AreFit g.S.Store (IsRebuildable declares sees c.args.db.now) c.args.tx.now.conn.now c.find_stored.new.tx.conn.now in
    let why = c.in_err-found.field-0.0 in
    let is : c.from_residual.result ≡ Err why = search rules in
    refused_as fit c.from_residual.result why is
    (refused_of (AreFit g.S.Store HasIndexRows c.args.tx.now.conn.now c.find_stored.new.tx.conn.now) fit why
    (λ it. (it.0, record { schema_is = it.1.store.schema_is; decls = it.1.indexed.decls; entries = it.1.indexed.entries.laid })) c.in_err-found.ensures.err)
