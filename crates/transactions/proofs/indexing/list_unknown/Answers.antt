use Rattle.transactions.proofs.Lemmas.{CommitFault, Err, IfErr, IsUnwritten, Result, asks_itself, refl, rules, state, subst, sym, ⊤, ◌≡◌}
use Rattle.transactions.proofs.Common.{Option}
use Rattle.transactions.proofs.IndexRests.{refused_of}
use Rattle.transactions.proofs.IndexSteps.{rows_of}
use Rattle.transactions.specs.Indexing.{AreKnownIndexes, IsSoundIndexed, of_index_fault}
use Rattle.index.proofs.Going.{proceeds_itself}
use Rattle.index.specs.Calls as index
use Rattle.index.specs.declared.declaration.Declaration.{Declaration}
use Rattle.std.proofs.Common.{Global, Vec}
use Rattle.transactions.proofs.indexing.list_unknown.Goals as goal

pub returns-in-Some-clause-ok : goal.returns-in-Some-clause-ok
returns-in-Some-clause-ok g c clean was every =
    let old = state g.S.Store c.args.tx.now.conn.now in
    subst (λ (k : Option (Vec Declaration Global)). AreKnownIndexes k c.args.db.now old.now.trees) c.in-Some.is every

pub returns-in-Some-clause-stays : goal.returns-in-Some-clause-stays
returns-in-Some-clause-stays g c clean has = record { now_is = refl; mode = refl; is_open = λ up. up }

pub returns-in-Some-clause-looks : goal.returns-in-Some-clause-looks
returns-in-Some-clause-looks g c has = proceeds_itself (state g.S.Store c.args.tx.now.conn.now)

pub returns-in-Some-clause-asks : goal.returns-in-Some-clause-asks
returns-in-Some-clause-asks g c = asks_itself (state g.S.Store c.args.tx.now.conn.now)

pub returns-in_err-list_declarations-in-None-clause-err : goal.returns-in_err-list_declarations-in-None-clause-err
returns-in_err-list_declarations-in-None-clause-err g c =
    let first = c.args.tx.now.conn.now in
    let last = c.list_declarations.new.tx.conn.now in
    let fault = c.in_err-list_declarations-in-None.field-0.0 in
    let Given : Type 0 = IsSoundIndexed g.S.Store (λ _. ⊤) first last in
    let is : c.from_residual.result ≡ Err (of_index_fault fault) = search rules in
    subst (λ (r : Result (Vec Declaration Global) CommitFault). IfErr r (IsUnwritten Given)) (sym is)
    (refused_of (index.IsSound g.S.Store first last) Given fault (λ it. (it.0, λ up. rows_of _ (it.1 up).0)) c.in_err-list_declarations-in-None.ensures.err)

pub returns-in_ok-list_declarations-in-None-clause-ok : goal.returns-in_ok-list_declarations-in-None-clause-ok
returns-in_ok-list_declarations-in-None-clause-ok g c clean was every = c.in_ok-list_declarations-in-None.ensures.ok clean (rows_of _ was)

pub returns-in_ok-list_declarations-in-None-clause-stays : goal.returns-in_ok-list_declarations-in-None-clause-stays
returns-in_ok-list_declarations-in-None-clause-stays g c clean has =
    let stands = (c.in_ok-list_declarations-in-None.ensures.stands has clean).0 in
    record { now_is = stands.now_is; mode = stands.mode; is_open = λ up. stands.is_open }
