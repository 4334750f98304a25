use Rattle.std.specs.Prelude.{find}
use Rattle.index.specs.Calls.{IsSound}
use Rattle.index.specs.Layout.{HasIndexRows}
use Rattle.index.specs.Rows.{is_declaration_of}
use Rattle.index.specs.Shown.{declared, declared_at}
use Rattle.tables.specs.Calls.{Reads}
use Rattle.tables.specs.Schema.{decls_tree}
use Rattle.transactions.proofs.IndexSteps.{rows_of}
use Rattle.transactions.specs.Indexing.{IsIndexedStore}
use Rattle.sqlstore.proofs.KeyEntries.{also_ok, answers_by, declared_set, index_refused, when_ok}
use Rattle.index.specs.Shown.{Declared}
use Rattle.index.specs.declared.declaration.Declaration.{Declaration}
use Rattle.std.proofs.Common.{ap₂}
use Rattle.sqlstore.proofs.Common.{HasCleanDisk, Option, Some, SqlStore, WasStore, state, trees_of}
use Rattle.sqlstore.proofs.Lemmas.{List, Trees, ap, found, indexed_store, option_map, still, subst, sym, ∥∥₁_elim, ◌∙◌, ◌≡◌, ℕ}
use Rattle.sqlstore.specs.Model.{fault_count, is_honest}
use Rattle.sqlstore.proofs.sql_store.SqlStore.load_declaration.Goals as goal

pub invariant_of-self : goal.invariant_of-self
invariant_of-self g c =
    let e = c.find_decl-found.ensures in
    let reads : Reads g.S.Store HasIndexRows c.args.self.now.conn c.find_decl-found.new.conn (λ trees x. option_map declared x ≡ option_map declared_at (find (is_declaration_of c.args.number.now c.as_bytes-design.result.now c.as_bytes.result.now) (trees decls_tree))) c.find_decl-found.result =
    record { found = e.ok; served = e.served; stands = e.stands; looks = e.looks; asks = e.asks } in
    record { standing = still g.S.Store _ _ _ _ reads c.args.self.now.standing }

pub returns-clause-answer : goal.returns-clause-answer
returns-clause-answer g c =
    let s = c.args.self.now in
    let e = c.find_decl-found.ensures in
    let view : Option Declaration → Option Declared = option_map declared in
    let at : List ℕ → List ℕ → Trees → Option Declared = λ design name trees. option_map declared_at (find (is_declaration_of c.args.number.now design name) (trees decls_tree)) in
    let new : SqlStore g.row.S.Denot g.S.Store = record s { conn = c.find_decl-found.new.conn; faults = c.judge_index.new.faults; standing = c.self-1.given.0 } in
    let given = at c.as_bytes-design.result.now c.as_bytes.result.now in
    let asked = at c.args.design.now c.args.name.now in
    let reads : Reads g.S.Store HasIndexRows s.conn c.find_decl-found.new.conn (λ trees x. option_map declared x ≡ given trees) c.find_decl-found.result =
    record { found = e.ok; served = e.served; stands = e.stands; looks = e.looks; asks = e.asks } in
    let same : (trees : Trees) → given trees ≡ asked trees = λ trees. ap₂ (λ d n. at d n trees) (c.as_bytes-design.ensures.value ∙ c.as_str.ensures.text) c.as_bytes.ensures.value in
    answers_by (is_honest g.S.Store) (fault_count g.S.Store) s new view _ (IsSound g.S.Store s.conn c.find_decl-found.new.conn) c.judge_index.result
    (also_ok c.judge_index.result (λ x f honest. ap Some (sym (same (trees_of g.S.Store s)) ∙ sym (f honest)))
    (when_ok (λ x. option_map declared x ≡ given (trees_of g.S.Store s)) c.judge_index.result
    (λ (honest : HasCleanDisk (state g.S.Store c.find_decl-found.new.conn) × WasStore g.S.Store s.origin.value).
    found g.S.Store s.conn c.find_decl-found.new.conn s.origin.value s.last.value rows_of (λ trees x. option_map declared x ≡ given trees) (λ trees x. declared_set _ _) (λ trees x is. is) c.find_decl-found.result c.judge_index.result
    c.judge_index.ensures.ok reads s.standing.held honest.0 honest.1)))
    (index_refused _ _ _ c.find_decl-found.result c.judge_index.result e.err c.judge_index.ensures.told)
    (λ honest none.
    ∥∥₁_elim (s.standing.held (e.asks.clean honest.0) honest.1) (λ p q. absurd p) (λ h. none (honest.0, λ up. rows_of _ (subst IsIndexedStore (sym (h.now up)) (indexed_store h)))))
