use Rattle.sqlstore.proofs.Lemmas.{Answers, Err, FoundValues, KnownDatabase, List, None, Option, answered, ap, database_read, dbs_tree, filter, found_in, is_named, known_values, map, option_map, refl, refused, rules, shown_database, slice_get, subst, sym, trees_of, was_honest, ℕ, ◌∙◌, ◌≡◌}
use Rattle.couch_json.specs.View.{view}
use Rattle.sqlstore.proofs.KnownCounts.{uncounted}
use Rattle.tables.specs.declared.decode.FoundDatabase.{FoundDatabase}
use Rattle.sqlstore.proofs.sql_store.SqlStore.read_database.Goals as goal

pub returns-in_err-found-clause-answer : goal.returns-in_err-found-clause-answer
returns-in_err-found-clause-answer g c =
    let s = c.args.self.now in
    let end = c.database_rows.new.self in
    let defined : Option FoundValues = option_map found_in (slice_get (filter (is_named c.args.name.now) (trees_of g.S.Store s dbs_tree)) 0) in
    let is : c.from_residual-in_err-found.result ≡ Err c.in_err-found.field-0.0 = search rules in
    let shown = λ (n : List ℕ). map shown_database (filter (is_named n) (trees_of g.S.Store s dbs_tree)) in
    let read : FoundDatabase → FoundValues = λ d. (d.number, view d.security, d.sequence) in
    subst (Answers g.S.Store {X = KnownDatabase} s end known_values defined) (sym is)
    (refused g.S.Store s end {X = FoundDatabase} read known_values defined defined c.in_err-found.field-0.0 (λ none. none)
    (answered g.S.Store s end read defined _ _ (Err c.in_err-found.field-0.0) c.in_err-found.ensures
    (λ honest.
    let was = was_honest g.S.Store s end c.database_rows.ensures.stands honest in
    database_read g.S.Store s c.args.name.now _ was (c.deref.ensures.value ∙ c.in_ok-rows.ensures.found honest ∙ ap shown (c.as_bytes.ensures.value ∙ c.as_str.ensures.text)))))

pub returns-clause-answer : goal.returns-clause-answer
returns-clause-answer g c honest =
    let s = c.args.self.now in
    let was = was_honest g.S.Store s c.database_rows.new.self c.database_rows.ensures.stands honest in
    let shown = λ (n : List ℕ). map shown_database (filter (is_named n) (trees_of g.S.Store s dbs_tree)) in
    (database_read g.S.Store s c.args.name.now _ was (c.deref.ensures.value ∙ c.in_ok-rows.ensures.found honest ∙ ap shown (c.as_bytes.ensures.value ∙ c.as_str.ensures.text))).1
    ∙ c.in_ok-found.ensures

pub returns-clause-known : goal.returns-clause-known
returns-clause-known g c honest =
    let trees = trees_of g.S.Store c.args.self.now in
    let named : c.in_ok-name.name ≡ c.args.name.now = search rules in
    let k : KnownDatabase = record { name = c.in_ok-name.name; found = c.in_ok-found.found; live = None; deleted = None; ranks = None; indexes = None; index_ranks = None; designs = None } in
    ∣ record {
      row = ap (λ (n : List ℕ). option_map found_in (slice_get (filter (is_named n) (trees dbs_tree)) 0)) named ∙ returns-clause-answer g c honest;
      counts = uncounted trees k refl refl;
      ranked = tt;
      indexes = tt;
      index_ranked = tt;
      designed = tt;
    } ∣₁
