-- Each revision that a database of laid tables knows is a revision.
use Rattle.tables.proofs.Common.{IsWellFormed, List, None, Option, Revision, Row, Some, Trees, ap, contents_in, database_of_row, dbs_tree, filter, inside, is_known, is_named, is_revision, number_of, option_map, refl, revs_tree, slice_get, sym, true, ℕ, ◌∙◌, ◌≡◌}
use Rattle.std.specs.FinMap as finite
use Rattle.store.specs.Database.{Database, history_at}
use Rattle.tables.proofs.Laid.{known_lawful}
use Rattle.tables.proofs.Lookups.{database_found, document_found}

pub known_are_revisions : (trees : Trees) → IsWellFormed trees → (name id : List ℕ) (db : Database) (r : Revision) → finite.get (contents_in trees) name ≡ Some db → is_known (history_at db id) r ≡ true → is_revision r ≡ true
known_are_revisions trees laid name id db r there known = by (slice_get (filter (is_named name) (trees dbs_tree)) 0) refl
  where
    by : (o : Option Row) → slice_get (filter (is_named name) (trees dbs_tree)) 0 ≡ o → is_revision r ≡ true
    by None is = let none : Some db ≡ None = sym there ∙ database_found trees name ∙ ap (option_map (database_of_row trees)) is in absurd (cc)
    by (Some d) is =
        let own : db ≡ database_of_row trees d = inside _ _ (sym there ∙ database_found trees name ∙ ap (option_map (database_of_row trees)) is) in
        known_lawful trees (trees revs_tree) (number_of d) id r laid.revs
        (ap (λ h. is_known h r) (sym (document_found trees d id laid)) ∙ ap (λ (x : Database). is_known (history_at x id) r) (sym own) ∙ known)
