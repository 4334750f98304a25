-- Rows of an index are read, and then their documents; else all documents are scanned.
use Rattle.std.proofs.Common.{◌≡◌, List, Option, Some, None, option_map, refl, sym, ap, ◌∙◌}
use Rattle.couch_json.specs.Value.{Value}
use Rattle.store.specs.Calls.{OnlyReads}
use Rattle.store.specs.Database.{Database}
use Rattle.store.specs.declared.store.Store.{Ghosts}
use Rattle.find.specs.Found.{found_documents}
use Rattle.find.specs.declared.query.Query.{Query}

same_found : (query : Query) (there : Option Database) (give : Database → List Value) → ((d : Database) → there ≡ Some d → give d ≡ found_documents query d)
    → option_map give there ≡ option_map (λ d. found_documents query d) there
same_found query None give is = refl
same_found query (Some d) give is = ap Some (is d refl)

-- what is found by an index that was chosen by calls that only read
pub found_planned : {S : Type 0} (g : Ghosts S) (first new : S) (there later : Option Database) (query : Query) (give : Database → List Value) (found : List Value)
    → OnlyReads g first new → (g.is_honest first → later ≡ there) → (g.is_honest first → (d : Database) → there ≡ Some d → give d ≡ found_documents query d)
    → (g.is_honest new → option_map give later ≡ Some found) → g.is_honest new → option_map (λ d. found_documents query d) there ≡ Some found
found_planned g first new there later query give found reads still is gives honest =
    let start = reads.goes_on.honest honest in
    sym (same_found query there give (is start)) ∙ ap (option_map give) (sym (still start)) ∙ gives honest
