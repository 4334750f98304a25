-- The revisions of a list that is read one element at a time, and what parameters ask for once each value is known.
use Rattle.std.proofs.Common.{◌≡◌, ℕ, Bool, true, List, [], ◌∷◌, ◌++◌, Option, Some, None, option_map, refl, sym, ap, ◌∙◌, append_assoc, codes}
use Rattle.tree.specs.Revision.{Revision}
use Rattle.couch_json.specs.Value.{Value, Members, member}
use Rattle.read.specs.Differences.{RevisionsOf}
use Rattle.api.specs.Listings.{revisions_of_members, with_revisions_of}
use Rattle.api.specs.Queries.{parameters_are_named, asked_of_document, flag_in, given_at, document_query_by, revisions_listed, sole_value}

-- the next revision joins those before it
pub revisions_go_on : (before : List Revision) (r : Revision) (rest : Option (List Revision))
    → option_map (λ rs. before ++ rs) (option_map (λ rs. r ∷ rs) rest) ≡ option_map (λ rs. (before ++ r ∷ []) ++ rs) rest
revisions_go_on before r None = refl
revisions_go_on before r (Some rs) = ap Some (sym (append_assoc before (r ∷ []) rs))

-- the next list joins those before it
lists_go_on : (before : List RevisionsOf) (a : RevisionsOf) (rest : Option (List RevisionsOf))
    → option_map (λ rs. before ++ rs) (option_map (λ rs. a ∷ rs) rest) ≡ option_map (λ rs. (before ++ a ∷ []) ++ rs) rest
lists_go_on before a None = refl
lists_go_on before a (Some rs) = ap Some (sym (append_assoc before (a ∷ []) rs))

-- what is left is as before once the first member is taken in
pub list_taken : (before after : List RevisionsOf) (left ms : Members) (name : List ℕ) (v : Value) (revs : List Revision) (total : Option (List RevisionsOf))
    → left ≡ member name v ms → revisions_listed v ≡ Some revs → after ≡ before ++ record { id = name; revs = revs } ∷ []
    → option_map (λ rs. before ++ rs) (revisions_of_members left) ≡ total → option_map (λ rs. after ++ rs) (revisions_of_members ms) ≡ total
list_taken before after left ms name v revs total first listed more so_far =
    ap (λ (xs : List RevisionsOf). option_map (λ rs. xs ++ rs) (revisions_of_members ms)) more ∙ sym (lists_go_on before _ (revisions_of_members ms))
    ∙ sym (ap (λ (r : Option (List Revision)). option_map (λ rs. before ++ rs) (with_revisions_of name r (revisions_of_members ms))) listed)
    ∙ sym (ap (λ (x : Members). option_map (λ rs. before ++ rs) (revisions_of_members x)) first) ∙ so_far

-- the parameters have no other names than the three, and these values
pub asked_by_values : (parameters : List (List ℕ × List ℕ)) (rev open_revs : Option (List ℕ)) (revs : Option Bool)
    → parameters_are_named (codes "rev" ∷ codes "revs" ∷ codes "open_revs" ∷ []) parameters ≡ true
    → sole_value (codes "rev") parameters ≡ Some rev → sole_value (codes "open_revs") parameters ≡ Some open_revs
    → given_at flag_in (codes "revs") parameters ≡ Some revs → asked_of_document parameters ≡ document_query_by rev open_revs revs
asked_by_values parameters rev open_revs revs named is_rev is_open is_revs = rw named (rw is_rev (rw is_open (rw is_revs refl)))
