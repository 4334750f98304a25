-- The path that a list of hashes gives, hash by hash.
use Rattle.std.proofs.Common.{◌≡◌, ℕ, suc, List, [], ◌∷◌, ◌++◌, length, Option, Some, None, option_map, option_and_then, refl, ap, sym, ◌∙◌}
use Rattle.std.proofs.lemmas.List.{append_assoc}
use Rattle.couch_json.specs.Parts.{text_in}
use Rattle.couch_json.specs.View.{view, items_view}
use Rattle.couch_json.specs.declared.value.Json.{Json}
use Rattle.tree.specs.Revision.{Revision, revision_of}
use Rattle.write.specs.Document.{item_count, onto, path_of_hashes}

count_items : (vs : List Json) → item_count (items_view vs) ≡ length vs
count_items [] = refl
count_items (v ∷ vs) = ap suc (count_items vs)

-- the revision of a hash with this number
abbrev pub revision_from : ℕ → Json → Option Revision
revision_from number v = option_and_then (λ hash. revision_of number hash) (text_in (view v))

-- the revision of the first hash stands before those of the rest
path_from : (ids : List Json) (v : Json) (rest : List Json) (number : ℕ) → ids ≡ v ∷ rest → number ≡ length ids
    → path_of_hashes (items_view ids) ≡ onto (revision_from number v) (path_of_hashes (items_view rest))
path_from ids v rest number first counted =
    ap (λ vs. path_of_hashes (items_view vs)) first
    ∙ ap (λ n. onto (revision_from n v) (path_of_hashes (items_view rest))) (ap suc (count_items rest) ∙ sym (counted ∙ ap (λ vs. length vs) first))

one_more : (front : List Revision) (r : Revision) (rest : Option (List Revision))
    → option_map (λ x. (front ++ r ∷ []) ++ x) rest ≡ option_map (λ x. front ++ x) (onto (Some r) rest)
one_more front r None = refl
one_more front r (Some rest) = ap Some (append_assoc front (r ∷ []) rest)

pub goes_on : (all ids : List Json) (v : Json) (rest : List Json) (number : ℕ) (front : List Revision) (r : Revision) → ids ≡ v ∷ rest → number ≡ length ids
    → Some r ≡ revision_from number v
    → option_map (λ x. front ++ x) (path_of_hashes (items_view ids)) ≡ path_of_hashes (items_view all)
    → option_map (λ x. (front ++ r ∷ []) ++ x) (path_of_hashes (items_view rest)) ≡ path_of_hashes (items_view all)
goes_on all ids v rest number front r first counted is_next so_far =
    one_more front r (path_of_hashes (items_view rest))
    ∙ ap (λ o. option_map (λ x. front ++ x) (onto o (path_of_hashes (items_view rest)))) is_next
    ∙ sym (ap (option_map (λ x. front ++ x)) (path_from ids v rest number first counted)) ∙ so_far

pub ends : (all ids : List Json) (v : Json) (rest : List Json) (number : ℕ) (front : List Revision) → ids ≡ v ∷ rest → number ≡ length ids
    → None ≡ revision_from number v
    → option_map (λ x. front ++ x) (path_of_hashes (items_view ids)) ≡ path_of_hashes (items_view all)
    → None ≡ path_of_hashes (items_view all)
ends all ids v rest number front first counted is_none so_far =
    ap (λ o. option_map (λ x. front ++ x) (onto o (path_of_hashes (items_view rest)))) is_none
    ∙ sym (ap (option_map (λ x. front ++ x)) (path_from ids v rest number first counted)) ∙ so_far
