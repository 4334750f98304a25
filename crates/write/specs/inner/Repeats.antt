-- Which of several documents have an `_id` that a later one has too.
-- This crate's own: it says of which documents the code keeps the history while it judges the others.
use Rattle.std.specs.Prelude.{◌≡◌, ℕ, Bool, true, false, List, [], ◌∷◌, Option, Some, None, codes}
use Rattle.std.specs.Borrow.{Bor}
use Rattle.std.specs.BTreeSet.{BTreeSet, contains_by}
use Rattle.std.specs.List.{list_any}
use Rattle.std.specs.Ordering.{nat_cmp}
use Rattle.std.specs.Cmp.Lexicographic.{slice_cmp}
use Rattle.couch_json.specs.Value.{Value}
use Rattle.write.specs.Document.{is_same_text, member_text}

-- one of these documents has this text as its `_id`
abbrev pub is_named : List ℕ → List Value → Bool
is_named text documents = list_any (λ v. is_same_text text (member_text (codes "_id") v)) documents

-- one of them has the `_id` of another document, where that is a text
abbrev pub is_named_if_any : Option (List ℕ) → List Value → Bool
is_named_if_any None documents = false
is_named_if_any (Some text) documents = is_named text documents

-- of each document, whether one behind it has its `_id`
abbrev pub repeats : List Value → List Bool
repeats [] = []
repeats (v ∷ vs) = is_named_if_any (member_text (codes "_id") v) vs ∷ repeats vs

-- a set of texts has this one
abbrev pub has_text : BTreeSet (Bor (List ℕ)) → List ℕ → Bool
has_text texts text = contains_by (λ t. slice_cmp nat_cmp text t.now) texts

-- the same of the `_id` of a document, where it is a text
abbrev pub has_text_if_any : BTreeSet (Bor (List ℕ)) → Option (List ℕ) → Bool
has_text_if_any texts None = false
has_text_if_any texts (Some text) = has_text texts text

-- The history of this id is kept behind a document with an id of its own, of which is known whether it comes again: the id is another
-- one, or it comes again.
abbrev pub IsKept : Bool → Option (List ℕ) → List ℕ → Type 0
IsKept again own id = own ≡ Some id → again ≡ true
