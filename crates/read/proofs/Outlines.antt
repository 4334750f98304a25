-- What is read of an outline is what its history says.
use Rattle.std.proofs.Common.{◌≡◌, List, [], ◌∷◌, Option, Some, None, true, cond, refl, sym, ap, ◌∙◌}
use Rattle.std.specs.Prelude.{IfSome, is_some, filter, map, not, option_map}
use Rattle.std.specs.FinMap.{empty, entries, from_entries, len-empty, len-entries}
use Rattle.couch_json.specs.Value.{Members, text}
use Rattle.tree.specs.History.{HistoryContent, chain, is_known}
use Rattle.tree.specs.Outline.{all_bare, outline_of}
use Rattle.tree.specs.Revision.{Revision, revision_cmp, text_of}
use Rattle.tree.specs.declared.entry.Entry.{Entry}
use Rattle.tree.proofs.Outlines.{chain_in, is_known_in}
use Rattle.store.proofs.PageStructs.{no_length}
use Rattle.read.specs.Differences.{missing_texts}
use Rattle.read.specs.Path.{with_path, with_paths, with_revisions}

pub paths_of : (h : HistoryContent) (o : Option HistoryContent) (r : Revision) (ms : Members) → IfSome o (λ outline. outline ≡ outline_of h) → with_paths o r ms ≡ with_revisions (is_some o) h r ms
paths_of h None r ms is = refl
paths_of h (Some outline) r ms is = ap (λ k. with_path r (chain k r) ms) is ∙ ap (λ path. with_path r path ms) (chain_in h r)

unknown_same : (h : HistoryContent) (revs : List Revision) → filter (λ r. not (is_known (outline_of h) r)) revs ≡ filter (λ r. not (is_known h r)) revs
unknown_same h [] = refl
unknown_same h (r ∷ revs) =
    ap (λ b. cond (not b) (r ∷ filter (λ s. not (is_known (outline_of h) s)) revs) (filter (λ s. not (is_known (outline_of h) s)) revs)) (is_known_in h r)
    ∙ ap (λ rest. cond (not (is_known h r)) (r ∷ rest) rest) (unknown_same h revs)

pub missing_same : (h : HistoryContent) (revs : List Revision) → missing_texts (outline_of h) revs ≡ missing_texts h revs
missing_same h revs = ap (map (λ r. text (text_of r))) (unknown_same h revs)

abbrev nothing : HistoryContent
nothing = empty

pub outline_of_nothing : outline_of nothing ≡ nothing
outline_of_nothing = ap (λ es. from_entries {R = revision_cmp} (all_bare es)) (no_length (entries nothing) (sym (len-entries nothing) ∙ len-empty revision_cmp Entry))

-- what a database shows, where it is there
pub shown_there : {A B : Type 0} (o : Option A) (f : A → B) (x : B) → is_some o ≡ true → ((a : A) → o ≡ Some a → f a ≡ x) → option_map f o ≡ Some x
shown_there None f x there is = absurd (cc)
shown_there (Some a) f x there is = ap Some (is a refl)

-- a database of which something was answered is there
pub answered_there : {A B : Type 0} (o : Option A) (f : A → B) (x : B) → option_map f o ≡ Some x → is_some o ≡ true
answered_there None f x is = cc
answered_there (Some a) f x is = refl
