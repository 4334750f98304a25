-- Queries and rules see the same of a winner alone as of its whole history.
use Rattle.std.proofs.Common.{◌≡◌, Bool, true, false, cond, List, [], ◌∷◌, Option, Some, None, refl, sym, ap, ◌∙◌, ℕ}
use Rattle.std.specs.Prelude.{is_some, map, not, ◌&&◌, ◌++◌, option_and_then, option_map, slice_get}
use Rattle.std.specs.Cmp.{tied_itself}
use Rattle.std.specs.FinMap.{empty, entries, entries-insert, get, get-empty, get-insert, insert, len-empty, len-entries, put}
use Rattle.std.specs.Ordering.{is_eq}
use Rattle.tree.specs.DocumentId.{is_design_id}
use Rattle.tree.specs.History.{HistoryContent, held_of, is_deleted, leaves_in, winner, with_new}
use Rattle.tree.specs.Revision.{Revision, revision_cmp}
use Rattle.tree.specs.ShownDocument.{document_at_revision}
use Rattle.tree.specs.declared.entry.Entry.{Entry}
use Rattle.tree.specs.declared.entry.Held.{Held}
use Rattle.tree.proofs.Kept.{Node, revision_cmp_total}
use Rattle.store.proofs.PageStructs.{no_length}
use Rattle.store.specs.Indexes.{declared_fields, held_by, index_fields_of, queried_document, shown_by, winning_body}
use Rattle.store.specs.Pages.{live_rev, live_rev_by}
use Rattle.store.specs.Winning.{single, single_by, winner_alone}

first_new : (r : Revision) (e : Entry) → with_new empty r e ≡ insert empty r e
first_new r e = ap (λ o. cond (is_some o) empty (insert empty r e)) (get-empty revision_cmp r)

abbrev nothing : HistoryContent
nothing = empty

none_there : entries nothing ≡ []
none_there = no_length (entries nothing) (sym (len-entries nothing) ∙ len-empty revision_cmp Entry)

one_entry : (r : Revision) (d : Option Held) → entries (single r d) ≡ (r, record { parent = None; held = d }) ∷ []
one_entry r d =
    ap entries (first_new r (record { parent = None; held = d })) ∙ entries-insert revision_cmp_total empty r (record { parent = None; held = d })
    ∙ ap (put revision_cmp r (record { parent = None; held = d })) none_there

winner_of_one : (r : Revision) (d : Option Held) → winner (single r d) ≡ Some r
winner_of_one r d =
    ap (λ (nodes : List Node). slice_get (leaves_in false nodes ++ leaves_in true nodes) 0) (one_entry r d) ∙ by (is_deleted d)
  where
    by : (b : Bool) → slice_get (map (λ (e : Node). e.0) (cond (not b && not false) ((r, record { parent = None; held = d }) ∷ []) [])
        ++ map (λ (e : Node). e.0) (cond (b && not false) ((r, record { parent = None; held = d }) ∷ []) [])) 0 ≡ Some r
    by true = refl
    by false = refl

held_of_one : (r : Revision) (d : Option Held) → held_of (single r d) r ≡ d
held_of_one r d =
    ap (λ (h : HistoryContent). held_of h r) (first_new r (record { parent = None; held = d }))
    ∙ ap (option_and_then (λ (e : Entry). e.held)) (get-insert revision_cmp_total empty r (record { parent = None; held = d }) r)
    ∙ ap (λ b. option_and_then (λ (e : Entry). e.held) (cond b (Some (record { parent = None; held = d })) (get nothing r))) (ap is_eq (tied_itself revision_cmp_total r))

pub no_winner : winner empty ≡ None
no_winner = ap (λ (nodes : List Node). slice_get (leaves_in false nodes ++ leaves_in true nodes) 0) none_there

-- ---- what a history shows hangs on its winner and on what is held of it

module _ (h : HistoryContent) where
  alone_winner : (o : Option Revision) → winner h ≡ o → winner (single_by h o) ≡ o
  alone_winner None is = no_winner
  alone_winner (Some r) is = winner_of_one r (held_of h r)

  -- the same of each revision that may be the winner
  same_held : (o : Option Revision) → held_by (single_by h o) o ≡ held_by h o
  same_held None = refl
  same_held (Some r) = held_of_one r (held_of h r)

  same_live : (o : Option Revision) → live_rev_by (single_by h o) o ≡ live_rev_by h o
  same_live None = refl
  same_live (Some r) = ap (λ d. cond (is_deleted d) None (Some r)) (held_of_one r (held_of h r))

  live_in : (o : Option Revision) → winner h ≡ o → live_rev (single_by h o) ≡ live_rev h
  live_in o is = ap (live_rev_by (single_by h o)) (alone_winner o is) ∙ same_live o ∙ ap (live_rev_by h) (sym is)

  -- what is held of the winner, where it is not deleted
  held_live : (o : Option Revision) → held_by (single_by h o) (live_rev_by h o) ≡ held_by h (live_rev_by h o)
  held_live None = refl
  held_live (Some r) = by (is_deleted (held_of h r))
    where
      by : (b : Bool) → held_by (single r (held_of h r)) (cond b None (Some r)) ≡ held_by h (cond b None (Some r))
      by true = refl
      by false = held_of_one r (held_of h r)

  shown_live : (id : List ℕ) (o : Option Revision) → shown_by id (single_by h o) (live_rev_by h o) ≡ shown_by id h (live_rev_by h o)
  shown_live id None = refl
  shown_live id (Some r) = by (is_deleted (held_of h r))
    where
      by : (b : Bool) → shown_by id (single r (held_of h r)) (cond b None (Some r)) ≡ shown_by id h (cond b None (Some r))
      by true = refl
      by false = ap (option_map (λ held. document_at_revision id r held)) (held_of_one r (held_of h r))

  pub queried_alone : (id : List ℕ) → queried_document id (winner_alone h) ≡ queried_document id h
  queried_alone id =
      ap (λ o. cond (is_design_id id) None o)
      (ap (shown_by id (winner_alone h)) (live_in (winner h) refl) ∙ shown_live id (winner h))

  pub body_alone : winning_body (winner_alone h) ≡ winning_body h
  body_alone = ap (option_map (λ (d : Held). d.body)) (ap (held_by (winner_alone h)) (live_in (winner h) refl) ∙ held_live (winner h))

  pub fields_alone : (design name : List ℕ) → index_fields_of design (winner_alone h) name ≡ index_fields_of design h name
  fields_alone design name = ap (λ body. cond (is_design_id design) (option_and_then (λ b. declared_fields b name) body) None) body_alone
