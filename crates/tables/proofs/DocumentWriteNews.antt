-- What a write of the code brings: the revisions of its own path that are not known, since all that stands behind its parent is known and so lawful.
use Rattle.tables.proofs.Common.{Addition, AllByRecursion, Bool, Entry, HistoryContent, IsWellFormed, IsStorable, IsUtf8, List, None, Option, Revision, Some, Trees, [], all-append, ap, ancestors_of_parent, cond, entries_before, filter, head, history_in_rows, is_document_id, is_known, is_revision, new_entries, next_of, not, path_entries, refl, revs_tree, true, written_in, ℤ, ◌++◌, ◌∙◌, ◌∷◌, ◌≡◌}
use Rattle.std.specs.Prelude.{IsTrue}
use Rattle.couch_json.specs.Lawful as json
use Rattle.tree.specs.declared.entry.Held.{Held}
use Rattle.tree.proofs.Behind.{AllKnown, behind_known}
use Rattle.tables.proofs.Laid.{known_lawful}

module _ (h : HistoryContent) where
  abbrev is_new : Revision × Entry → Bool
  is_new e = not (is_known h e.0)

  none_new : (d : Option Held) (tail : List Revision) → AllKnown h tail → filter is_new (path_entries d tail) ≡ []
  none_new d [] known = refl
  none_new d (r ∷ tail) known = ap (λ b. cond (not b) ((r, record { parent = head tail; held = d }) ∷ filter is_new (path_entries None tail)) (filter is_new (path_entries None tail))) known.0 ∙ none_new None tail known.1

  next-append : (path tail : List Revision) → head (path ++ tail) ≡ next_of path (head tail)
  next-append [] tail = refl
  next-append (r ∷ path) tail = refl

  new_in_front : (d : Option Held) (path tail : List Revision) → AllKnown h tail → filter is_new (path_entries d (path ++ tail)) ≡ filter is_new (entries_before d path (head tail))
  new_in_front d [] tail known = none_new d tail known
  new_in_front d (r ∷ path) tail known =
      ap (λ (o : Option Revision). cond (is_new (r, record { parent = o; held = d })) ((r, record { parent = o; held = d }) ∷ filter is_new (path_entries None (path ++ tail))) (filter is_new (path_entries None (path ++ tail)))) (next-append path tail)
      ∙ ap (λ es. cond (is_new (r, record { parent = next_of path (head tail); held = d })) ((r, record { parent = next_of path (head tail); held = d }) ∷ es) es) (new_in_front None path tail known)

pub news_of_addition : (h : HistoryContent) (a : Addition) → new_entries h (written_in h a).write ≡ filter (λ e. not (is_known h e.0)) (entries_before (Some (record { deleted = a.deleted; body = a.body })) a.path (head (ancestors_of_parent h a.parent)))
news_of_addition h a = new_in_front h (Some (record { deleted = a.deleted; body = a.body })) a.path (ancestors_of_parent h a.parent) (behind_known h a.parent)

all_lawful : (h : HistoryContent) (rs : List Revision) → AllKnown h rs → ((q : Revision) → is_known h q ≡ true → is_revision q ≡ true) → AllByRecursion (λ v. IsTrue (is_revision v)) rs
all_lawful h [] known lawful = tt
all_lawful h (r ∷ rs) known lawful = (lawful r known.0, all_lawful h rs known.1 lawful)

pub storable_addition : (trees : Trees) (db : ℤ) (a : Addition) → IsWellFormed trees → IsTrue (is_document_id a.id) → IsUtf8 a.id → AllByRecursion (λ v. IsTrue (is_revision v)) a.path → json.IsLawful a.body
    → IsStorable (written_in (history_in_rows (trees revs_tree) db a.id) a)
storable_addition trees db a laid named text path body =
    let h : HistoryContent = history_in_rows (trees revs_tree) db a.id in
    record {
      named = named;
      text = text;
      revisions = all-append (λ (v : Revision). IsTrue (is_revision v)) a.path (ancestors_of_parent h a.parent) path (all_lawful h (ancestors_of_parent h a.parent) (behind_known h a.parent) (λ q. known_lawful trees (trees revs_tree) db a.id q laid.revs));
      body = body;
    }
