-- What several documents leave: the histories after all of them, and that what was replicated is known there or was refused.
-- CouchDB manual, replication/protocol ("Upload Batch of Changed Documents": `_bulk_docs` with `new_edits` false, whose reply tells what was not written); the words are this server's own.
use Rattle.std.specs.Prelude.{◌≡◌, ℕ, List, [], ◌∷◌, Option, Some, option_and_then, Ok, Err, IsTrue, ⊤}
use Rattle.couch_json.specs.Value.{Value}
use Rattle.tree.specs.Revision.{Revision}
use Rattle.tree.specs.Write.{head}
use Rattle.tree.specs.History.{is_known}
use Rattle.write.specs.Bulk.{Histories, DocumentOutcome, after}
use Rattle.write.specs.Document.{ancestry_in, id_in, sent_in}

-- the histories after several outcomes, one after another
abbrev pub after_all : Histories → List DocumentOutcome → Histories
after_all histories [] = histories
after_all histories (o ∷ os) = after_all (after histories o) os

-- the revision that a replicated document with this id brings: the newest of its history
abbrev pub revision_brought : List ℕ → Value → Option Revision
revision_brought id document =
    option_and_then (λ sent. option_and_then (λ ancestry. head ancestry.path) (ancestry_in document sent.rev)) (sent_in id document)

-- the document has an id and brings a revision, and the document of this id has that revision
pub record IsKnownIn (histories : Histories) (document : Value) : Type 0 where
  pub id : List ℕ
  pub rev : Revision
  pub named : id_in document ≡ Some id
  pub brought : revision_brought id document ≡ Some rev
  pub known : IsTrue (is_known (histories id) rev)

-- a document that was not refused is known
abbrev pub IsKnownOrRefused : Histories → Value → DocumentOutcome → Type 0
IsKnownOrRefused histories document (Ok w) = IsKnownIn histories document
IsKnownOrRefused histories document (Err fault) = ⊤

-- each document has its outcome, in order, and is known or refused
abbrev pub AreKnownOrRefused : Histories → List Value → List DocumentOutcome → Type 0
AreKnownOrRefused histories [] [] = ⊤
AreKnownOrRefused histories [] (o ∷ os) = ⊥
AreKnownOrRefused histories (v ∷ vs) [] = ⊥
AreKnownOrRefused histories (v ∷ vs) (o ∷ os) = IsKnownOrRefused histories v o × AreKnownOrRefused histories vs os
