-- A write of a document: the path of its new revision, the deletion mark and the body; and which lists of writes are lawful.
-- The CouchDB manual decides (replication/conflicts, "Revision tree", and api/database/bulk-api for paths given by `_revisions`).
use Rattle.std.specs.Prelude.{◌≡◌, ◌⊎◌, suc, ◌==◌, Bool, true, false, ◌&&◌, List, [], ◌∷◌, ◌++◌, length, Option, Some, None, IsTrue, ⊤}
use Rattle.couch_json.specs.Value.{Value}
use Rattle.tree.specs.Revision.{Revision}
use Rattle.tree.specs.declared.entry.Held.{Held}

-- a write: the path from its revision back to the oldest named, whether it deletes, and the body
pub record Write : Type 0 where
  -- the new revision, the one before it, and so on to the first
  pub path : List Revision
  pub deleted : Bool
  pub body : Value

-- each number tells how many revisions are left from there on: they go down by one, and end at 1
abbrev pub counts_down : List Revision → Bool
counts_down [] = true
counts_down (r ∷ rest) = (r.number == suc (length rest)) && counts_down rest

-- a path is whole where it leads from its newest revision down to a first one
abbrev pub is_whole_path : List Revision → Bool
is_whole_path [] = false
is_whole_path (r ∷ rest) = counts_down (r ∷ rest)

-- the newest revision of a path, if it has one
abbrev pub head : List Revision → Option Revision
head [] = None
head (r ∷ rest) = Some r

-- what the write brings for its head
abbrev pub held_of_write : Write → Held
held_of_write w = record { deleted = w.deleted; body = w.body }

-- a revision is one of a path
abbrev pub StandsIn : List Revision → Revision → Type 0
StandsIn [] r = ⊥
StandsIn (s ∷ path) r = (s ≡ r) ⊎ StandsIn path r

-- p stands right behind r in the path
abbrev pub IsBehind : List Revision → Revision → Revision → Type 0
IsBehind [] r p = ⊥
IsBehind (s ∷ path) r p = ((s ≡ r) × (head path ≡ Some p)) ⊎ IsBehind path r p

-- the second is the first, or the first without some of its newest revisions
abbrev pub EndsWith : List Revision → List Revision → Type 0
EndsWith [] end = [] ≡ end
EndsWith (r ∷ path) end = (r ∷ path ≡ end) ⊎ EndsWith path end

-- r stands in the path of one of the writes
abbrev pub IsKnown : List Write → Revision → Type 0
IsKnown [] r = ⊥
IsKnown (w ∷ ws) r = StandsIn w.path r ⊎ IsKnown ws r

-- p is the next one in such a path
abbrev pub IsParent : List Write → Revision → Revision → Type 0
IsParent [] r p = ⊥
IsParent (w ∷ ws) r p = IsBehind w.path r p ⊎ IsParent ws r p

-- one of the writes has r as its head, and brings d
abbrev pub IsBrought : List Write → Revision → Held → Type 0
IsBrought [] r d = ⊥
IsBrought (w ∷ ws) r d = ((head w.path ≡ Some r) × (held_of_write w ≡ d)) ⊎ IsBrought ws r d

-- the path of one of the writes ends so
abbrev pub IsPathEnd : List Write → List Revision → Type 0
IsPathEnd [] end = ⊥
IsPathEnd (w ∷ ws) end = EndsWith w.path end ⊎ IsPathEnd ws end

-- each write has a path without gaps
abbrev pub AreWhole : List Write → Type 0
AreWhole [] = ⊤
AreWhole (w ∷ ws) = IsTrue (is_whole_path w.path) × AreWhole ws

-- In the order of acceptance: the paths are whole, each write makes a revision that was not known before, and
-- all writes agree on the parent of a revision.
pub record AreLawfulWrites (ws : List Write) : Type 0 where
  pub whole : AreWhole ws
  pub heads_new : (before after : List Write) (w : Write) (r : Revision) → before ++ w ∷ after ≡ ws → head w.path ≡ Some r → ¬ (IsKnown before r)
  pub one_parent : (r p q : Revision) → IsParent ws r p → IsParent ws r q → p ≡ q
