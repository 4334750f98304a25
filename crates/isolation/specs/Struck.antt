-- Runs of requests with those of other callers on hidden databases, and without them.
-- This server's own; CouchDB manual, api/database/security, says who is a member.
use Rattle.std.specs.Prelude.{◌≡◌, ℕ, Bool, true, false, ◌&&◌, bytes_eq, List, [], ◌∷◌, Option, Some, None}
use Rattle.std.specs.FinMap.{get}
use Rattle.auth.specs.Callers.{Configuration, Identity}
use Rattle.couch_http.specs.Message.{Message}
use Rattle.couch_http.specs.Reply.{Reply}
use Rattle.policy.specs.Security.{is_member}
use Rattle.store.specs.Contents.{Contents}
use Rattle.store.specs.Database.{Database}
use Rattle.node.specs.Hidden.{AreHidden, CallerGroup, Names, is_of_others, is_struck}
use Rattle.node.specs.Runs.{Stepped}

-- an element that may be left out
abbrev pub element_unless : {A : Type 0} → Bool → A → List A → List A
element_unless true x xs = xs
element_unless false x xs = x ∷ xs

-- the requests without those of others on these databases
abbrev pub struck : Configuration → CallerGroup → Names → List Message → List Message
struck c group names [] = []
struck c group names (m ∷ ms) = element_unless (is_struck c group names m) m (struck c group names ms)

-- what the group is told: the replies to all requests but those of others
abbrev pub replies_to : Configuration → CallerGroup → List (Stepped Contents) → List Reply
replies_to c group [] = []
replies_to c group (s ∷ ss) = element_unless (is_of_others c group s.message) s.reply (replies_to c group ss)

-- none of the group is a member of any of these databases, before the first step and after each
abbrev pub AreHiddenThroughout : CallerGroup → Names → Contents → List (Stepped Contents) → Type 0
AreHiddenThroughout group names before [] = AreHidden group names before
AreHiddenThroughout group names before (s ∷ ss) = AreHidden group names before × AreHiddenThroughout group names s.after ss

-- ---- one caller

-- the same name, or none in both
abbrev pub is_same_name : Option (List ℕ) → Option (List ℕ) → Bool
is_same_name None None = true
is_same_name None (Some other) = false
is_same_name (Some name) None = false
is_same_name (Some name) (Some other) = bytes_eq name other

-- the same roles in the same order
abbrev pub are_same_roles : List (List ℕ) → List (List ℕ) → Bool
are_same_roles [] [] = true
are_same_roles [] (o ∷ os) = false
are_same_roles (r ∷ rs) [] = false
are_same_roles (r ∷ rs) (o ∷ os) = bytes_eq r o && are_same_roles rs os

-- the group of this caller alone, who has this name and these roles
abbrev pub only : Identity → CallerGroup
only who caller = is_same_name who.name caller.name && are_same_roles who.roles caller.roles

-- the caller is no member of any of these databases, where they are there
abbrev pub AreHiddenFrom : Identity → Names → Contents → Type 0
AreHiddenFrom who names databases = (name : List ℕ) (db : Database) → names name ≡ true → get databases name ≡ Some db → is_member db.security who ≡ false

-- the same before the first step and after each
abbrev pub AreHiddenFromThroughout : Identity → Names → Contents → List (Stepped Contents) → Type 0
AreHiddenFromThroughout who names before [] = AreHiddenFrom who names before
AreHiddenFromThroughout who names before (s ∷ ss) = AreHiddenFrom who names before × AreHiddenFromThroughout who names s.after ss
