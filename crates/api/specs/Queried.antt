-- What a query asks for, in the words of `Queries`: for private clauses.
-- This crate's own: it ties structs and enums of the code to the definitions.
use Rattle.std.specs.Prelude.{ℕ, List, map, Option, Some, None, string_bytes, String}
use Rattle.std.specs.declared.alloc.Global.{Global}
use Rattle.api.specs.Queries.{RequestedRevisions, winner, revision, leaves, revisions, DocumentQuery}
use Rattle.api.specs.declared.given.Given.{Given}
use Rattle.api.specs.declared.given.Given.TheVariants.{Absent, Malformed, Value}
use Rattle.api.specs.declared.query.Asked.{Asked as AskedFor}
use Rattle.api.specs.declared.query.Asked.TheVariants.{Winner, Revision, Leaves, Revisions}
use Rattle.api.specs.declared.query.DocumentQuery.{DocumentQuery as Question}

-- names and values as texts
abbrev pub texts_of : List (String Global × String Global) → List (List ℕ × List ℕ)
texts_of parameters = map (λ p. (string_bytes p.0, string_bytes p.1)) parameters

-- what a parameter gives, in the words of `given_at`
abbrev pub given_of : {A : Type 0} → Given A → Option (Option A)
given_of Absent = Some None
given_of Malformed = None
given_of (Value a) = Some (Some a)

-- the value that it gives, if it gives one
abbrev pub value_in : {A : Type 0} → Given A → Option A
value_in Absent = None
value_in Malformed = None
value_in (Value a) = Some a

-- which revisions are asked for
abbrev pub choice_of : AskedFor → RequestedRevisions
choice_of Winner = winner
choice_of (Revision r) = revision r
choice_of Leaves = leaves
choice_of (Revisions rs) = revisions rs.items

-- what is asked of a document
abbrev pub query_of : Question → DocumentQuery
query_of q = record { asked = choice_of q.asked; revs = q.revs }
