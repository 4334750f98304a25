-- The parameters of a query, and what those of a document's page ask for.
-- URL Standard, section 5.1 (names and values), by form_urlencoded's own definition; CouchDB manual, api/document/common (`rev`, `revs`, `open_revs`).
use Rattle.std.specs.Prelude.{ℕ, Bool, true, false, List, [], ◌∷◌, map, Option, Some, None, option_map, option_and_then, if◌then◌else◌, bytes_eq, codes, unwrap_or}
use Rattle.std.specs.List.{list_all, list_any}
use Rattle.std.specs.Str.Lossy.{utf8_lossy}
use Rattle.couch_json.specs.Reading.{reading, value_read}
use Rattle.couch_json.specs.Parts.{items_in, text_in}
use Rattle.couch_json.specs.Value.{Value, Items, no_items, item}
use Rattle.form_urlencoded.specs.Form.{decode, raw_pairs}
use Rattle.tree.specs.Revision.{Revision, revision_read}

-- ---- names and values

-- the text that a name or a value stands for; U+FFFD stands where its bytes are not UTF-8
abbrev pub form_text : List ℕ → List ℕ
form_text bytes = utf8_lossy (decode bytes)

-- a parameter is a name and a value
abbrev pub parameter_of : List ℕ × List ℕ → List ℕ × List ℕ
parameter_of pair = (form_text pair.0, form_text pair.1)

-- the parameters of a query, in order
abbrev pub parameters_in : Option (List ℕ) → List (List ℕ × List ℕ)
parameters_in None = []
parameters_in (Some query) = map parameter_of (raw_pairs query)

-- no parameter has another name than these
abbrev pub parameters_are_named : List (List ℕ) → List (List ℕ × List ℕ) → Bool
parameters_are_named names parameters = list_all (λ p. list_any (λ name. bytes_eq name p.0) names) parameters

-- the values of the parameters of this name, in order
abbrev pub parameter_values : List ℕ → List (List ℕ × List ℕ) → List (List ℕ)
parameter_values name [] = []
parameter_values name (p ∷ ps) = if bytes_eq p.0 name then p.1 ∷ parameter_values name ps else parameter_values name ps

-- the value of a parameter, if any; none where it is given twice
abbrev pub at_most_one : List (List ℕ) → Option (Option (List ℕ))
at_most_one [] = Some None
at_most_one (value ∷ []) = Some (Some value)
at_most_one (value ∷ other ∷ others) = None

-- the value of the parameter of this name, or that there is none; no answer where the name stands twice
abbrev pub sole_value : List ℕ → List (List ℕ × List ℕ) → Option (Option (List ℕ))
sole_value name parameters = at_most_one (parameter_values name parameters)

-- what a value that may be absent says, where each value has to be of this form
abbrev pub if_given : {A : Type 0} → (List ℕ → Option A) → Option (List ℕ) → Option (Option A)
if_given read None = Some None
if_given read (Some value) = option_map (λ a. Some a) (read value)

-- the same of the parameter of this name
abbrev pub given_at : {A : Type 0} → (List ℕ → Option A) → List ℕ → List (List ℕ × List ℕ) → Option (Option A)
given_at read name parameters = option_and_then (λ value. if_given read value) (sole_value name parameters)

-- What comes next of what was read, or nothing where it could not be read. So a query reads parameter by parameter, from top to bottom:
-- `read_then (given_at flag_in (codes "descending") ps) (λ descending. read_then (given_at count_in_text (codes "skip") ps) (λ skip. ..))`.
abbrev pub read_then : {A B : Type 0} → Option A → (A → Option B) → Option B
read_then read next = option_and_then next read

-- `true` or `false`
abbrev pub flag_in : List ℕ → Option Bool
flag_in value = if bytes_eq value (codes "true") then Some true else (if bytes_eq value (codes "false") then Some false else None)

-- ---- revisions

-- which revisions of a document are asked for
pub data RequestedRevisions : Type 0 where
  winner : RequestedRevisions
  revision : Revision → RequestedRevisions
  -- all leaves
  leaves : RequestedRevisions
  revisions : List Revision → RequestedRevisions

-- what is asked of a document: which revisions, and whether with the revisions before each
pub record DocumentQuery : Type 0 where
  pub asked : RequestedRevisions
  pub revs : Bool

-- the revision that a value spells
abbrev pub revision_in : Value → Option Revision
revision_in v = option_and_then (λ t. revision_read t) (text_in v)

-- the revisions that elements spell, where each spells one; a revision may stand there more than once
abbrev pub revisions_in : Items → Option (List Revision)
revisions_in no_items = Some []
revisions_in (item v vs) = option_and_then (λ r. option_map (λ rs. r ∷ rs) (revisions_in vs)) (revision_in v)

-- the revisions of a list
abbrev pub revisions_listed : Value → Option (List Revision)
revisions_listed v = option_and_then (λ vs. revisions_in vs) (items_in v)

-- `all`, or a JSON list of revisions
abbrev pub requested_open_revisions : List ℕ → Option RequestedRevisions
requested_open_revisions value =
    if bytes_eq value (codes "all") then Some leaves else option_map revisions (option_and_then (λ v. revisions_listed v) (value_read (reading value)))

-- what `rev` and `open_revs` ask for together
abbrev pub requested_revisions : Option (List ℕ) → Option (List ℕ) → Option RequestedRevisions
requested_revisions None None = Some winner
requested_revisions (Some rev) None = option_map revision (revision_read rev)
requested_revisions None (Some open_revs) = requested_open_revisions open_revs
requested_revisions (Some rev) (Some open_revs) = None

-- the same with `revs`, which is not set where it isn't there
abbrev pub document_query_by : Option (List ℕ) → Option (List ℕ) → Option Bool → Option DocumentQuery
document_query_by rev open_revs revs = option_map (λ asked. record { asked = asked; revs = unwrap_or revs false }) (requested_revisions rev open_revs)

-- ---- the queries of a document's page

-- what a document's reader asks for, by parameters
abbrev pub asked_of_document : List (List ℕ × List ℕ) → Option DocumentQuery
asked_of_document parameters =
    if parameters_are_named (codes "rev" ∷ codes "revs" ∷ codes "open_revs" ∷ []) parameters
    then read_then (sole_value (codes "rev") parameters) (λ rev.
    read_then (sole_value (codes "open_revs") parameters) (λ open_revs.
    read_then (given_at flag_in (codes "revs") parameters) (λ revs.
    document_query_by rev open_revs revs)))
    else None

-- what a document's reader asks for, or nothing where the query is a bad one
abbrev pub document_query : Option (List ℕ) → Option DocumentQuery
document_query query = asked_of_document (parameters_in query)

-- the revision that parameters name, if any, where no other parameter is there
abbrev pub revision_asked : List (List ℕ × List ℕ) → Option (Option Revision)
revision_asked parameters =
    if parameters_are_named (codes "rev" ∷ []) parameters then given_at revision_read (codes "rev") parameters else None

-- the revision that a document's writer names, if any, or nothing where the query is a bad one
abbrev pub revision_query : Option (List ℕ) → Option (Option Revision)
revision_query query = revision_asked (parameters_in query)
