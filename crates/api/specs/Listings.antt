-- What the queries of a listing by id and of the changes ask for, and which revisions a request asks about.
-- CouchDB manual, api/database/bulk-api (`startkey`, `endkey`, `inclusive_end`, `descending`, `skip`, `limit`), api/database/changes (`since`, `limit`, `style`) and api/database/misc (`_revs_diff`); that keys are JSON strings, and the greatest number, are this server's own.
use Rattle.std.specs.Prelude.{ℕ, Bool, true, false, ◌&&◌, if◌then◌else◌, List, [], ◌∷◌, length, nat_le, Option, Some, None, option_map, option_and_then, bytes_eq, codes, unwrap_or}
use Rattle.std.specs.Char.{is_ascii_digit}
use Rattle.std.specs.List.{list_all}
use Rattle.std.specs.Str.Parse.{digits_value}
use Rattle.couch_json.specs.Range.{greatest_count}
use Rattle.couch_json.specs.Parts.{members_in, text_in}
use Rattle.couch_json.specs.Reading.{reading, value_read}
use Rattle.couch_json.specs.Value.{Value, Members, no_members, member}
use Rattle.tree.specs.Revision.{Revision}
use Rattle.store.specs.declared.listing.IdRange.{IdRange}
use Rattle.store.specs.declared.listing.SeqRange.{SeqRange}
use Rattle.read.specs.Differences.{RevisionsOf}
use Rattle.api.specs.Queries.{parameters_are_named, flag_in, given_at, parameters_in, read_then, revisions_listed}

-- ---- values of parameters

-- 1 to 19 decimal digits
abbrev pub is_count_text : List ℕ → Bool
is_count_text text = nat_le 1 (length text) && nat_le (length text) 19 && list_all is_ascii_digit text

-- the number that they write, where it is not too great
abbrev pub count_in_text : List ℕ → Option ℕ
count_in_text text = if is_count_text text && nat_le (digits_value 10 text) greatest_count then Some (digits_value 10 text) else None

-- a key is a JSON string
abbrev pub key_in : List ℕ → Option (List ℕ)
key_in value = option_and_then (λ v. text_in v) (value_read (reading value))

-- all leaves of a document, or its winner alone
abbrev pub style_in : List ℕ → Option Bool
style_in value = if bytes_eq value (codes "all_docs") then Some true else (if bytes_eq value (codes "main_only") then Some false else None)

-- ---- a listing by id

-- the names of its parameters; those of a view are a list of its own
abbrev pub listing_names : List (List ℕ)
listing_names = codes "startkey" ∷ codes "endkey" ∷ codes "inclusive_end" ∷ codes "descending" ∷ codes "skip" ∷ codes "limit" ∷ []

-- the range from these keys, by the other parameters
abbrev pub range_from : List (List ℕ × List ℕ) → Option (List ℕ) → Option (List ℕ) → Option IdRange
range_from ps start end =
    read_then (given_at flag_in (codes "inclusive_end") ps) (λ inclusive_end.
    read_then (given_at flag_in (codes "descending") ps) (λ descending.
    read_then (given_at count_in_text (codes "skip") ps) (λ skip.
    read_then (given_at count_in_text (codes "limit") ps) (λ limit.
    Some (record {
      start = start;
      end = end;
      inclusive_end = unwrap_or inclusive_end true;
      descending = unwrap_or descending false;
      skip = unwrap_or skip 0;
      limit = limit;
      counted = false;
    })))))

-- the part of a list by id that parameters request, where each is known and of its form: `startkey="a"&limit=2` requests 2 rows from "a" on
abbrev pub range_asked : List (List ℕ × List ℕ) → Option IdRange
range_asked ps =
    if parameters_are_named listing_names ps
    then read_then (given_at key_in (codes "startkey") ps) (λ start.
    read_then (given_at key_in (codes "endkey") ps) (λ end.
    range_from ps start end))
    else None

-- the rows that a listing's reader asks for, or nothing where the query is a bad one
abbrev pub listing_query : Option (List ℕ) → Option IdRange
listing_query query = range_asked (parameters_in query)

-- ---- changes

-- the parameters that `_changes` has
abbrev pub change_names : List (List ℕ)
change_names = codes "since" ∷ codes "limit" ∷ codes "style" ∷ []

-- the part of the changes that parameters request, where each is known and of its form
abbrev pub changes_asked : List (List ℕ × List ℕ) → Option SeqRange
changes_asked ps =
    if parameters_are_named change_names ps
    then read_then (given_at count_in_text (codes "since") ps) (λ since.
    read_then (given_at count_in_text (codes "limit") ps) (λ limit.
    read_then (given_at style_in (codes "style") ps) (λ style.
    Some (record { since = unwrap_or since 0; limit = limit; all_leaves = unwrap_or style false; counted = false }))))
    else None

-- the changes that a reader asks for, or nothing where the query is a bad one
abbrev pub changes_query : Option (List ℕ) → Option SeqRange
changes_query query = changes_asked (parameters_in query)

-- ---- differences of revisions

-- a text and a list of revisions, before others
abbrev pub with_revisions_of : List ℕ → Option (List Revision) → Option (List RevisionsOf) → Option (List RevisionsOf)
with_revisions_of id revs rest = option_and_then (λ rs. option_map (λ others. record { id = id; revs = rs } ∷ others) rest) revs

-- the revisions that `_revs_diff` requests, document by document
abbrev pub revisions_of_members : Members → Option (List RevisionsOf)
revisions_of_members no_members = Some []
revisions_of_members (member name v ms) = with_revisions_of name (revisions_listed v) (revisions_of_members ms)

-- the revisions that a body asks about: an object from texts to lists of revisions
abbrev pub requested_differences : Value → Option (List RevisionsOf)
requested_differences v = option_and_then (λ ms. revisions_of_members ms) (members_in v)
