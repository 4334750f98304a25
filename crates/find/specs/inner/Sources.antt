-- The documents that a find goes over, in the order in which it takes them.
-- This crate's own: it ties the sources of the code to the pages of the store.
use Rattle.std.specs.Prelude.{◌≡◌, ℕ, ◌+◌, ◌-◌, ◌^◌, Bool, true, false, not, List, [], drop, filter, length, map, slice_get, Option, Some, None, option_map, string_bytes}
use Rattle.std.specs.List.{All}
use Rattle.std.specs.FinMap.{entries}
use Rattle.tree.specs.Revision.{Revision}
use Rattle.store.specs.Database.{Database, history_at}
use Rattle.store.specs.Indexes.{IndexPlace, index_fields_at, index_rows}
use Rattle.store.specs.KeyPages.{key_rows_within}
use Rattle.store.specs.Pages.{comes_before, in_direction, live_rev, live_rows}
use Rattle.store.specs.declared.listing.IdRange.{IdRange}
use Rattle.store.specs.declared.listing.IdRow.{IdRow}
use Rattle.find.specs.declared.candidate.Candidate.{Candidate}
use Rattle.find.specs.declared.chunks.Chunks.{Chunks}
use Rattle.find.specs.declared.reached.Reached.{Reached}
use Rattle.find.specs.declared.source.Source.{Source}
use Rattle.find.specs.declared.source.Source.TheVariants.{Documents, Index}

-- where there is no index there are no rows
abbrev pub ids_of_places : Option (List IndexPlace) → List (List ℕ)
ids_of_places None = []
ids_of_places (Some places) = map (λ p. p.id) places

-- all documents whose winner is not deleted, by id, in this direction
abbrev pub documents_by_id : Bool → Database → List IdRow
documents_by_id descending d = in_direction descending (live_rows (entries d.documents))

-- the ids of these; or those of the rows of an index whose keys lie in the range, in its direction
abbrev pub ids_in : Source → Database → List (List ℕ)
ids_in (Documents descending) d = map (λ r. r.id) (documents_by_id descending d)
ids_in (Index plan) d =
    ids_of_places (option_map (λ fields. key_rows_within plan.rows.range (index_rows fields d)) (index_fields_at d plan.index.design (string_bytes plan.index.name)))

-- ---- candidates

-- a revision that is given is the winner of the document, which is not deleted
abbrev pub IsCandidate : Database → Candidate → Type 0
IsCandidate d candidate = (rev : Revision) → candidate.rev ≡ Some rev → live_rev (history_at d candidate.id) ≡ Some rev

-- the same of each
abbrev pub AreCandidates : Database → List Candidate → Type 0
AreCandidates d candidates = All (λ c. IsCandidate d c) candidates

abbrev pub ids_of : List Candidate → List (List ℕ)
ids_of candidates = map (λ c. c.id) candidates

-- the document of a row, with its winner
abbrev pub candidate_of : IdRow → Candidate
candidate_of row = record { id = row.id; rev = Some row.rev }

-- a document of which its id alone is known
abbrev pub candidate_at : List ℕ → Candidate
candidate_at id = record { id = id; rev = None }

-- ---- what lies ahead

-- the documents from this id on, in their direction
abbrev pub documents_from : Bool → List ℕ → Database → List IdRow
documents_from descending last d = filter (λ r. not (comes_before descending r.id last)) (documents_by_id descending d)

-- the ids behind this document; or those of an index without the first ones
abbrev pub ids_behind : Source → List ℕ → ℕ → Database → List (List ℕ)
ids_behind (Documents descending) last count d = drop 1 (map (λ r. r.id) (documents_from descending last d))
ids_behind (Index plan) last count d = drop count (ids_in (Index plan) d)

-- the ids behind the last one that was taken, if that is known, else those without the first ones
abbrev pub ids_beyond : Source → Option (List ℕ) → ℕ → Database → List (List ℕ)
ids_beyond source None count d = drop count (ids_in source d)
ids_beyond source (Some last) count d = ids_behind source last count d

-- the ids that were not taken yet
abbrev pub ids_ahead : Source → Reached → Database → List (List ℕ)
ids_ahead source reached d = ids_beyond source reached.last reached.count d

-- how many documents were taken, from the last one on if that is known, else from the first
abbrev pub passed_count : Option (List ℕ) → ℕ → ℕ
passed_count None count = count
passed_count (Some last) count = 1

-- the range of the documents that were not taken yet
abbrev pub range_ahead : Bool → Reached → Option ℕ → IdRange
range_ahead descending reached limit =
    record {
      start = reached.last;
      end = None;
      inclusive_end = false;
      descending = descending;
      skip = passed_count reached.last reached.count;
      limit = limit;
      counted = false;
    }

-- the id of the last one of these
abbrev pub last_id : List Candidate → Option (List ℕ)
last_id candidates = option_map (λ c. c.id) (slice_get candidates (length candidates - 1))

-- the one that the next ones are looked for behind: of the rows of an index none is
abbrev pub last_of : Source → List Candidate → Option (List ℕ)
last_of (Documents descending) candidates = last_id candidates
last_of (Index plan) candidates = None

-- ---- chunk by chunk

abbrev pub ids_unless : Bool → List (List ℕ) → List (List ℕ)
ids_unless true ids = []
ids_unless false ids = ids

-- the ids that are still to be taken
abbrev pub ids_left : Source → Chunks → Database → List (List ℕ)
ids_left source chunks d = ids_unless chunks.is_done (ids_ahead source chunks.reached d)

abbrev pub chunks_unless : Bool → ℕ → ℕ
chunks_unless true count = 0
chunks_unless false count = 1 + (2 ^ 60 - count)

-- no more chunks than these come
abbrev pub chunks_left : Chunks → ℕ
chunks_left chunks = chunks_unless chunks.is_done chunks.reached.count
