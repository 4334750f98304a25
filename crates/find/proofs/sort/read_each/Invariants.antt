use Rattle.std.proofs.Common.{◌≡◌, ◌++◌, drop}
use Rattle.std.specs.Prelude.{option_map}
use Rattle.couch_json.specs.View.{items_view}
use Rattle.find.specs.Queries.{sort_fields_of}
use Rattle.find.proofs.sort.read_each.Given as goal

-- the fields so far and those of the entries to come are those of all
abbrev pub invariant-loop-entry : goal.invariant-loop-entry
invariant-loop-entry l =
    option_map (λ fields. l.fields.items ++ fields) (sort_fields_of l.descending (items_view (drop l.entry-index l.entries)))
    ≡ sort_fields_of l.descending (items_view l.entries)
