use Rattle.std.proofs.Common.{◌≡◌, ◌++◌, length, option_map}
use Rattle.std.specs.Vec.Iter.{into_iter_items}
use Rattle.couch_json.specs.View.{items_view}
use Rattle.write.specs.Document.{path_of_hashes}
use Rattle.write.proofs.ancestry.read_path.Given as goal

-- the hashes that are left give the rest of the path, and the first of them has their number
abbrev pub invariant-loop-id : goal.invariant-loop-id
invariant-loop-id l = record {
  path : option_map (λ rest. l.path.items ++ rest) (path_of_hashes (items_view (into_iter_items l.id-iterator))) ≡ path_of_hashes (items_view l.fn.ids.items);
  counted : l.number ≡ length (into_iter_items l.id-iterator);
}
