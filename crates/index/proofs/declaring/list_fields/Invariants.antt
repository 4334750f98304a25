use Rattle.index.proofs.Common.{drop, ◌≡◌}
use Rattle.couch_json.specs.View.{items_view}
use Rattle.index.proofs.Declared.{before_paths}
use Rattle.index.specs.Rows.{path_items}
use Rattle.index.proofs.declaring.list_fields.Given as goal

-- the fields so far and those that are left are all
abbrev pub invariant-loop-field : goal.invariant-loop-field
invariant-loop-field l = before_paths (items_view l.items.items) (path_items (drop l.field-index l.fields)) ≡ path_items l.fields
