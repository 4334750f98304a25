-- One more list of revisions is read.
use Rattle.std.proofs.Common.{◌≡◌, ◌∷◌, ◌+◌, [], Some, drop, ap, ◌∙◌, rules}
use Rattle.std.proofs.lemmas.List.{map-append}
use Rattle.std.specs.Prelude.{string_bytes}
use Rattle.couch_json.specs.Value.{member}
use Rattle.couch_json.specs.View.{members_view, view}
use Rattle.couch_json.proofs.Depths.{left_from}
use Rattle.read.specs.declared.differences.AskedRevisions.{AskedRevisions}
use Rattle.read.specs.DifferencesAsked.{all_asked, revisions_asked}
use Rattle.api.specs.Queries.{revisions_listed}
use Rattle.api.proofs.Listed.{list_taken}
use Rattle.api.proofs.differences.revisions_of.Goals as goal

pub loop-id-preserved : goal.loop-id-preserved
loop-id-preserved c =
    let l = c.loop-id in
    let items = c.as_slice-id-items.result.now in
    let e = c.loop-id-item.result in
    let left = drop (l.id-index + 1) items in
    let first : members_view (drop l.id-index items) ≡ member (string_bytes e.0) (view e.1) (members_view left) = ap members_view (left_from items l.id-index e c.loop-id-test.true c.loop-id-item.is) in
    let listed : revisions_listed (view e.1) ≡ Some c.in-Some.revs.items = search rules in
    let named : string_bytes c.in_ok-id.id ≡ string_bytes e.0 = search rules in
    let added : AskedRevisions = record { id = c.in_ok-id.id; revs = c.in-Some.revs } in
    let more = ap all_asked c.in_ok-push.ensures.items ∙ map-append revisions_asked l.asked.items (added ∷ []) in
    list_taken (all_asked l.asked.items) (all_asked c.push.new.self.items) (members_view (drop l.id-index items)) (members_view left) (string_bytes e.0) (view e.1)
    c.in-Some.revs.items _ first listed (rw named at more) l.invariant
