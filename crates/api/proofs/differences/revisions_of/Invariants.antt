use Rattle.std.proofs.Common.{◌≡◌, ◌++◌, drop, option_map}
use Rattle.couch_json.specs.View.{members_view}
use Rattle.read.specs.DifferencesAsked.{all_asked}
use Rattle.api.specs.Listings.{revisions_of_members}
use Rattle.api.proofs.differences.revisions_of.Given as goal

abbrev pub invariant-loop-id : goal.invariant-loop-id
invariant-loop-id l =
    option_map (λ rs. all_asked l.asked.items ++ rs) (revisions_of_members (members_view (drop l.id-index l.id-items))) ≡ revisions_of_members (members_view l.members.entries)
