use Rattle.std.proofs.Common.{◌≡◌, ◌∷◌, sym, ap, ◌∙◌, rules}
use Rattle.couch_json.specs.inner.Parsing.{put_whole}
use Rattle.couch_json.specs.View.{members_view}
use Rattle.couch_json.proofs.Objects.{members_view-insert_entry}
use Rattle.couch_json.proofs.parsing.keep_whole.Goals as goal

pub loop-name-preserved : goal.loop-name-preserved
loop-name-preserved c =
    let l = c.loop-name in
    let name = c.in-Some.name in
    let v = c.in-Some-member.member in
    let left = c.next.new.self in
    let inserted = ap members_view c.in_ok-insert.ensures.entries ∙ members_view-insert_entry l.members.entries name v in
    let steps : l.name-iterator ≡ (name, c.in-Some.member) ∷ left = search rules in
    let valued = steps ∙ ap (λ m. (name, m) ∷ left) c.in-Some-member.is in
    ap (put_whole left) inserted ∙ sym (ap (λ es. put_whole es (members_view l.members.entries)) valued) ∙ l.invariant
