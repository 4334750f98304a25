-- What stands behind the documents stays.
use Rattle.std.proofs.Common.{◌≡◌, ◌∙◌, ap, rules}
use Rattle.couch_json.specs.Value.{Members, object}
use Rattle.couch_json.specs.View.{members_view}
use Rattle.couch_json.proofs.Objects.{view-Object}
use Rattle.tree.specs.ShownDocument.{body_members}
use Rattle.policy.proofs.Circumstanced.{keeps}
use Rattle.policy.proofs.circumstances.Circumstances.refusal.Goals as goal

pub invariant_of-self-2 : goal.invariant_of-self-2
invariant_of-self-2 c =
    let back : c.replace-members.result.entries ≡ c.put_documents.new.members.entries = search rules in
    let same = c.into_members.ensures ∙ ap body_members (view-Object c.replace-members.result) ∙ ap members_view back in
    (keeps _ _ same (c.put_documents.ensures.kept c.self.invariant).0).0

pub returns-clause-kept : goal.returns-clause-kept
returns-clause-kept c =
    let back : c.replace-members.result.entries ≡ c.put_documents.new.members.entries = search rules in
    let same = c.into_members.ensures ∙ ap body_members (view-Object c.replace-members.result) ∙ ap members_view back in
    let put = c.put_documents.ensures.kept c.self.invariant in
    ap (λ (ms : Members). object ms) ((keeps _ _ same put.0).1 ∙ put.1) ∙ c.self.view_is
