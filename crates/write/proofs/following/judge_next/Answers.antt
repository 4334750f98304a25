use Rattle.std.proofs.Common.{Some, ap, sym, ◌∙◌, ◌≡◌}
use Rattle.std.specs.FinMap as finite
use Rattle.couch_json.specs.Parts.{is_there_and}
use Rattle.tree.specs.History.{is_known}
use Rattle.store.specs.Contents.{Contents}
use Rattle.store.specs.Database.{Database, history_at}
use Rattle.store.specs.Writing.{addition_of}
use Rattle.write.specs.Admission.{rule_refusal}
use Rattle.write.specs.declared.document.ParsedDocument.{ParsedDocument}
use Rattle.write.proofs.FollowedRules.{edit_made, there_is}
use Rattle.write.proofs.Plannings.{if_there}
use Rattle.write.proofs.following.judge_next.Goals as goal

pub returns-clause-ok : goal.returns-clause-ok
returns-clause-ok g c honest =
    let S = g.S.Store in
    let id = c.args.id.now in
    let terms = c.args.terms.now in
    let sent = c.args.sent in
    let parent = c.args.parent in
    let next = c.in_ok-next.next in
    let before = c.in_ok-history.ensures.reads.goes_on.honest honest in
    let same = c.in_ok-is_known.ensures.reads.same before in
    there_is (finite.get (S.contents c.args.store.now) c.args.db.now) (λ d is.
    let h = history_at d id in
    let told = if_there (λ (e : Database). c.in_ok-is_known.field-0 ≡ is_there_and (is_known (history_at e id)) next) (finite.get (S.contents c.args.store.now) c.args.db.now) d is (c.in_ok-is_known.ensures.known before) in
    let again : finite.get (S.contents c.is_known.new.store) c.args.db.now ≡ Some d = ap (λ (x : Contents). finite.get x c.args.db.now) same ∙ is in
    let ruled = if_there (λ (e : Database). (s : ParsedDocument) → rule_refusal terms id (history_at e id) s parent ≡ rule_refusal terms id c.in_ok-history.history s parent) (finite.get (S.contents c.is_known.new.store) c.args.db.now) d again (c.in_ok-history.ensures.ruled honest) sent in
    edit_made terms id h sent parent next c.in_ok-rev.rev (addition_of c.in_ok-make_write.field-0) c.in_ok-next.ensures (sym told ∙ c.if-branch.false) (ruled ∙ c.in_ok-rev.ensures.unruled) c.in_ok-rev.ensures.ok c.in_ok-make_write.ensures)
