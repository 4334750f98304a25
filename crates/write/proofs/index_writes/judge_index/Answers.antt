use Rattle.std.proofs.Common.{◌≡◌, ◌∙◌, Err, IfErr, Option, Result, Some, ap, option_map, rules, subst, sym}
use Rattle.std.specs.FinMap as finite
use Rattle.couch_json.specs.View.{view}
use Rattle.tree.specs.History.{winner}
use Rattle.store.specs.Contents.{Contents, IfThere}
use Rattle.store.specs.Database.{Database, history_at}
use Rattle.store.specs.Indexes.{winning_body}
use Rattle.store.specs.declared.write.Write.{Write}
use Rattle.write.specs.Admission.{edit_outcome}
use Rattle.write.specs.IndexWrites.{index_outcome}
use Rattle.write.specs.Refusing.{IsOwn}
use Rattle.write.specs.declared.fault.WriteFault.{WriteFault}
use Rattle.write.proofs.FollowedRules.{there_is}
use Rattle.write.proofs.IndexJudgings.{index_edited}
use Rattle.write.proofs.Plannings.{if_there}
use Rattle.write.proofs.index_writes.judge_index.Goals as goal

pub returns-in_err-write-clause-refused : goal.returns-in_err-write-clause-refused
returns-in_err-write-clause-refused g c honest =
    let id = c.args.id.now in
    let name = c.args.name.now in
    let fields = c.args.fields.now in
    let terms = c.args.terms.now in
    let winner_read = c.in_ok-rev.field-0 in
    let document = view c.in_ok-document.document in
    let fault = c.in_err-write.field-0.0 in
    let before = c.in_err-write.ensures.reads.goes_on.honest honest in
    let same = c.in_ok-rev.ensures.reads.same before in
    let now = finite.get (g.S.Store.contents c.args.store.now) c.args.db.now in
    let still = finite.get (g.S.Store.contents c.read_winner.new.store) c.args.db.now in
    let is : c.from_residual-in_err-write.result ≡ Err fault = search rules in
    subst (λ (r : Result (Option Write) WriteFault). IfErr r (λ e. IsOwn e → IfThere now (λ d. index_outcome terms id (history_at d id) name fields ≡ Err e))) (sym is)
    (λ own. there_is now (λ d there.
    let h = history_at d id in
    let again : still ≡ Some d = ap (λ (x : Contents). finite.get x c.args.db.now) same ∙ there in
    let named : winner_read.rev ≡ winner h = if_there (λ (e : Database). winner_read.rev ≡ winner (history_at e id)) now d there (c.in_ok-rev.ensures.rev before) in
    let read : option_map view winner_read.body ≡ winning_body h = if_there (λ (e : Database). option_map view winner_read.body ≡ winning_body (history_at e id)) now d there (c.in_ok-rev.ensures.body before) in
    let edited : edit_outcome terms id h winner_read.rev document ≡ Err fault =
    if_there (λ (e : Database). edit_outcome terms id (history_at e id) winner_read.rev document ≡ Err fault) still d again (c.in_err-write.ensures.refused honest own) in
    index_edited terms id h name fields (option_map view winner_read.body) (view c.in_ok-index.index) document winner_read.rev (Err fault) (sym c.in_default.ensures) c.in_ok-index.ensures read
    (sym c.in_ok-declares.ensures ∙ c.if-branch.false) c.in_ok-document.ensures named edited))
