use Rattle.std.proofs.Common.{Err, None, Ok, Some, ap, option_map, subst, sym, ◌∙◌, ◌≡◌}
use Rattle.std.specs.FinMap as finite
use Rattle.store.specs.Database.{Database, history_at}
use Rattle.store.specs.Writing.{addition_of, written_in}
use Rattle.tree.proofs.Shown.{inside}
use Rattle.tree.specs.History.{winner}
use Rattle.tree.specs.Outline.{marked_winner}
use Rattle.write.proofs.FollowedRules.{err_then, new_there, ok_then}
use Rattle.write.proofs.Plannings.{own_refusal}
use Rattle.write.specs.Admission.{parent_for_edit}
use Rattle.write.specs.inner.Following.{IsFollowed}
use Rattle.write.proofs.following.judge_sent.Goals as goal

pub returns-in-New-clause-ok : goal.returns-in-New-clause-ok
returns-in-New-clause-ok g c honest =
    let contents = g.S.Store.contents c.args.store.now in
    let name = c.args.db.now in
    let id = c.args.id.now in
    let sent = c.args.sent in
    let told : (d : Database) → finite.get contents name ≡ Some d → (parent_for_edit (history_at d id) sent.rev ≡ Some None) × (winner (history_at d id) ≡ None) = λ d is.
    let marked : c.in_ok-winner.winner ≡ marked_winner (history_at d id) = sym (inside (marked_winner (history_at d id)) c.in_ok-winner.winner (ap (option_map (λ (x : Database). marked_winner (history_at x id))) (sym is) ∙ c.in_ok-winner.ensures.answer honest)) in
    subst (IsFollowed (history_at d id) (parent_for_edit (history_at d id) sent.rev)) c.in-New.is (c.find_followed.ensures (history_at d id) marked) in
    ok_then c.judge_new.result (λ write it. new_there contents name c.args.terms.now id sent (λ h. Ok (written_in h (addition_of write))) (g.met.S.Store.lawful c.args.store.now (c.in_ok-winner.ensures.reads.goes_on.honest honest)) told it) c.judge_new.ensures.ok

pub returns-in-New-clause-refused : goal.returns-in-New-clause-refused
returns-in-New-clause-refused g c honest =
    let contents = g.S.Store.contents c.args.store.now in
    let name = c.args.db.now in
    let id = c.args.id.now in
    let sent = c.args.sent in
    let told : (d : Database) → finite.get contents name ≡ Some d → (parent_for_edit (history_at d id) sent.rev ≡ Some None) × (winner (history_at d id) ≡ None) = λ d is.
    let marked : c.in_ok-winner.winner ≡ marked_winner (history_at d id) = sym (inside (marked_winner (history_at d id)) c.in_ok-winner.winner (ap (option_map (λ (x : Database). marked_winner (history_at x id))) (sym is) ∙ c.in_ok-winner.ensures.answer honest)) in
    subst (IsFollowed (history_at d id) (parent_for_edit (history_at d id) sent.rev)) c.in-New.is (c.find_followed.ensures (history_at d id) marked) in
    err_then c.judge_new.result (λ fault it own. own_refusal fault _ (λ other. new_there contents name c.args.terms.now id sent (λ h. Err fault) (g.met.S.Store.lawful c.args.store.now (c.in_ok-winner.ensures.reads.goes_on.honest honest)) told (it other)) own) c.judge_new.ensures.fault
