use Rattle.std.specs.FinMap as finite
use Rattle.std.specs.Prelude.{option_and_then}
use Rattle.couch_json.specs.Code.{value_code}
use Rattle.couch_json.specs.Value.{Value}
use Rattle.couch_json.specs.View.{view}
use Rattle.sqlstore.proofs.Common.{Coded-set, coded_option}
use Rattle.sqlstore.proofs.Lemmas.{Some, Trees, ap, history_in_rows, inside, laid, revs_tree, stands_same, sym, trees_of, was_honest, ∥∥₁_elim, ◌∙◌}
use Rattle.sqlstore.proofs.SeenKeys.{seen_gone, seen_none, seen_shown}
use Rattle.tree.specs.declared.entry.Entry.{Entry}
use Rattle.sqlstore.proofs.sql_store.SqlStore.find_seen.Goals as goal

pub returns-in_default-clause-seen : goal.returns-in_default-clause-seen
returns-in_default-clause-seen g c honest =
    let s = c.args.self.now in
    let won = inside _ _ (c.in_ok-winner.ensures.answer honest) ∙ c.in_default.is in
    ∥∥₁_elim (laid g.S.Store s (was_honest g.S.Store s c.find_winner.new.self c.find_winner.ensures.stands honest)) (Coded-set (coded_option (coded_option value_code)) _ _)
    (λ l. seen_none (trees_of g.S.Store s) c.args.number.now c.args.id.now l won)

pub returns-then-is_unseen-clause-seen : goal.returns-then-is_unseen-clause-seen
returns-then-is_unseen-clause-seen g c honest =
    let s = c.args.self.now in
    let won = inside _ _ (c.in_ok-winner.ensures.answer honest) ∙ c.in-Some.is in
    ∥∥₁_elim (laid g.S.Store s (was_honest g.S.Store s c.find_winner.new.self c.find_winner.ensures.stands honest)) (Coded-set (coded_option (coded_option value_code)) _ _)
    (λ l. seen_gone (trees_of g.S.Store s) c.args.number.now c.args.id.now l c.in-Some.winner won (sym c.is_unseen.ensures ∙ c.if-is_unseen.true))

pub returns-clause-seen : goal.returns-clause-seen
returns-clause-seen g c honest =
    let s = c.args.self.now in
    let mid = c.find_winner.new.self in
    let n = c.args.number.now in
    let id = c.args.id.now in
    let w = c.in-Some.winner in
    let first = was_honest g.S.Store mid c.find_revision.new.self c.find_revision.ensures.stands honest in
    let won = inside _ _ (c.in_ok-winner.ensures.answer first) ∙ c.in-Some.is in
    let same = ap (λ (t : Trees). finite.get (history_in_rows (t revs_tree) n id) w.rev) (stands_same g.S.Store s mid c.find_winner.ensures.stands) in
    let held = ap (option_and_then (λ (e : Entry). e.held)) (sym same ∙ inside _ _ (c.in_ok-known.ensures.answer honest)) ∙ c.in_ok-body.ensures.ok in
    ∥∥₁_elim (laid g.S.Store s (was_honest g.S.Store s mid c.find_winner.ensures.stands first)) (Coded-set (coded_option (coded_option value_code)) _ _)
    (λ l. ap (λ (v : Value). Some (Some v)) c.in_ok-document.ensures ∙ seen_shown (trees_of g.S.Store s) n id l w (view c.in_ok-body.body) won (sym c.is_unseen.ensures ∙ c.if-is_unseen.false) held)
