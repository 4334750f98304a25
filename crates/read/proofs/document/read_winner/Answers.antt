-- What the winner shows is what is defined of the database of this name.
use Rattle.std.proofs.Common.{◌≡◌, Ok, Some, ap, false, rules, subst, sym, ◌∙◌}
use Rattle.std.specs.FinMap as map
use Rattle.std.specs.Prelude.{option_map}
use Rattle.couch_json.specs.View.{view}
use Rattle.store.specs.Contents.{Contents}
use Rattle.store.specs.Database.{history_at}
use Rattle.store.specs.Winning.{as_held}
use Rattle.tree.specs.History.{held_of}
use Rattle.tree.specs.declared.entry.Held.{Held}
use Rattle.read.specs.Shown.{shown_document}
use Rattle.read.proofs.Winners.{won_document, won_live, won_some}
use Rattle.read.proofs.document.read_winner.Goals as goal

pub returns-clause-answer : goal.returns-clause-answer
returns-clause-answer g c honest =
    let o = map.get (g.S.Store.contents c.args.store.now) c.args.db.now in
    let mid = c.read_held_winner.new.store in
    let id = c.args.id.now in
    let w = c.in-Some.winner in
    let held : Held = record { deleted = w.deleted; body = view w.body } in
    let first = c.read_paths.ensures.reads.goes_on.honest honest in
    let same : map.get (g.S.Store.contents mid) c.args.db.now ≡ o = ap (λ (k : Contents). map.get k c.args.db.now) (c.read_held_winner.ensures.reads.same first) in
    let live : w.deleted ≡ false = search rules in
    won_document o id c.args.revs (Some (w.rev, Some held)) (Ok c.in_ok-of.field-0) (c.in_ok-winner.ensures.answer first ∙ ap (λ x. Some (option_map as_held x)) c.in-Some.is)
    (λ d there is.
    let h = history_at d id in
    let known : held_of h w.rev ≡ Some (record { deleted = false; body = view w.body }) = (won_some h w.rev held is).1 ∙ ap (λ b. Some (record { deleted = b; body = view w.body })) live in
    won_live h id c.args.revs w.rev held c.in_ok-of.field-0 live is
    (ap Some c.in_ok-of.ensures ∙ c.in_ok-document.ensures h (c.in_ok-paths.ensures.ok honest d (same ∙ there)) known
    ∙ ap (shown_document id h w.rev) c.in_ok-paths.ensures.asked))
