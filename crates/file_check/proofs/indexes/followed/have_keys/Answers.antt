use Rattle.std.proofs.Common.{Err, arith, drop, false, length, rules, subst, sym, true, ◌+◌, ◌∙◌, ◌∷◌, ◌≡◌, ◌≤◌, Some}
use Rattle.std.proofs.lemmas.List.{drop_more}
use Rattle.couch_json.specs.View.{view}
use Rattle.file_check.proofs.EachAsked.{each_ends}
use Rattle.file_check.proofs.FollowedDocuments.{key_fails, key_goes_on, key_refuted, row_at, shown_length}
use Rattle.file_check.specs.inner.IndexRows.{AreShownIndexes}
use Rattle.file_check.specs.Indexes.{HasItsKey}
use Rattle.file_check.proofs.indexes.followed.have_keys.Goals as goal

pub returns-in_err-has_key : goal.returns-in_err-has_key
returns-in_err-has_key g c decls =
    let i = c.loop-row.row-index in
    let next = drop_more c.args.rows.now i c.row-item.result c.loop-row-test.true ∙ (λ j. sym c.row-item.is j ∷ drop (i + 1) c.args.rows.now) in
    let e = c.in_err-has_key.field-0.0 in
    let is : c.from_residual.result ≡ Err e = search rules in
    key_fails g.S.Store c.args.id.now (view c.args.seen.now) c.args.rows.now decls i c.row-item.result next e c.from_residual.result is (c.loop-row.invariant decls) (c.in_err-has_key.ensures (row_at decls i))

pub returns-then-not-branch : goal.returns-then-not-branch
returns-then-not-branch g c decls =
    let i = c.loop-row.row-index in
    let next = drop_more c.args.rows.now i c.row-item.result c.loop-row-test.true ∙ (λ j. sym c.row-item.is j ∷ drop (i + 1) c.args.rows.now) in
    let no : c.in_ok-has_key.field-0 ≡ false = search rules in
    key_refuted g.S.Store c.args.id.now (view c.args.seen.now) c.args.rows.now decls i c.row-item.result next (c.loop-row.invariant decls) (c.in_ok-has_key.ensures (row_at decls i)) no

pub loop-row-preserved : goal.loop-row-preserved
loop-row-preserved g c decls =
    let i = c.loop-row.row-index in
    let next = drop_more c.args.rows.now i c.row-item.result c.loop-row-test.true ∙ (λ j. sym c.row-item.is j ∷ drop (i + 1) c.args.rows.now) in
    let yes : c.in_ok-has_key.field-0 ≡ true = search rules in
    key_goes_on g.S.Store c.args.id.now (view c.args.seen.now) c.args.rows.now decls i c.row-item.result next (c.loop-row.invariant decls) (c.in_ok-has_key.ensures (row_at decls i)) yes

pub returns : goal.returns
returns g c decls =
    let i = c.loop-row.row-index in
    let none : length c.args.rows.now ≤ i = omega (arith, c.loop-row-test.false) in
    each_ends g.S.Store (AreShownIndexes c.args.rows.now decls) (HasItsKey c.args.id.now (Some (view c.args.seen.now))) decls i (λ fit. subst (λ n. n ≤ i) (shown_length c.args.rows.now decls fit.shown_is) none) (c.loop-row.invariant decls)
