use Rattle.std.proofs.Common.{Some, ap, codes, rules, subst, true, ◌≡◌, ◌∙◌}
use Rattle.std.specs.List.{AllByRecursion, list_any}
use Rattle.couch_json.proofs.Objects.{view-Object}
use Rattle.couch_json.specs.Value.{member_of, object}
use Rattle.couch_json.specs.View.{members_view, view}
use Rattle.sqlite.specs.Held.{state}
use Rattle.index.specs.Rebuilding.{names_of}
use Rattle.index.specs.Rows.{is_declaration_of}
use Rattle.policy.specs.DesignDocuments.{is_index_object}
use Rattle.store.specs.Indexes.{index_fields_of, winning_body}
use Rattle.tables.specs.Schema.{decls_tree}
use Rattle.file_check.proofs.CheckSteps.{checks_weaker}
use Rattle.file_check.proofs.FollowedDocuments.{members_answer, members_same}
use Rattle.file_check.specs.Indexes.{HaveRows, IsAnswer, IsReadable}
use Rattle.file_check.proofs.indexes.followed.are_declared.Goals as goal

pub returns : goal.returns
returns g c =
    let d = (state g.S.Store c.args.conn.now).now in
    let db = c.args.db.now in
    let design = c.args.design.now in
    let h = c.args.history.now in
    let body = view c.in-Some.body.now in
    let ms = members_view c.in-Some-Object.indexes.entries in
    let has : winning_body h ≡ Some body = search rules in
    let held : member_of body (codes "indexes") ≡ Some (view c.in-Some-Object.field-0.now) = search rules in
    let there : member_of body (codes "indexes") ≡ Some (object ms) = held ∙ (λ j. Some (view (c.in-Some-Object.field-0-is j))) ∙ ap Some (view-Object c.in-Some-Object.indexes) in
    let good : is_index_object (object ms) ≡ true = search rules in
    checks_weaker g.S.Store IsReadable IsReadable {B = λ trees are. IsAnswer (HaveRows db design (index_fields_of design h) trees) are} c.have_rows.ensures (λ fit. fit)
    (λ fit b told. members_answer db design h d.trees body has c.requires ms b (members_same (member_of body (codes "indexes")) ms there good)
    (subst (λ l. IsAnswer (AllByRecursion (λ name. list_any (is_declaration_of db design name) (d.trees decls_tree) ≡ true) (names_of l)) b) (λ j. members_view (c.in-Some-Object.indexes-is j).entries) told))
