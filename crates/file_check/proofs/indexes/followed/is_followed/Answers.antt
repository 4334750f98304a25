use Rattle.std.proofs.Common.{None, Ok, Some, ap, false, rules, subst, true, ◌≡◌, ◌∙◌}
use Rattle.std.proofs.Common.{of_z, to_z, to_z-of_z, w64}
use Rattle.std.specs.Prelude.{IfSome}
use Rattle.sqlite_value.specs.Order.{column}
use Rattle.store.specs.Indexes.{index_fields_of, queried_document}
use Rattle.tables.specs.Rows.{id_of}
use Rattle.tree.specs.DocumentId.{is_design_id}
use Rattle.file_check.proofs.CheckSteps.{checks_none}
use Rattle.file_check.proofs.FollowedDocuments.{design_told, document_told, plain_told}
use Rattle.file_check.specs.inner.IndexRows.{IsNextRow}
use Rattle.file_check.specs.declared.indexes.indexed.Indexed.TheVariants.{Documents}
use Rattle.file_check.specs.Indexes.{HaveItsKeys, HaveRows, IsAnswer, IsIndexedDocument}
use Rattle.file_check.proofs.indexes.followed.is_followed.Goals as goal

pub returns-in_default : goal.returns-in_default
returns-in_default g c r =
    let none : c.in_ok-id.field-0 ≡ None = search rules in
    checks_none g.S.Store (IsNextRow Documents c.args.row.now r) (λ trees is. IsAnswer (IsIndexedDocument trees r) is) c.args.conn.now (Ok false)
    (λ fit. absurd (c.in_ok-id.ensures.none none (id_of r, fit.row.named, fit.row.text, ap (λ x. column x 2) fit.shown_is ∙ ap (λ x. column x 2) fit.row.is)))

pub returns-then-is_design : goal.returns-then-is_design
returns-then-is_design g c r =
    let found : c.in_ok-id.field-0 ≡ Some c.in-Some.id = search rules in
    let design : is_design_id c.in-Some.id ≡ true = search rules in
    let db = to_z w64 (of_z w64 c.whole_in-db.result) in
    document_told g.S.Store c.args.row.now r db c.in-Some.id c.in_ok-history.history c.in_ok-history.ensures
    (λ m cell. to_z-of_z {w = w64} {z = c.whole_in-db.result} (record { sfits = c.whole_in-db.type_inv }) ∙ c.whole_in-db.ensures m cell) (λ i cell. subst (λ o. IfSome o (λ x. x ≡ i)) found (c.in_ok-id.ensures.some i cell))
    (λ trees are. IsAnswer (HaveRows db c.in-Some.id (index_fields_of c.in-Some.id c.in_ok-history.history) trees) are) c.are_declared.ensures
    (λ trees b is numbered named. design_told trees r db c.in-Some.id c.in_ok-history.history b is numbered named design)

pub returns : goal.returns
returns g c r =
    let found : c.in_ok-id.field-0 ≡ Some c.in-Some.id = search rules in
    let plain : is_design_id c.in-Some.id ≡ false = search rules in
    let db = to_z w64 (of_z w64 c.whole_in-db.result) in
    document_told g.S.Store c.args.row.now r db c.in-Some.id c.in_ok-history.history c.in_ok-history.ensures
    (λ m cell. to_z-of_z {w = w64} {z = c.whole_in-db.result} (record { sfits = c.whole_in-db.type_inv }) ∙ c.whole_in-db.ensures m cell) (λ i cell. subst (λ o. IfSome o (λ x. x ≡ i)) found (c.in_ok-id.ensures.some i cell))
    (λ trees are. IsAnswer (HaveItsKeys db c.in-Some.id (queried_document c.in-Some.id c.in_ok-history.history) trees) are) c.are_entered.ensures
    (λ trees b is numbered named. plain_told trees r db c.in-Some.id c.in_ok-history.history b is numbered named plain)
