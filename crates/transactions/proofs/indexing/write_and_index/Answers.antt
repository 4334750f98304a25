use Rattle.transactions.proofs.Lemmas.{addition_of, map, sym, ◌∙◌, ◌≡◌}
use Rattle.transactions.proofs.Common.{false, true}
use Rattle.index.specs.Shown.{declared}
use Rattle.tree.specs.DocumentId.{is_design_id}
use Rattle.transactions.proofs.indexing.write_and_index.Goals as goal

pub returns-then-is_design-clause-ok : goal.returns-then-is_design-clause-ok
returns-then-is_design-clause-ok g c =
    let design : is_design_id (addition_of c.args.write.now).id ≡ true = sym c.is_design.ensures ∙ c.if-is_design.true in
    c.write_and_postpone.ensures.ok (map declared c.args.indexes.now) design

pub returns-clause-ok : goal.returns-clause-ok
returns-clause-ok g c =
    let plain : is_design_id (addition_of c.args.write.now).id ≡ false = sym c.is_design.ensures ∙ c.if-is_design.false in
    c.index_document.ensures.ok c.args.postponed.now.keys plain
