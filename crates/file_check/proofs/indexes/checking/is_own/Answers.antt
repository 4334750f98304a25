use Rattle.std.proofs.Common.{rules, ◌≡◌}
use Rattle.file_check.proofs.WalkSteps.{own_as}
use Rattle.file_check.specs.declared.indexes.indexed.Indexed.TheVariants.{Declarations, Documents, Entries}
use Rattle.file_check.proofs.indexes.checking.is_own.Goals as goal

pub returns-in-Declarations : goal.returns-in-Declarations
returns-in-Declarations g c r = let is : c.args.table ≡ Declarations = search rules in own_as g.S.Store Declarations c.args.table c.args.row.now r is (c.is_declared.ensures r)

pub returns-in-Documents : goal.returns-in-Documents
returns-in-Documents g c r = let is : c.args.table ≡ Documents = search rules in own_as g.S.Store Documents c.args.table c.args.row.now r is (c.is_followed.ensures r)

pub returns-in-Entries : goal.returns-in-Entries
returns-in-Entries g c r = let is : c.args.table ≡ Entries = search rules in own_as g.S.Store Entries c.args.table c.args.row.now r is (c.is_due.ensures r)
