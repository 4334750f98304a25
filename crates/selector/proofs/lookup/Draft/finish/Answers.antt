use Rattle.selector.specs.Bounds.{path_value}
use Rattle.selector.specs.Lookup.{set_has, sorted_has}
use Rattle.selector.proofs.Tests.{same_holds}
use Rattle.selector.proofs.lookup.Draft.finish.Goals as goal

pub returns : goal.returns
returns c = λ current. same_holds c.args.self.missing (sorted_has c.sort.result) (set_has c.args.self.values) c.sort.ensures (path_value c.args.self.path current)
