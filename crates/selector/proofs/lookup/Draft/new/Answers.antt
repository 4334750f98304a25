use Rattle.selector.specs.Bounds.{path_value}
use Rattle.selector.specs.Lookup.{set_has}
use Rattle.selector.proofs.Tests.{none_holds}
use Rattle.selector.proofs.lookup.Draft.new.Goals as goal

pub returns-clause-none : goal.returns-clause-none
returns-clause-none c = λ current. none_holds (set_has c.new.result) c.new.ensures (path_value c.args.path current)
