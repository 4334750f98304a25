use Rattle.std.proofs.Common.{◌∙◌, ap, map}
use Rattle.std.specs.Prelude.{is_some}
use Rattle.lab.proofs.NamingLemmas.{place_named-some}
use Rattle.lab.specs.Naming.{named_of}
use Rattle.lab.proofs.named.has_name.Goals as goal

pub returns : goal.returns
returns g c = c.is_some.ensures ∙ ap is_some c.place_of.ensures.place ∙ place_named-some 0 c.args.name.now (map named_of c.args.entries.now)
