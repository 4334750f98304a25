use Rattle.std.proofs.Common.{length, refl, sym, ◌∙◌}
use Rattle.tables.proofs.Common.{all-slice_get}
use Rattle.std.proofs.lemmas.Option.{slice_get_read}
use Rattle.std.proofs.lemmas.Slice.Eq.{bytes_eq-Decides}
use Rattle.sqlstore.specs.inner.Designs.{IsDesign}
use Rattle.sqlstore.proofs.known_designs.find_design.Goals as goal

pub returns-then-is_of : goal.returns-then-is_of
returns-then-is_of c trees db are =
    let all = c.args.designs.now in
    let one = c.design-item.result in
    let i = c.loop-design.design-index in (
      all-slice_get (IsDesign trees db) all i one (slice_get_read all (length all) i one refl c.loop-design-test.true c.design-item.is) are.each,
      (bytes_eq-Decides one.id c.args.id.now).0 (sym c.is_of.ensures ∙ c.if-is_of.true),
    )
