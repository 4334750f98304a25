use Rattle.sqlstore.proofs.Common.{length, rules, sym, ◌<◌, ◌∙◌}
use Rattle.std.proofs.lemmas.Option.{slice_get_read}
use Rattle.std.proofs.lemmas.Slice.Eq.{bytes_eq-Decides}
use Rattle.std.proofs.Common.{refl}
use Rattle.sqlstore.proofs.earlier.place_of.Goals as goal

pub returns-then-is_of-clause-named : goal.returns-then-is_of-clause-named
returns-then-is_of-clause-named c =
    let known = c.index.result.now in
    let items = c.args.earlier.now.items in
    let within : c.loop-place.place < length c.args.earlier.now.items = search rules in
    (known, slice_get_read items (length items) c.loop-place.place known refl within c.index.ensures, (bytes_eq-Decides known.name c.args.name.now).0 (sym c.is_of.ensures ∙ c.if-is_of.true))
