use Rattle.sqlstore.proofs.Common.{length, rules, ◌<◌, ◌≡◌}
use Rattle.std.proofs.lemmas.Option.{slice_get_read}
use Rattle.std.proofs.Common.{refl}
use Rattle.sqlstore.proofs.listed_ranks.place_of.Goals as goal

pub returns-then-index-declaration-clause-named : goal.returns-then-index-declaration-clause-named
returns-then-index-declaration-clause-named c =
    let r = c.index.result.now in
    let items = c.args.all.now.items in
    let within : c.loop-place.place < length items = search rules in
    let same : r.declaration.number ≡ c.args.declaration.now = search rules in
    (r, slice_get_read items (length items) c.loop-place.place r refl within c.index.ensures, same)
