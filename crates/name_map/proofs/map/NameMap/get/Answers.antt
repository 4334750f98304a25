use Rattle.std.proofs.Common.{◌≡◌, Some, sym, subst, ap, ◌∙◌, arith}
use Rattle.std.specs.BTreeMap.{is_at}
use Rattle.std.specs.Map.{lookup}
use Rattle.name_map.specs.Places.{StandsAt, order}
use Rattle.name_map.proofs.Searches.{lookup_missing, lookup_standing, standing_within}
use Rattle.name_map.proofs.map.NameMap.get.Goals as goal

pub index-requires : goal.index-requires
index-requires g c =
    let same : c.self.inside.entries.items ≡ c.args.self.now.entries = ap (λ m. m.entries) c.self.view_is in
    let stands = subst (λ es. StandsAt c.args.name.now es c.in-Ok.at) (sym same) c.in-Ok.ensures.stands in
    let within = standing_within c.args.name.now c.self.inside.entries.items c.in-Ok.at stands in
    omega (arith, within, c.self.inside.entries.ok.0)

pub returns-in-Ok : goal.returns-in-Ok
returns-in-Ok g c =
    let same : c.self.inside.entries.items ≡ c.args.self.now.entries = ap (λ m. m.entries) c.self.view_is in
    let stands = subst (λ es. StandsAt c.args.name.now es c.in-Ok.at) (sym same) c.in-Ok.ensures.stands in
    ap (λ e. Some e.1) c.index.ensures ∙ sym (lookup_standing c.args.name.now c.self.inside.entries.items c.in-Ok.at _ stands) ∙ ap (lookup (is_at (order c.args.name.now))) same

pub returns-in-Err : goal.returns-in-Err
returns-in-Err g c = sym (lookup_missing c.args.name.now c.args.self.now.entries c.in-Err._at c.in-Err.ensures.fits)
