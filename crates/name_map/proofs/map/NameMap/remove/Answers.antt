use Rattle.std.proofs.Common.{◌≡◌, Some, sym, subst, ap, ◌∙◌, arith}
use Rattle.std.specs.BTreeMap.{is_at}
use Rattle.std.specs.Map.{lookup, remove_entry}
use Rattle.name_map.specs.Places.{StandsAt, order}
use Rattle.name_map.proofs.Entries.{Ascends, remove_ascends}
use Rattle.name_map.proofs.Searches.{lookup_missing, lookup_standing, remove_missing, remove_standing, standing_within}
use Rattle.name_map.proofs.map.NameMap.remove.Goals as goal

pub remove-requires : goal.remove-requires
remove-requires g c =
    let same : c.self.inside.entries.items ≡ c.args.self.now.entries = ap (λ m. m.entries) c.self.view_is in
    let stands = subst (λ es. StandsAt c.args.name.now es c.in-Ok.at) (sym same) c.in-Ok.ensures.stands in
    let within = standing_within c.args.name.now c.self.inside.entries.items c.in-Ok.at stands in
    omega (arith, within, c.self.inside.entries.ok.0)

pub invariant_of-self : goal.invariant_of-self
invariant_of-self g c = subst Ascends (sym c.remove.ensures.items) (remove_ascends c.self.inside.entries.items c.in-Ok.at c.self.invariant)

pub returns-in-Ok-clause-value : goal.returns-in-Ok-clause-value
returns-in-Ok-clause-value g c =
    let same : c.self.inside.entries.items ≡ c.args.self.now.entries = ap (λ m. m.entries) c.self.view_is in
    let stands = subst (λ es. StandsAt c.args.name.now es c.in-Ok.at) (sym same) c.in-Ok.ensures.stands in
    ap (λ e. Some e.1) c.remove.ensures.value ∙ sym (lookup_standing c.args.name.now c.self.inside.entries.items c.in-Ok.at _ stands) ∙ ap (lookup (is_at (order c.args.name.now))) same

pub returns-in-Ok-clause-entries : goal.returns-in-Ok-clause-entries
returns-in-Ok-clause-entries g c =
    let same : c.self.inside.entries.items ≡ c.args.self.now.entries = ap (λ m. m.entries) c.self.view_is in
    let stands = subst (λ es. StandsAt c.args.name.now es c.in-Ok.at) (sym same) c.in-Ok.ensures.stands in
    c.remove.ensures.items ∙ sym (remove_standing c.args.name.now c.self.inside.entries.items c.in-Ok.at stands) ∙ ap (remove_entry (is_at (order c.args.name.now))) same

pub returns-in-Err-clause-value : goal.returns-in-Err-clause-value
returns-in-Err-clause-value g c = sym (lookup_missing c.args.name.now c.args.self.now.entries c.in-Err._at c.in-Err.ensures.fits)

pub returns-in-Err-clause-entries : goal.returns-in-Err-clause-entries
returns-in-Err-clause-entries g c = sym (remove_missing c.args.name.now c.args.self.now.entries c.in-Err._at c.in-Err.ensures.fits)
