use Rattle.std.proofs.Common.{◌≡◌, Some, sym, subst, ap, ap₂, ◌∙◌, string_bytes, arith}
use Rattle.std.specs.BTreeMap.{insert_entry, is_at}
use Rattle.std.specs.Map.{keys_of, lookup}
use Rattle.name_map.specs.Places.{FitsAt, StandsAt}
use Rattle.std.proofs.Common.{set, string_cmp}
use Rattle.std.specs.List.Sorted.{IsStrictlySortedBy}
use Rattle.name_map.proofs.Entries.{Ascends, insert_ascends}
use Rattle.name_map.proofs.Searches.{fitting_within, insert_fitting, insert_standing, keys_of-set, lookup_missing, lookup_standing, standing_within}
use Rattle.name_map.proofs.map.NameMap.insert.Goals as goal

pub index_mut-requires : goal.index_mut-requires
index_mut-requires g c =
    let same : c.self.inside.entries.items ≡ c.args.self.now.entries = ap (λ m. m.entries) c.self.view_is in
    let stands = subst (λ es. StandsAt (string_bytes c.args.name) es c.in-Ok.at) (sym same) (subst (λ n. StandsAt n c.args.self.now.entries c.in-Ok.at) c.deref.ensures c.in-Ok.ensures.stands) in
    let within = standing_within (string_bytes c.args.name) c.self.inside.entries.items c.in-Ok.at stands in
    omega (arith, within, c.self.inside.entries.ok.0)

pub invariant_of-self : goal.invariant_of-self
invariant_of-self g c =
    let same : c.self.inside.entries.items ≡ c.args.self.now.entries = ap (λ m. m.entries) c.self.view_is in
    let stands = subst (λ es. StandsAt (string_bytes c.args.name) es c.in-Ok.at) (sym same) (subst (λ n. StandsAt n c.args.self.now.entries c.in-Ok.at) c.deref.ensures c.in-Ok.ensures.stands) in
    let within = standing_within (string_bytes c.args.name) c.self.inside.entries.items c.in-Ok.at stands in
    let e = c.index_mut.result.now in
    let same = ap (λ d. set c.self.inside.entries.items c.in-Ok.at (d.0, c.replace.new.dest)) c.index_mut.ensures.value in
    subst (IsStrictlySortedBy string_cmp) (sym (ap keys_of same ∙ keys_of-set c.self.inside.entries.items c.replace.new.dest c.in-Ok.at e within)) c.self.invariant

pub insert-requires : goal.insert-requires
insert-requires g c =
    let same : c.self.inside.entries.items ≡ c.args.self.now.entries = ap (λ m. m.entries) c.self.view_is in
    let fits = subst (λ es. FitsAt (string_bytes c.args.name) es c.in-Err.at) (sym same) (subst (λ n. FitsAt n c.args.self.now.entries c.in-Err.at) c.deref.ensures c.in-Err.ensures.fits) in
    let within = fitting_within (string_bytes c.args.name) c.self.inside.entries.items c.in-Err.at fits in
    omega (arith, within, c.self.inside.entries.ok.0)

pub invariant_of-self-in-Err : goal.invariant_of-self-in-Err
invariant_of-self-in-Err g c =
    let same : c.self.inside.entries.items ≡ c.args.self.now.entries = ap (λ m. m.entries) c.self.view_is in
    let fits = subst (λ es. FitsAt (string_bytes c.args.name) es c.in-Err.at) (sym same) (subst (λ n. FitsAt n c.args.self.now.entries c.in-Err.at) c.deref.ensures c.in-Err.ensures.fits) in
    subst Ascends (sym c.in_ok-insert-in-Err.ensures.items) (insert_ascends c.self.inside.entries.items c.args.name c.args.value c.in-Err.at c.self.invariant fits)

pub returns-in-Ok-clause-old : goal.returns-in-Ok-clause-old
returns-in-Ok-clause-old g c =
    let same : c.self.inside.entries.items ≡ c.args.self.now.entries = ap (λ m. m.entries) c.self.view_is in
    let stands = subst (λ es. StandsAt (string_bytes c.args.name) es c.in-Ok.at) (sym same) (subst (λ n. StandsAt n c.args.self.now.entries c.in-Ok.at) c.deref.ensures c.in-Ok.ensures.stands) in
    ap Some (c.replace.ensures.value ∙ ap (λ e. e.1) c.index_mut.ensures.value) ∙ sym (lookup_standing (string_bytes c.args.name) c.self.inside.entries.items c.in-Ok.at c.index_mut.result.now stands) ∙ ap (lookup (is_at (string_cmp c.args.name))) same

pub returns-in-Ok-clause-entries : goal.returns-in-Ok-clause-entries
returns-in-Ok-clause-entries g c =
    let same : c.self.inside.entries.items ≡ c.args.self.now.entries = ap (λ m. m.entries) c.self.view_is in
    let stands = subst (λ es. StandsAt (string_bytes c.args.name) es c.in-Ok.at) (sym same) (subst (λ n. StandsAt n c.args.self.now.entries c.in-Ok.at) c.deref.ensures c.in-Ok.ensures.stands) in
    ap (λ d. set c.self.inside.entries.items c.in-Ok.at (d.0, c.replace.new.dest)) c.index_mut.ensures.value
    ∙ sym (insert_standing c.self.inside.entries.items c.args.name c.replace.new.dest c.in-Ok.at c.index_mut.result.now stands) ∙ ap₂ (λ es v. insert_entry string_cmp es c.args.name v) same c.replace.ensures.after

pub returns-in_ok-insert-in-Err-clause-old : goal.returns-in_ok-insert-in-Err-clause-old
returns-in_ok-insert-in-Err-clause-old g c =
    let same : c.self.inside.entries.items ≡ c.args.self.now.entries = ap (λ m. m.entries) c.self.view_is in
    let fits = subst (λ es. FitsAt (string_bytes c.args.name) es c.in-Err.at) (sym same) (subst (λ n. FitsAt n c.args.self.now.entries c.in-Err.at) c.deref.ensures c.in-Err.ensures.fits) in
    sym (lookup_missing (string_bytes c.args.name) c.self.inside.entries.items c.in-Err.at fits) ∙ ap (lookup (is_at (string_cmp c.args.name))) same

pub returns-in_ok-insert-in-Err-clause-entries : goal.returns-in_ok-insert-in-Err-clause-entries
returns-in_ok-insert-in-Err-clause-entries g c =
    let same : c.self.inside.entries.items ≡ c.args.self.now.entries = ap (λ m. m.entries) c.self.view_is in
    let fits = subst (λ es. FitsAt (string_bytes c.args.name) es c.in-Err.at) (sym same) (subst (λ n. FitsAt n c.args.self.now.entries c.in-Err.at) c.deref.ensures c.in-Err.ensures.fits) in
    c.in_ok-insert-in-Err.ensures.items ∙ sym (insert_fitting c.self.inside.entries.items c.args.name c.args.value c.in-Err.at fits) ∙ ap (λ es. insert_entry string_cmp es c.args.name c.args.value) same
