use Rattle.std.proofs.Common.{not, ap, ◌∙◌, rules}
use Rattle.std.proofs.lemmas.Fn.{filter_same}
use Rattle.std.specs.Cmp.Lexicographic.{slice_cmp}
use Rattle.std.specs.Ordering.{nat_cmp, eq_by_cmp}
use Rattle.store.specs.Plain.{contents_of}
use Rattle.store.proofs.Plains.{contents_of-without}
use Rattle.store.proofs.databases.remove.Goals as goal

pub returns : goal.returns
returns c =
    let name = c.args.name.now in
    ap contents_of (filter_same _ (λ e. not (eq_by_cmp (slice_cmp nat_cmp) name e.0)) _ (λ x r f' k. search rules) _ _ c.retain.ensures.filtered)
    ∙ contents_of-without c.args.databases.now.items name
