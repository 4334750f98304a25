use Rattle.std.proofs.Common.{◌≡◌, bytes_eq, sym, ◌∙◌, rules}
use Rattle.std.proofs.lemmas.Map.Text.{is_eq-slice_cmp}
use Rattle.store.proofs.databases.is_same.Goals as goal

pub returns : goal.returns
returns c = let same : c.eq.result ≡ bytes_eq c.args.name.now c.args.entry.now = search rules in same ∙ sym (is_eq-slice_cmp c.args.name.now c.args.entry.now)
