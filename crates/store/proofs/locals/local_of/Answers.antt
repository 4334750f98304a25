use Rattle.std.proofs.Common.{◌≡◌, Some, None, sym, ap, ◌∙◌, rules, nat_cmp}
use Rattle.std.specs.BTreeMap.{is_at}
use Rattle.std.specs.Cmp.Lexicographic.{slice_cmp}
use Rattle.std.specs.Map.{lookup}
use Rattle.store.proofs.LocalMaps.{get-locals_of}
use Rattle.store.proofs.locals.local_of.Goals as goal

pub returns-in_ok-copy-in-Some : goal.returns-in_ok-copy-in-Some
returns-in_ok-copy-in-Some c =
    let there : lookup (is_at (slice_cmp nat_cmp c.args.id.now)) c.args.locals.now.entries ≡ Some c.in-Some.document.now = search rules in
    ap Some c.in_ok-copy-in-Some.ensures ∙ sym (get-locals_of c.args.locals.now.entries c.args.id.now ∙ there)

pub returns-in-None : goal.returns-in-None
returns-in-None c =
    let none : lookup (is_at (slice_cmp nat_cmp c.args.id.now)) c.args.locals.now.entries ≡ None = search rules in
    sym (get-locals_of c.args.locals.now.entries c.args.id.now ∙ none)
