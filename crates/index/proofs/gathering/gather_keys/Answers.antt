use Rattle.index.proofs.Common.{Some, ap, arith, declared, drop, length, map, refl, sym, ◌++◌, ◌+◌, ◌∙◌, ◌∷◌, ◌≡◌, key_if_seen}
use Rattle.couch_json.specs.View.{view}
use Rattle.index.specs.inner.Gathering.{entries_of, entry_if, entry_of}
use Rattle.std.proofs.Common.{◌≤◌}
use Rattle.std.proofs.lemmas.List.{append-nil, append_assoc, drop_all, drop_more}
use Rattle.index.proofs.gathering.gather_keys.Goals as goal

pub loop-declaration-init : goal.loop-declaration-init
loop-declaration-init c = refl

pub loop-declaration-preserved : goal.loop-declaration-preserved
loop-declaration-preserved c =
    let ds = c.args.declarations.now in
    let i = c.loop-declaration.declaration-index in
    let d = c.declaration-item.result in
    let id = c.args.id.now in
    let seen = Some (view c.args.seen.now) in
    let before = map entry_of c.loop-declaration.gathered.entries.items in
    let one = entry_if (declared d) id (key_if_seen (declared d).fields seen) in
    let behind = entries_of (map declared (drop (i + 1) ds)) id seen in
    let cut : entries_of (map declared (drop i ds)) id seen ≡ one ++ behind =
    ap (λ l. entries_of (map declared l) id seen) (drop_more ds i d c.loop-declaration-test.true ∙ (λ j. sym c.declaration-item.is j ∷ drop (i + 1) ds)) in
    ap (λ l. l ++ behind) c.in_ok-gather_key.ensures ∙ append_assoc before one behind ∙ ap (λ l. before ++ l) (sym cut) ∙ c.loop-declaration.invariant

pub returns : goal.returns
returns c =
    let ds = c.args.declarations.now in
    let i = c.loop-declaration.declaration-index in
    let id = c.args.id.now in
    let seen = Some (view c.args.seen.now) in
    let now = map entry_of c.loop-declaration.gathered.entries.items in
    let none : length ds ≤ i = omega (arith, c.loop-declaration-test.false) in
    sym (append-nil now) ∙ sym (ap (λ l. now ++ entries_of (map declared l) id seen) (drop_all i ds none)) ∙ c.loop-declaration.invariant
