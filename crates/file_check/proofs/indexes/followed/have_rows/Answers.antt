use Rattle.std.proofs.Common.{arith, drop, false, length, rules, string_bytes, sym, true, ◌+◌, ◌∙◌, ◌∷◌, ◌≡◌, ◌≤◌}
use Rattle.std.proofs.lemmas.List.{drop_more}
use Rattle.std.specs.Prelude.{is_none}
use Rattle.file_check.proofs.FollowedDocuments.{name_goes_on, name_refuted, names_end}
use Rattle.file_check.proofs.indexes.followed.have_rows.Goals as goal

pub returns-then-is_none : goal.returns-then-is_none
returns-then-is_none g c =
    let i = c.loop-name.name-index in
    let ms = c.as_slice-name-items.result.now in
    let m = c.loop-name-item.result in
    let same : ms ≡ c.args.indexes.now.entries = search rules in
    let of_design : c.as_bytes.result.now ≡ c.args.design.now = search rules in
    let of_name : c.as_bytes-in-loop-name.result.now ≡ string_bytes m.0 = search rules in
    let next = drop_more ms i m c.loop-name-test.true ∙ (λ j. sym c.loop-name-item.is j ∷ drop (i + 1) ms) in
    let none : is_none c.in_ok-found.found ≡ true = search rules in
    name_refuted g.S.Store c.args.db.now c.args.design.now ms i m next of_design of_name c.loop-name.invariant c.args.indexes.now.entries same c.in_ok-found.ensures none

pub loop-name-preserved : goal.loop-name-preserved
loop-name-preserved g c =
    let i = c.loop-name.name-index in
    let ms = c.as_slice-name-items.result.now in
    let m = c.loop-name-item.result in
    let of_design : c.as_bytes.result.now ≡ c.args.design.now = search rules in
    let of_name : c.as_bytes-in-loop-name.result.now ≡ string_bytes m.0 = search rules in
    let next = drop_more ms i m c.loop-name-test.true ∙ (λ j. sym c.loop-name-item.is j ∷ drop (i + 1) ms) in
    let some : is_none c.in_ok-found.found ≡ false = search rules in
    name_goes_on g.S.Store c.args.db.now c.args.design.now ms i m next of_design of_name c.loop-name.invariant c.in_ok-found.ensures some

pub returns : goal.returns
returns g c =
    let i = c.loop-name.name-index in
    let ms = c.as_slice-name-items.result.now in
    let same : ms ≡ c.args.indexes.now.entries = search rules in
    let none : length ms ≤ i = omega (arith, c.loop-name-test.false) in
    names_end g.S.Store c.args.db.now c.args.design.now ms i c.args.indexes.now.entries same none c.loop-name.invariant
