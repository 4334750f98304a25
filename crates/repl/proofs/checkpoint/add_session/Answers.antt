use Rattle.std.proofs.Common.{◌≡◌, None, ap, ◌∙◌, option_map, bytes_eq, string_bytes, rules}
use Rattle.std.proofs.lemmas.Map.Text.{btree_map_updates_text}
use Rattle.std.specs.BTreeMap.{get_by_text}
use Rattle.repl.specs.Kept.{sequence_at}
use Rattle.repl.specs.declared.count.Count.{Count}
use Rattle.repl.proofs.IndexLemmas.{first_put, map_cond}
use Rattle.repl.proofs.checkpoint.add_session.Goals as goal

pub returns-in_ok-insert-in-None : goal.returns-in_ok-insert-in-None
returns-in_ok-insert-in-None c = λ name.
    let old = c.args.index.now in
    let key = string_bytes c.args.session.now.session in
    let named : string_bytes c.in_ok-clone-in-None.field-0 ≡ key = search rules in
    let absent : sequence_at old key ≡ None = search rules in
    let put = btree_map_updates_text (string_bytes c.in_ok-clone-in-None.field-0) old c.insert.new.self _ c.in_ok-insert-in-None.ensures.updates name in
    ap (option_map (λ (x : Count). x.value)) (rw named at put)
    ∙ map_cond (λ (x : Count). x.value) (bytes_eq key name) c.args.session.now.sequence (get_by_text old name)
    ∙ first_put (sequence_at old) c.args.session.now.sequence.value key name absent
