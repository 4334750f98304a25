use Rattle.std.proofs.Common.{◌≡◌, ◌+◌, drop, string_bytes, sym, ap, ◌∙◌, arith}
use Rattle.couch_json.specs.Value.{put_all}
use Rattle.couch_json.specs.View.{members_view}
use Rattle.couch_json.proofs.Depths.{entry_below, left_from}
use Rattle.couch_json.proofs.Objects.{members_view-insert_entry, ascending, put_all-no_members}
use Rattle.couch_json.proofs.value.Json.TheLaws.{the_size}
use Rattle.couch_json.proofs.copying.+copy.Goals as goal

pub copy_members-copy_value-requires : goal.copy_members-copy_value-requires
copy_members-copy_value-requires t c =
    (omega (arith, c.decreases, entry_below the_size _ _ _ _ c.as_slice-name-items.ensures.entries c.loop-name-test.true c.loop-name-item.is), tt)

pub copy_members-loop-name-init : goal.copy_members-loop-name-init
copy_members-loop-name-init t c =
    let entries = c.args.members.now.entries in
    let copies = c.in_ok-copies.copies.entries in
    ap (λ es. put_all (members_view es) (members_view copies)) c.as_slice-name-items.ensures.entries ∙ ap (λ es. put_all (members_view entries) (members_view es)) c.in_ok-copies.ensures
    ∙ put_all-no_members (members_view entries) (ascending entries c.as_slice-name-items.ensures.ordered)

pub copy_members-loop-name-preserved : goal.copy_members-loop-name-preserved
copy_members-loop-name-preserved t c =
    let l = c.loop-name in
    let items = c.as_slice-name-items.result.now in
    let left = left_from items l.name-index c.loop-name-item.result c.loop-name-test.true c.loop-name-item.is in
    let named : string_bytes c.in_ok-name.name ≡ string_bytes c.loop-name-item.result.0 = c.in_ok-name.ensures.cases in
    let inserted = ap members_view c.in_ok-insert.ensures.entries ∙ members_view-insert_entry l.copies.entries c.in_ok-name.name c.in_ok-copy_value.field-0 in
    ap (put_all (members_view (drop (l.name-index + 1) items))) (inserted ∙ rw (named, c.in_ok-copy_value.ensures))
    ∙ sym (ap (λ es. put_all (members_view es) (members_view l.copies.entries)) left) ∙ l.invariant
