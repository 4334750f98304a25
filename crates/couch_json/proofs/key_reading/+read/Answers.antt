use Rattle.std.proofs.Common.{rules, arith, ◌≡◌, ◌≢◌, ◌+◌, [], ◌∷◌, ◌++◌, IfErr, None, Err, string_bytes, subst, sym, ap, ◌∙◌}
use Rattle.std.proofs.lemmas.List.{nil_from_length}
use Rattle.std.proofs.lemmas.Result.{IfOk-weaker}
use Rattle.couch_json.specs.inner.KeyFront.{FindsItems, FindsMembers, FindsValue}
use Rattle.couch_json.specs.Value.{put}
use Rattle.couch_json.specs.View.{view, members_view}
use Rattle.couch_json.specs.declared.key_fault.KeyFault.TheVariants.{Memory}
use Rattle.couch_json.proofs.KeyReading.{first_byte, finds_Array, finds_Null, finds_Object, finds_Text, finds_Truth_false, finds_Truth_true, finds_Whole, depth_whole, none_in, finds_array, finds_whole, finds_none, finds_object, finds_text, ItemsLeft, items_end, items_fail, items_depth-push, items_go, items_short, MembersLeft, members_depth-put, members_end, members_fail, members_go, members_short, members_unnamed}
use Rattle.couch_json.proofs.Objects.{members_view-insert_entry}
use Rattle.couch_json.proofs.key_reading.+read.Goals as goal

pub read_items-returns-in_default-clause-none : goal.read_items-returns-in_default-clause-none
read_items-returns-in_default-clause-none t c =
    let l = c.loop-count in
    λ _. items_short c.args.limit c.args.bytes.now l.items.items l.rest.now l._count l.invariant.left (λ _. omega (arith, c.in_default.ensures.cases))

pub read_items-returns-then-first-eq0-clause-value : goal.read_items-returns-then-first-eq0-clause-value
read_items-returns-then-first-eq0-clause-value t c =
    let l = c.loop-count in
    let ends : l.rest.now ≡ 0 ∷ c.in-Some.after.now = search rules in
    items_end c.args.limit c.args.bytes.now l.items.items c.in-Some.after.now l._count (subst (λ rest. ItemsLeft c.args.limit c.args.bytes.now l.items.items rest l._count) ends l.invariant.left)

pub read_items-returns-in_err-item-clause-none : goal.read_items-returns-in_err-item-clause-none
read_items-returns-in_err-item-clause-none t c =
    let l = c.loop-count in
    let fault = c.in_err-item.field-0.0 in
    let goes : first_byte l.rest.now ≢ 0 = search rules in
    let is : c.from_residual.result ≡ Err fault = search rules in
    subst (λ result. IfErr result (λ fault. fault ≢ Memory → FindsItems c.args.limit c.args.bytes.now None)) (sym is) (λ other. items_fail c.args.limit c.args.bytes.now l.items.items l.rest.now l._count l.invariant.left goes (c.in_err-item.ensures.none other))

pub read_items-loop-count-preserved : goal.read_items-loop-count-preserved
read_items-loop-count-preserved t c =
    let l = c.loop-count in
    let goes : first_byte l.rest.now ≢ 0 = search rules in
    let pushed : c.push.new.self.items ≡ l.items.items ++ c.in_ok-item.item ∷ [] = search rules in
    record {
      left =
          subst (λ done. ItemsLeft c.args.limit c.args.bytes.now done c.in_ok-item.after.now (l._count + 1)) (sym pushed)
          (items_go c.args.limit c.args.bytes.now l.items.items l.rest.now c.in_ok-item.after.now l._count c.in_ok-item.item l.invariant.left goes c.in_ok-item.ensures.value);
      flat = rw pushed (items_depth-push l.items.items c.in_ok-item.item c.args.limit l.invariant.flat c.in_ok-item.ensures.depth);
    }

pub read_items-returns-clause-none : goal.read_items-returns-clause-none
read_items-returns-clause-none t c =
    let l = c.loop-count in
    λ _. items_short c.args.limit c.args.bytes.now l.items.items l.rest.now l._count l.invariant.left (λ few. omega (arith, few, c.loop-count-test.false))

pub read_members-returns-in_default-clause-none : goal.read_members-returns-in_default-clause-none
read_members-returns-in_default-clause-none t c =
    let l = c.loop-count in
    λ _. members_short c.args.limit c.args.bytes.now (members_view l.members.entries) l.rest.now l._count l.invariant.left (λ _. omega (arith, c.in_default.ensures.cases))

pub read_members-returns-then-first-eq0-clause-value : goal.read_members-returns-then-first-eq0-clause-value
read_members-returns-then-first-eq0-clause-value t c =
    let l = c.loop-count in
    let done = members_view l.members.entries in
    let ends : l.rest.now ≡ 0 ∷ c.in-Some.after.now = search rules in
    members_end c.args.limit c.args.bytes.now done c.in-Some.after.now l._count (subst (λ rest. MembersLeft c.args.limit c.args.bytes.now done rest l._count) ends l.invariant.left)

pub read_members-returns-in_err-name-clause-none : goal.read_members-returns-in_err-name-clause-none
read_members-returns-in_err-name-clause-none t c =
    let l = c.loop-count in
    let done = members_view l.members.entries in
    let first = c.in-Some.first.now in
    let fault = c.in_err-name.field-0.0 in
    let goes : first ≢ 0 = search rules in
    let is : c.from_residual.result ≡ Err fault = search rules in
    let left = subst (λ rest. MembersLeft c.args.limit c.args.bytes.now done rest l._count) c.in-Some.ensures.cases.0 l.invariant.left in
    subst (λ result. IfErr result (λ fault. fault ≢ Memory → FindsMembers c.args.limit c.args.bytes.now None)) (sym is)
    (λ other. members_unnamed c.args.limit c.args.bytes.now done first c.in-Some.after.now l._count left goes (c.in_err-name.ensures.none other))

pub read_members-returns-in_err-member-clause-none : goal.read_members-returns-in_err-member-clause-none
read_members-returns-in_err-member-clause-none t c =
    let l = c.loop-count in
    let done = members_view l.members.entries in
    let first = c.in-Some.first.now in
    let fault = c.in_err-member.field-0.0 in
    let goes : first ≢ 0 = search rules in
    let is : c.from_residual-in_err-member.result ≡ Err fault = search rules in
    let left = subst (λ rest. MembersLeft c.args.limit c.args.bytes.now done rest l._count) c.in-Some.ensures.cases.0 l.invariant.left in
    subst (λ result. IfErr result (λ fault. fault ≢ Memory → FindsMembers c.args.limit c.args.bytes.now None)) (sym is)
    (λ other. members_fail c.args.limit c.args.bytes.now done first c.in-Some.after.now (string_bytes c.in_ok-name.name) c.in_ok-name.after.now l._count left goes c.in_ok-name.ensures.value (c.in_err-member.ensures.none other))

pub read_members-loop-count-preserved : goal.read_members-loop-count-preserved
read_members-loop-count-preserved t c =
    let l = c.loop-count in
    let done = members_view l.members.entries in
    let first = c.in-Some.first.now in
    let name = c.in_ok-name.name in
    let member = c.in_ok-member.member in
    let after = c.in_ok-member.after.now in
    let goes : first ≢ 0 = search rules in
    let left = subst (λ rest. MembersLeft c.args.limit c.args.bytes.now done rest l._count) c.in-Some.ensures.cases.0 l.invariant.left in
    let inserted : members_view c.insert.new.self.entries ≡ put (string_bytes name) (view member) done =
    ap members_view c.in_ok-insert.ensures.entries ∙ members_view-insert_entry l.members.entries name member in
    record {
      left =
          subst (λ done. MembersLeft c.args.limit c.args.bytes.now done after (l._count + 1)) (sym inserted)
          (members_go c.args.limit c.args.bytes.now done first c.in-Some.after.now (string_bytes name) c.in_ok-name.after.now after (view member) l._count left goes c.in_ok-name.ensures.value c.in_ok-member.ensures.value);
      flat = rw inserted (members_depth-put (string_bytes name) (view member) done c.args.limit l.invariant.flat c.in_ok-member.ensures.depth);
    }

pub read_members-returns-clause-none : goal.read_members-returns-clause-none
read_members-returns-clause-none t c =
    let l = c.loop-count in
    λ _. members_short c.args.limit c.args.bytes.now (members_view l.members.entries) l.rest.now l._count l.invariant.left (λ few. omega (arith, few, c.loop-count-test.false))

pub read_value-returns-in-1-clause-value : goal.read_value-returns-in-1-clause-value
read_value-returns-in-1-clause-value t c = finds_Null c.args.limit c.args.bytes.now c.in-Some.rest.now (search rules)

pub read_value-returns-in-2-clause-value : goal.read_value-returns-in-2-clause-value
read_value-returns-in-2-clause-value t c = finds_Truth_false c.args.limit c.args.bytes.now c.in-Some.rest.now (search rules)

pub read_value-returns-in-3-clause-value : goal.read_value-returns-in-3-clause-value
read_value-returns-in-3-clause-value t c = finds_Truth_true c.args.limit c.args.bytes.now c.in-Some.rest.now (search rules)

pub read_value-returns-in_ok-text-in-5-clause-value : goal.read_value-returns-in_ok-text-in-5-clause-value
read_value-returns-in_ok-text-in-5-clause-value t c =
    let found = c.in_ok-text-in-5 in
    finds_Text c.args.limit c.args.bytes.now c.in-Some.rest.now found.rest.now found.text (search rules) found.ensures.value

pub read_value-returns-in_ok-items-in-6-clause-value : goal.read_value-returns-in_ok-items-in-6-clause-value
read_value-returns-in_ok-items-in-6-clause-value t c =
    let found = c.in_ok-items-in-6 in
    finds_Array c.args.limit c.args.bytes.now c.in-Some.rest.now found.rest.now found.items (search rules) found.ensures.value

pub read_value-returns-in_ok-members-in-7-clause-value : goal.read_value-returns-in_ok-members-in-7-clause-value
read_value-returns-in_ok-members-in-7-clause-value t c =
    let found = c.in_ok-members-in-7 in
    finds_Object c.args.limit c.args.bytes.now c.in-Some.rest.now found.rest.now found.members (search rules) found.ensures.value

pub read_value-returns-in_default-clause-none : goal.read_value-returns-in_default-clause-none
read_value-returns-in_default-clause-none t c =
    let bytes = c.args.bytes.now in
    let empty : bytes ≡ [] = nil_from_length bytes c.in_default.ensures.cases in
    λ _. rw empty (finds_none c.args.limit [] (λ e. absurd (omega (arith, e))) (λ e. absurd (omega (arith, e))) (λ e. absurd (omega (arith, e))) (λ e. absurd (omega (arith, e))) (λ e. absurd (omega (arith, e))) (λ e. absurd (omega (arith, e))) (λ e. absurd (omega (arith, e))))

pub read_value-returns-in_err-text-in-5-clause-none : goal.read_value-returns-in_err-text-in-5-clause-none
read_value-returns-in_err-text-in-5-clause-none t c =
    let is : c.from_residual.result ≡ Err c.in_err-text-in-5.field-0.0 = search rules in
    let starts : c.args.bytes.now ≡ 5 ∷ c.in-Some.rest.now = search rules in
    subst (λ result. IfErr result (λ fault. fault ≢ Memory → FindsValue c.args.limit c.args.bytes.now None)) (sym is)
    (λ other. rw starts (finds_text c.args.limit c.in-Some.rest.now None (c.in_err-text-in-5.ensures.none other)))

pub read_value-returns-in_err-items-in-6-clause-none : goal.read_value-returns-in_err-items-in-6-clause-none
read_value-returns-in_err-items-in-6-clause-none t c =
    let is : c.from_residual-in_err-items-in-6.result ≡ Err c.in_err-items-in-6.field-0.0 = search rules in
    let starts : c.args.bytes.now ≡ 6 ∷ c.in-Some.rest.now = search rules in
    subst (λ result. IfErr result (λ fault. fault ≢ Memory → FindsValue c.args.limit c.args.bytes.now None)) (sym is)
    (λ other. rw starts (finds_array c.args.limit c.in-Some.rest.now None (c.in_err-items-in-6.ensures.none other)))

pub read_value-returns-in_err-members-in-7-clause-none : goal.read_value-returns-in_err-members-in-7-clause-none
read_value-returns-in_err-members-in-7-clause-none t c =
    let is : c.from_residual-in_err-members-in-7.result ≡ Err c.in_err-members-in-7.field-0.0 = search rules in
    let starts : c.args.bytes.now ≡ 7 ∷ c.in-Some.rest.now = search rules in
    subst (λ result. IfErr result (λ fault. fault ≢ Memory → FindsValue c.args.limit c.args.bytes.now None)) (sym is)
    (λ other. rw starts (finds_object c.args.limit c.in-Some.rest.now None (c.in_err-members-in-7.ensures.none other)))

pub read_value-returns-then-limit-eq0-clause-none : goal.read_value-returns-then-limit-eq0-clause-none
read_value-returns-then-limit-eq0-clause-none t c =
    let first : first_byte c.args.bytes.now ≡ 6 = search rules in
    let flat : c.args.limit ≡ 0 = search rules in
    λ _. finds_none c.args.limit c.args.bytes.now (λ e. absurd (omega (arith, e, first))) (λ e. absurd (omega (arith, e, first))) (λ e. absurd (omega (arith, e, first)))
    (λ e. absurd (omega (arith, e, first))) (λ e. absurd (omega (arith, e, first))) (λ _. flat) (λ _. flat)

pub read_value-returns-then-limit-eq0-2-clause-none : goal.read_value-returns-then-limit-eq0-2-clause-none
read_value-returns-then-limit-eq0-2-clause-none t c =
    let first : first_byte c.args.bytes.now ≡ 7 = search rules in
    let flat : c.args.limit ≡ 0 = search rules in
    λ _. finds_none c.args.limit c.args.bytes.now (λ e. absurd (omega (arith, e, first))) (λ e. absurd (omega (arith, e, first))) (λ e. absurd (omega (arith, e, first)))
    (λ e. absurd (omega (arith, e, first))) (λ e. absurd (omega (arith, e, first))) (λ _. flat) (λ _. flat)

pub read_value-returns-in_default-kind-clause-none : goal.read_value-returns-in_default-kind-clause-none
read_value-returns-in_default-kind-clause-none t c =
    let first : first_byte c.args.bytes.now ≡ c.in-Some.kind.now = search rules in
    λ _. finds_none c.args.limit c.args.bytes.now (search rules) (search rules) (search rules) (search rules) (search rules) (λ e. absurd (search rules)) (λ e. absurd (search rules))

pub read_value-returns-in-4-clause-value : goal.read_value-returns-in-4-clause-value
read_value-returns-in-4-clause-value t c =
    let starts : c.args.bytes.now ≡ 4 ∷ c.in-Some.rest.now = search rules in
    IfOk-weaker c.read_number.result _ _ (λ found. finds_Whole c.args.limit c.args.bytes.now c.in-Some.rest.now found.1.now (view found.0) starts) c.read_number.ensures.value

pub read_value-returns-in-4-clause-depth : goal.read_value-returns-in-4-clause-depth
read_value-returns-in-4-clause-depth t c =
    IfOk-weaker c.read_number.result _ _ (λ found w. rw (depth_whole (view found.0) found.1.now c.in-Some.rest.now w) (omega arith)) c.read_number.ensures.value

pub read_value-returns-in-4-clause-none : goal.read_value-returns-in-4-clause-none
read_value-returns-in-4-clause-none t c =
    let starts : c.args.bytes.now ≡ 4 ∷ c.in-Some.rest.now = search rules in
    none_in c.read_number.result _ (λ none _ _. rw starts (finds_whole c.args.limit c.in-Some.rest.now None none)) c.read_number.ensures.none
