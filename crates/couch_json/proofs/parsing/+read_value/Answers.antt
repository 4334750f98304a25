use Rattle.std.proofs.Common.{◌≡◌, ◌<◌, ◌∷◌, [], length, Some, None, option_map, string_bytes, refl, sym, ap, ◌∙◌, subst, arith, rules}
use Rattle.std.proofs.lemmas.Result.{IfOk-weaker}
use Rattle.json.specs.Json.{after_end_array, read_key, items, value}
use Rattle.json.specs.Reads.{token_of}
use Rattle.json.proofs.Grammar.{value_is}
use Rattle.serde_json.specs.Read.{of_json, of_items, converted}
use Rattle.couch_json.specs.inner.Parsing.{AreItemsRead, IsRead}
use Rattle.couch_json.specs.Value.{whole, text, array, object}
use Rattle.couch_json.specs.View.{view, items_view, members_view}
use Rattle.couch_json.specs.declared.value.Json.{Null, Truth, Whole, Text, Array, Object, the_lemmas}
use Rattle.couch_json.proofs.TokensRead.{all_items, all_members, array_read, array_refused, array_too_deep, items_begun, members_begun, next_item, next_member, no_item, no_key, no_member, no_token, null_read, number_read, number_refused, object_read, object_refused, object_too_deep, text_read, truth_read}
use Rattle.couch_json.proofs.parsing.+read_value.Goals as goal

pub read_items-items-init : goal.read_items-items-init
read_items-items-init t c = items_begun c.args.depth c.args.reader.now _ (ap (λ vs. Some (items_view vs)) c.new.ensures.items)

pub read_items-returns-in_err-item-clause-fault : goal.read_items-returns-in_err-item-clause-fault
read_items-returns-in_err-item-clause-fault t c =
    let l = c.items in
    let going : (after_end_array l.reader ≡ None) × (c.take_end_array.new.self ≡ l.reader) = search rules in
    let none : converted of_json (value c.args.depth c.take_end_array.new.self) ≡ None → converted of_items (items (value c.args.depth) (length c.args.reader.now) c.args.reader.now) ≡ None =
    λ e. no_item c.args.depth c.args.reader.now l.reader _ l.invariant going.0 (subst (λ ts. converted of_json (value c.args.depth ts) ≡ None) going.1 e) in
    search (rules, none)

pub read_items-items-preserved : goal.read_items-items-preserved
read_items-items-preserved t c =
    let l = c.items in
    let going : (after_end_array l.reader ≡ None) × (c.take_end_array.new.self ≡ l.reader) = search rules in
    let r = c.read_value.new.reader in
    let read = subst (λ ts. IsRead c.args.depth ts c.in_ok-item.item r) going.1 c.in_ok-item.ensures.read in
    let less = subst (λ ts. length r < length ts) going.1 c.in_ok-item.ensures.shorter in
    next_item c.args.depth c.args.reader.now l.reader r _ _ c.in_ok-item.item l.invariant going.0 read less c.in_ok-found.ensures.pushed

pub read_items-returns-clause-read : goal.read_items-returns-clause-read
read_items-returns-clause-read t c =
    let l = c.items in
    let ended : after_end_array l.reader ≡ Some c.take_end_array.new.self = search rules in
    subst (λ found. AreItemsRead c.args.depth c.args.reader.now found c.take_end_array.new.self) (sym c.fit_items.ensures)
    (all_items c.args.depth c.args.reader.now l.reader c.take_end_array.new.self _ l.invariant ended)

pub read_members-members-init : goal.read_members-members-init
read_members-members-init t c = members_begun c.args.depth c.args.reader.now _ c.new-found.ensures.empty

pub read_members-returns-in_err-name-clause-fault : goal.read_members-returns-in_err-name-clause-fault
read_members-returns-in_err-name-clause-fault t c =
    let l = c.members in
    let none = no_key c.args.depth c.args.reader.now l.reader l.found.entries l.invariant c.in_err-name.ensures.value in
    search (rules, none)

pub read_members-returns-in_err-member-clause-fault : goal.read_members-returns-in_err-member-clause-fault
read_members-returns-in_err-member-clause-fault t c =
    let l = c.members in
    let k = c.in-Some.name.now in
    let s = c.next_key.new.self in
    let key : read_key l.reader ≡ Some (Some k, s) = grind arith in
    let none = no_member c.args.depth c.args.reader.now l.reader s l.found.entries k l.invariant key in
    search (rules, none)

pub read_members-members-preserved : goal.read_members-members-preserved
read_members-members-preserved t c =
    let l = c.members in
    let k = c.in-Some.name.now in
    let s = c.next_key.new.self in
    let r = c.read_value.new.reader in
    let key : read_key l.reader ≡ Some (Some k, s) = grind arith in
    let named : string_bytes c.in_ok-name-2.name ≡ k = search rules in
    next_member c.args.depth c.args.reader.now l.reader s r l.found.entries c.insert.new.self.entries k c.in_ok-name-2.name c.in_ok-member.member l.invariant key (sym named) c.in_ok-member.ensures.read
    c.in_ok-member.ensures.shorter c.in_ok-insert.ensures.entries

pub read_members-returns-clause-read : goal.read_members-returns-clause-read
read_members-returns-clause-read t c =
    let l = c.members in
    let ended : read_key l.reader ≡ Some (None, c.next_key.new.self) = grind arith in
    let all = all_members c.args.depth c.args.reader.now l.reader c.next_key.new.self l.found.entries in
    IfOk-weaker c.keep_whole.result _ _ (λ found same. all (option_map (λ ms. members_view ms.entries) found) l.invariant ended same) c.keep_whole.ensures.kept

pub read_value-returns-in_err-token-clause-fault : goal.read_value-returns-in_err-token-clause-fault
read_value-returns-in_err-token-clause-fault t c =
    let empty : c.args.reader.now ≡ [] = grind arith in
    let none = no_token c.args.depth c.args.reader.now empty in
    search (rules, none)

pub read_value-returns-in_err-number-in-Number-clause-fault : goal.read_value-returns-in_err-number-in-Number-clause-fault
read_value-returns-in_err-number-in-Number-clause-fault t c =
    let left = c.next.new.self in
    let first : c.args.reader.now ≡ token_of c.in_ok-token.token ∷ left = grind arith in
    let is = first ∙ ap (λ k. token_of k ∷ left) c.in-Number.is in
    let none = number_refused c.args.depth c.args.reader.now left c.in-Number.text.now is in
    search (rules, none)

pub read_value-returns-then-depth-eq0-clause-fault : goal.read_value-returns-then-depth-eq0-clause-fault
read_value-returns-then-depth-eq0-clause-fault t c =
    let left = c.next.new.self in
    let first : c.args.reader.now ≡ token_of c.in_ok-token.token ∷ left = grind arith in
    let is = first ∙ ap (λ k. token_of k ∷ left) c.in-BeginArray.is in
    let none = array_too_deep c.args.depth c.args.reader.now left is (omega arith) in
    search (rules, none)

pub read_value-returns-in_err-items-in-BeginArray-clause-fault : goal.read_value-returns-in_err-items-in-BeginArray-clause-fault
read_value-returns-in_err-items-in-BeginArray-clause-fault t c =
    let left = c.next.new.self in
    let first : c.args.reader.now ≡ token_of c.in_ok-token.token ∷ left = grind arith in
    let is = first ∙ ap (λ k. token_of k ∷ left) c.in-BeginArray.is in
    let none = array_refused c.args.depth c.args.reader.now left is (omega arith) in
    search (rules, none)

pub read_value-returns-then-depth-eq0-2-clause-fault : goal.read_value-returns-then-depth-eq0-2-clause-fault
read_value-returns-then-depth-eq0-2-clause-fault t c =
    let left = c.next.new.self in
    let first : c.args.reader.now ≡ token_of c.in_ok-token.token ∷ left = grind arith in
    let is = first ∙ ap (λ k. token_of k ∷ left) c.in-BeginObject.is in
    let none = object_too_deep c.args.depth c.args.reader.now left is (omega arith) in
    search (rules, none)

pub read_value-returns-in_err-members-in-BeginObject-clause-fault : goal.read_value-returns-in_err-members-in-BeginObject-clause-fault
read_value-returns-in_err-members-in-BeginObject-clause-fault t c =
    let left = c.next.new.self in
    let first : c.args.reader.now ≡ token_of c.in_ok-token.token ∷ left = grind arith in
    let is = first ∙ ap (λ k. token_of k ∷ left) c.in-BeginObject.is in
    let none = object_refused c.args.depth c.args.reader.now left is (omega arith) in
    search (rules, none)

pub read_value-returns-in-Null-clause-read : goal.read_value-returns-in-Null-clause-read
read_value-returns-in-Null-clause-read t c =
    let left = c.next.new.self in
    let first : c.args.reader.now ≡ token_of c.in_ok-token.token ∷ left = grind arith in
    let is = first ∙ ap (λ k. token_of k ∷ left) c.in-Null.is in
    null_read c.args.depth c.args.reader.now left Null is (search (rules, the_lemmas))

pub read_value-returns-in-Bool-clause-read : goal.read_value-returns-in-Bool-clause-read
read_value-returns-in-Bool-clause-read t c =
    let left = c.next.new.self in
    let b = c.in-Bool.truth in
    let first : c.args.reader.now ≡ token_of c.in_ok-token.token ∷ left = grind arith in
    let is = first ∙ ap (λ k. token_of k ∷ left) c.in-Bool.is in
    truth_read c.args.depth c.args.reader.now left b (Truth b) is (search (rules, the_lemmas))

pub read_value-returns-in-Some-clause-read : goal.read_value-returns-in-Some-clause-read
read_value-returns-in-Some-clause-read t c =
    let left = c.next.new.self in
    let first : c.args.reader.now ≡ token_of c.in_ok-token.token ∷ left = grind arith in
    let is = first ∙ ap (λ k. token_of k ∷ left) c.in-Number.is in
    let n = c.in-Some.number in
    let seen : view (Whole n) ≡ whole n = search (rules, the_lemmas) in
    let read = c.in_ok-number-in-Number.ensures.read ∙ ap Some c.in-Some.is in
    number_read c.args.depth c.args.reader.now left c.in-Number.text.now (Some n) (Some (Whole n)) is read (ap Some seen)

pub read_value-returns-in-None-clause-read : goal.read_value-returns-in-None-clause-read
read_value-returns-in-None-clause-read t c =
    let left = c.next.new.self in
    let first : c.args.reader.now ≡ token_of c.in_ok-token.token ∷ left = grind arith in
    let is = first ∙ ap (λ k. token_of k ∷ left) c.in-Number.is in
    let read = c.in_ok-number-in-Number.ensures.read ∙ ap Some c.in-None.is in
    number_read c.args.depth c.args.reader.now left c.in-Number.text.now None None is read refl

pub read_value-returns-in_ok-from_str-in-String-clause-read : goal.read_value-returns-in_ok-from_str-in-String-clause-read
read_value-returns-in_ok-from_str-in-String-clause-read t c =
    let left = c.next.new.self in
    let first : c.args.reader.now ≡ token_of c.in_ok-token.token ∷ left = grind arith in
    let is = first ∙ ap (λ k. token_of k ∷ left) c.in-String.is in
    let s = c.in_ok-from_str-in-String.field-0 in
    let seen : view (Text s) ≡ text (string_bytes s) = search (rules, the_lemmas) in
    text_read c.args.depth c.args.reader.now left c.in-String.text.now (Text s) is (seen ∙ ap text c.in_ok-from_str-in-String.ensures.ok)

pub read_value-returns-in-EndObject-clause-fault : goal.read_value-returns-in-EndObject-clause-fault
read_value-returns-in-EndObject-clause-fault t c =
    let first : c.args.reader.now ≡ token_of c.in_ok-token.token ∷ c.next.new.self = grind arith in
    let nothing : value c.args.depth c.args.reader.now ≡ None = rw (value_is c.args.depth c.args.reader.now, first) (grind arith) in
    let none = ap (converted of_json) nothing in
    search (rules, none)

pub read_value-returns-in-Some-2-clause-read : goal.read_value-returns-in-Some-2-clause-read
read_value-returns-in-Some-2-clause-read t c =
    let left = c.next.new.self in
    let first : c.args.reader.now ≡ token_of c.in_ok-token.token ∷ left = grind arith in
    let is = first ∙ ap (λ k. token_of k ∷ left) c.in-BeginArray.is in
    let vs = c.in-Some-2.items in
    let seen : view (Array vs) ≡ array (items_view vs.items) = search (rules, the_lemmas) in
    let same = ap (λ o. option_map array (option_map (λ vs. items_view vs.items) o)) c.in-Some-2.is in
    array_read c.args.depth c.args.reader.now left c.read_items.new.reader _ (Some (Array vs)) is (omega arith) c.in_ok-items-in-BeginArray.ensures.read (ap Some seen ∙ sym same)

pub read_value-returns-in-None-2-clause-read : goal.read_value-returns-in-None-2-clause-read
read_value-returns-in-None-2-clause-read t c =
    let left = c.next.new.self in
    let first : c.args.reader.now ≡ token_of c.in_ok-token.token ∷ left = grind arith in
    let is = first ∙ ap (λ k. token_of k ∷ left) c.in-BeginArray.is in
    let same = ap (λ o. option_map array (option_map (λ vs. items_view vs.items) o)) c.in-None-2.is in
    array_read c.args.depth c.args.reader.now left c.read_items.new.reader _ None is (omega arith) c.in_ok-items-in-BeginArray.ensures.read (sym same)

pub read_value-returns-in-Some-3-clause-read : goal.read_value-returns-in-Some-3-clause-read
read_value-returns-in-Some-3-clause-read t c =
    let left = c.next.new.self in
    let first : c.args.reader.now ≡ token_of c.in_ok-token.token ∷ left = grind arith in
    let is = first ∙ ap (λ k. token_of k ∷ left) c.in-BeginObject.is in
    let ms = c.in-Some-3.members in
    let seen : view (Object ms) ≡ object (members_view ms.entries) = search (rules, the_lemmas) in
    let same = ap (λ o. option_map object (option_map (λ ms. members_view ms.entries) o)) c.in-Some-3.is in
    object_read c.args.depth c.args.reader.now left c.read_members.new.reader _ (Some (Object ms)) is (omega arith) c.in_ok-members-in-BeginObject.ensures.read (ap Some seen ∙ sym same)

pub read_value-returns-in-None-3-clause-read : goal.read_value-returns-in-None-3-clause-read
read_value-returns-in-None-3-clause-read t c =
    let left = c.next.new.self in
    let first : c.args.reader.now ≡ token_of c.in_ok-token.token ∷ left = grind arith in
    let is = first ∙ ap (λ k. token_of k ∷ left) c.in-BeginObject.is in
    let same = ap (λ o. option_map object (option_map (λ ms. members_view ms.entries) o)) c.in-None-3.is in
    object_read c.args.depth c.args.reader.now left c.read_members.new.reader _ None is (omega arith) c.in_ok-members-in-BeginObject.ensures.read (sym same)
