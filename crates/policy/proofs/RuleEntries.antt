-- Rules kept as entries in the order of their ids: what is put in and looked up there is that of the rules.
use Rattle.std.proofs.Common.{◌≡◌, Bool, true, false, cond, length, List, [], ◌∷◌, Option, Some, None, Ordering, refl, sym, ap, subst, ◌∙◌, ℕ}
use Rattle.std.specs.Prelude.{IsTrue, codes, option_and_then, option_map}
use Rattle.std.specs.declared.cmp.Ordering.TheVariants.{Less, Equal, Greater}
use Rattle.std.specs.Ordering.{eq_by_cmp, is_eq, match_ordering, nat_cmp}
use Rattle.std.specs.Cmp.Lexicographic.{slice_cmp, nat_list_cmp_total}
use Rattle.std.specs.BTreeMap.{insert_entry}
use Rattle.std.specs.FinMap.{find, put, is_sorted, entries, from_sorted, entries-from_sorted, entries-insert, empty, empty_of_len, len, len-entries, same_entries_map, get, get-empty, get-insert, insert}
use Rattle.std.specs.FinMap.Entries.{by_order, find_tied, is_sorted-put}
use Rattle.std.proofs.Math.Dec.{T}
use Rattle.tree.proofs.Kept.{true_from_T}
use Rattle.couch_json.specs.Value.{Value, member_of}
use Rattle.selector.specs.Grammar.{rule_selector_in}
use Rattle.policy.specs.UpdateRules.{AreOnce, Rules, rule_in, rules_of, with_declared, with_rule, with_rules}

abbrev pub Entry : Type 0
Entry = List ℕ × Option Value

abbrev pub cmp : List ℕ → List ℕ → Ordering
cmp = slice_cmp nat_cmp

T_from_true : (b : Bool) → b ≡ true → T b
T_from_true b e = subst T (sym e) tt

insert_entry-put : (es : List Entry) (id : List ℕ) (rule : Option Value) → insert_entry cmp es id rule ≡ put cmp id rule es
insert_entry-put [] id rule = refl
insert_entry-put (e ∷ es) id rule = by (insert_entry-put es id rule) (cmp id e.0)
  where
    by : insert_entry cmp es id rule ≡ put cmp id rule es → (o : Ordering) → match_ordering o ((id, rule) ∷ e ∷ es) ((e.0, rule) ∷ es) (e ∷ insert_entry cmp es id rule) ≡ by_order o ((id, rule) ∷ e ∷ es) ((e.0, rule) ∷ es) (e ∷ put cmp id rule es)
    by more Less = refl
    by more Equal = refl
    by more Greater = ap (λ rest. e ∷ rest) more

pub sorted_insert : (es new : List Entry) (id : List ℕ) (rule : Option Value) → new ≡ insert_entry cmp es id rule → IsTrue (is_sorted cmp es) → IsTrue (is_sorted cmp new)
sorted_insert es new id rule e h =
    ap (is_sorted cmp) (e ∙ insert_entry-put es id rule) ∙ true_from_T _ (is_sorted-put cmp nat_list_cmp_total id rule es (T_from_true _ h))

pub entries_of : (es : List Entry) → IsTrue (is_sorted cmp es) → entries (from_sorted {R = cmp} es) ≡ es
entries_of es h = entries-from_sorted cmp es (T_from_true _ h)

pub none : from_sorted {X = Option Value} {R = cmp} [] ≡ empty
none = empty_of_len _ (len-entries _ ∙ ap (λ (es : List Entry). length es) (entries-from_sorted cmp [] tt))

pub len_of : (es : List Entry) → IsTrue (is_sorted cmp es) → len (from_sorted {R = cmp} es) ≡ length es
len_of es h = len-entries _ ∙ ap (λ (xs : List Entry). length xs) (entries_of es h)

pub rules_insert : (es new : List Entry) (id : List ℕ) (rule : Option Value) → new ≡ insert_entry cmp es id rule → IsTrue (is_sorted cmp es) → from_sorted {R = cmp} new ≡ insert (from_sorted es) id rule
rules_insert es new id rule e h =
    same_entries_map _ _ (entries_of new (sorted_insert es new id rule e h) ∙ e ∙ insert_entry-put es id rule ∙ ap (put cmp id rule) (sym (entries_of es h)) ∙ sym (entries-insert nat_list_cmp_total (from_sorted es) id rule))

pub rule_put : (rules : Rules) (id : List ℕ) (rule : Option Value) (body value : Value) → Some value ≡ member_of body (codes "validate_doc_update") → rule ≡ rule_selector_in value → insert rules id rule ≡ with_rule rules (id, body)
rule_put rules id rule body value there is = ap (λ r. with_declared rules id (Some r)) is ∙ ap (λ o. with_declared rules id (option_map rule_selector_in o)) there

-- ---- the rule at an id

-- what a design document declares stands over what stood there
over : Option (Option Value) → Option (Option Value) → Option (Option Value)
over None before = before
over (Some rule) before = Some rule

-- the document found, if any, decides
later : Option Value → Option (Option Value) → Option (Option Value)
later None before = before
later (Some body) before = over (rule_in body) before

get-with_declared : (rules : Rules) (id q : List ℕ) (rule : Option (Option Value)) → get (with_declared rules id rule) q ≡ cond (eq_by_cmp cmp q id) (over rule (get rules q)) (get rules q)
unfolding over
get-with_declared rules id q None = by (eq_by_cmp cmp q id)
  where
    by : (b : Bool) → get rules q ≡ cond b (get rules q) (get rules q)
    by true = refl
    by false = refl
get-with_declared rules id q (Some rule) = get-insert nat_list_cmp_total rules id rule q

pub equal : (o : Ordering) → is_eq o ≡ true → o ≡ Equal
equal Less t = absurd (T_from_true false t)
equal Equal t = refl
equal Greater t = absurd (T_from_true false t)

found_tied : (q id : List ℕ) (ds : List (List ℕ × Value)) → eq_by_cmp cmp q id ≡ true → find cmp q ds ≡ find cmp id ds
found_tied q id ds t = sym (find_tied cmp nat_list_cmp_total q id (equal _ t) ds)

get-with_rules : (ds : List (List ℕ × Value)) (rules : Rules) (q : List ℕ) → AreOnce ds → get (with_rules rules ds) q ≡ later (find cmp q ds) (get rules q)
unfolding over later
get-with_rules [] rules q once = refl
get-with_rules (d ∷ ds) rules q once =
    get-with_rules ds (with_rule rules d) q once.1 ∙ ap (later (find cmp q ds)) (get-with_declared rules d.0 q (rule_in d.1)) ∙ by (eq_by_cmp cmp q d.0) refl
  where
    by : (b : Bool) → eq_by_cmp cmp q d.0 ≡ b → later (find cmp q ds) (cond b (over (rule_in d.1) (get rules q)) (get rules q)) ≡ later (cond b (Some d.1) (find cmp q ds)) (get rules q)
    by true t = ap (λ o. later o (over (rule_in d.1) (get rules q))) (found_tied q d.0 ds t ∙ once.0)
    by false t = refl

pub get-rules_of : (ds : List (List ℕ × Value)) → AreOnce ds → (q : List ℕ) → get (rules_of ds) q ≡ option_and_then rule_in (find cmp q ds)
unfolding over later
get-rules_of ds once q = get-with_rules ds empty q once ∙ ap (later (find cmp q ds)) (get-empty cmp q) ∙ by (find cmp q ds)
  where
    last : (o : Option (Option Value)) → over o None ≡ o
    last None = refl
    last (Some rule) = refl

    by : (o : Option Value) → later o None ≡ option_and_then rule_in o
    by None = refl
    by (Some body) = last (rule_in body)
