-- The indexes of a database follow one document, one index after another.
use Rattle.index.proofs.Common.{AllByRecursion, AreDeclarationRows, AreEntriesOf, Bool, Declared, Documents, Entries, IsAscending, List, None, Option, Row, Some, [], all-filter, all_both, and_from, ap, arith, ascending-filter, bytes_eq, cases_Bool, cond, declaration_at, declared_at, false, fields_of, filter, find, has_number, database_of_declaration, inl, inr, int_eq, ints, is_at_home, is_due, is_due_by, is_due_while, is_key, key_if_seen, list_any, map, number_of, passing, refl, same_int, subst, sym, true, with_key, with_seen, find_found, none_from_any, ℕ, ℤ, ◌&&◌, ◌<ℤ◌, ◌||◌, ◌∙◌, ◌∷◌, ◌≡◌}
use Rattle.index.proofs.EntryChanges.{same_number, int_eq-sym}
use Rattle.couch_json.specs.Value.{Value}
use Rattle.std.proofs.lemmas.Bool.{false_from_ne_true}
use Rattle.tables.proofs.Common.{all_kept}

-- ---- rows whose numbers rise

-- each row is the one that is found by its number
pub found_each : (rows : List Row) → IsAscending (λ a b. number_of a <ℤ number_of b) rows → AllByRecursion (λ r. declaration_at rows (number_of r) ≡ Some r) rows
found_each [] up = tt
found_each (r ∷ rows) up = (
  ap (λ b. cond b (Some r) (find (has_number (number_of r)) rows)) (same_number (number_of r) (number_of r) refl),
  all_both (λ s. number_of r <ℤ number_of s) (λ s. declaration_at rows (number_of s) ≡ Some s) (λ s. declaration_at (r ∷ rows) (number_of s) ≡ Some s)
      (λ s below found.
      let apart : int_eq (number_of r) (number_of s) ≡ false = false_from_ne_true _ (λ same. let e = same_int (number_of r) (number_of s) same in omega (arith, ints)) in
      ap (λ b. cond b (Some r) (find (has_number (number_of s)) rows)) apart ∙ found) rows up.0 (found_each rows up.1),
)

-- no later row has the number of the first
none_later : (r : Row) (rows : List Row) → AllByRecursion (λ s. number_of r <ℤ number_of s) rows → list_any (has_number (number_of r)) rows ≡ false
none_later r [] above = refl
none_later r (s ∷ rows) above =
    let apart : int_eq (number_of s) (number_of r) ≡ false = false_from_ne_true _ (λ same. let below = above.0 in let e = same_int (number_of s) (number_of r) same in omega (arith, ints)) in
    ap (λ b. b || list_any (has_number (number_of r)) rows) apart ∙ none_later r rows above.1

-- what is found fails a test, where nothing that passes it would be found
fails_test : (p q : Row → Bool) (rows : List Row) (d : Row) → list_any p (filter q rows) ≡ false → find p rows ≡ Some d → q d ≡ false
fails_test p q rows d none is =
    let never : AllByRecursion (λ x. q x ≡ true → p x ≡ false) rows = all_kept (λ x. p x ≡ false) q rows (none_from_any p (filter q rows) none) in
    let found = find_found (λ x. q x ≡ true → p x ≡ false) p rows d never is in
    false_from_ne_true (q d) (λ passes. let out = found.0 passes in let here = found.1 in cc)

module _ (db : ℤ) (id : List ℕ) (sees : Documents) (seen : Option Value) (decls : List Row) where
  abbrev after : Documents
  after = with_seen sees db id seen

  seen_here : (h : ℤ) (i : List ℕ) → (int_eq h db && bytes_eq i id) ≡ true → after h i ≡ seen
  seen_here h i is = ap (λ b. cond b seen (sees h i)) is

  seen_before : (h : ℤ) (i : List ℕ) → (int_eq h db && bytes_eq i id) ≡ false → after h i ≡ sees h i
  seen_before h i out = ap (λ b. cond b seen (sees h i)) out

  -- a row of the database, which is found by its number
  pub record IsOneOf (r : Row) : Type 0 where
    pub at_home : is_at_home db r ≡ true
    pub found : declaration_at decls (number_of r) ≡ Some r

  -- so far the rows are the entries where these are left
  pub record IsOnTheWay (all : List Declared) (rows : List Row) : Type 0 where
    pub left : List Row
    pub says : map declared_at left ≡ all
    pub each : AllByRecursion IsOneOf left
    pub rising : IsAscending (λ a b. number_of a <ℤ number_of b) left
    pub entries : AreEntriesOf (is_due_while left sees after decls) rows

  -- a declaration of another database, or none, has the entries that it had
  elsewhere : (k i : List ℕ) (o : Option Row) → ((d : Row) → o ≡ Some d → is_at_home db d ≡ false) → is_due_by sees o k i ≡ is_due_by after o k i
  elsewhere k i None out = refl
  elsewhere k i (Some d) out =
      ap (λ v. is_key (key_if_seen (fields_of d) v) k) (sym (seen_before (database_of_declaration d) i (ap (λ b. b && bytes_eq i id) (out d refl))))

  starts_with : (m : ℤ) (k i : List ℕ) → is_due sees decls m k i ≡ is_due_while (filter (is_at_home db) decls) sees after decls m k i
  starts_with m k i = elim (cases_Bool (list_any (has_number m) (filter (is_at_home db) decls))) [
    | inl is ↦ sym (ap (λ b. cond b (is_due sees decls m k i) (is_due after decls m k i)) is)
    | inr out ↦
        elsewhere k i (declaration_at decls m) (λ d is. fails_test (has_number m) (is_at_home db) decls d out is)
        ∙ sym (ap (λ b. cond b (is_due sees decls m k i) (is_due after decls m k i)) out)
  ]

  pub begins : (rows : List Row) → AreDeclarationRows decls → AreEntriesOf (is_due sees decls) rows → IsOnTheWay (map declared_at (filter (is_at_home db) decls)) rows
  begins rows laid h = record {
    left = filter (is_at_home db) decls;
    says = refl;
    each = all_both (λ r. is_at_home db r ≡ true) (λ r. declaration_at decls (number_of r) ≡ Some r) IsOneOf (λ r own found. record { at_home = own; found = found }) (filter (is_at_home db) decls)
        (passing (is_at_home db) decls) (all-filter _ (is_at_home db) decls (found_each decls laid.rising));
    rising = ascending-filter _ (is_at_home db) decls laid.rising;
    entries = record { laid = h.laid; exact = λ m k i. h.exact m k i ∙ starts_with m k i };
  }

  none_left : (left : List Row) → map declared_at left ≡ [] → left ≡ []
  none_left [] is = refl
  none_left (r ∷ left) is = absurd (cc)

  pub ends : (rows : List Row) → IsOnTheWay [] rows → AreEntriesOf (is_due after decls) rows
  ends rows h = subst (λ left. AreEntriesOf (is_due_while left sees after decls) rows) (none_left h.left h.says) h.entries

  -- ---- one declaration

  module _ (r : Row) (more : List Row) (one : IsOneOf r) (above : AllByRecursion (λ s. number_of r <ℤ number_of s) more) where
    abbrev n : ℤ
    n = number_of r

    due_by : (docs : Documents) (k i : List ℕ) → is_due docs decls n k i ≡ is_key (key_if_seen (fields_of r) (docs (database_of_declaration r) i)) k
    due_by docs k i = ap (λ o. is_due_by docs o k i) one.found

    home : database_of_declaration r ≡ db
    home = same_int (database_of_declaration r) db one.at_home

    left_first : (m : ℤ) → m ≡ n → list_any (has_number m) (r ∷ more) ≡ true
    left_first m same = ap (λ b. b || list_any (has_number m) more) (same_number n m (sym same))

    pub was : (before : Option Value) → sees db id ≡ before → (k : List ℕ) → is_due_while (r ∷ more) sees after decls n k id ≡ is_key (key_if_seen (fields_of r) before) k
    was before is k =
        ap (λ b. cond b (is_due sees decls n k id) (is_due after decls n k id)) (left_first n refl)
        ∙ due_by sees k id ∙ ap (λ h. is_key (key_if_seen (fields_of r) (sees h id)) k) home ∙ ap (λ v. is_key (key_if_seen (fields_of r) v) k) is

    gone : (k i : List ℕ) → is_due_while more sees after decls n k i ≡ is_key (key_if_seen (fields_of r) (after (database_of_declaration r) i)) k
    gone k i = ap (λ b. cond b (is_due sees decls n k i) (is_due after decls n k i)) (none_later r more above) ∙ due_by after k i

    pub next : (m : ℤ) (k i : List ℕ) → with_key (is_due_while (r ∷ more) sees after decls) n id (key_if_seen (fields_of r) seen) m k i ≡ is_due_while more sees after decls m k i
    next m k i = elim (cases_Bool (int_eq m n)) [
      | inl same ↦ elim (cases_Bool (bytes_eq i id)) [
        | inl alike ↦
            let number : m ≡ n = same_int m n same in
            let key : Bool = is_key (key_if_seen (fields_of r) seen) k in
            ap (λ b. cond b (is_key (key_if_seen (fields_of r) seen) k) (is_due_while (r ∷ more) sees after decls m k i)) (and_from (int_eq m n) (bytes_eq i id) same alike)
            ∙ sym ((λ j. is_due_while more sees after decls (number j) k i) ∙ gone k i
            ∙ ap (λ v. is_key (key_if_seen (fields_of r) v) k) (seen_here (database_of_declaration r) i (and_from (int_eq (database_of_declaration r) db) (bytes_eq i id) one.at_home alike)))
        | inr apart ↦
            let number : m ≡ n = same_int m n same in
            let out : (int_eq m n && bytes_eq i id) ≡ false = (λ j. same j && apart j) in
            let away : (int_eq (database_of_declaration r) db && bytes_eq i id) ≡ false = (λ j. one.at_home j && apart j) in
            ap (λ b. cond b (is_key (key_if_seen (fields_of r) seen) k) (is_due_while (r ∷ more) sees after decls m k i)) out
            ∙ ap (λ b. cond b (is_due sees decls m k i) (is_due after decls m k i)) (left_first m number)
            ∙ (λ j. is_due sees decls (number j) k i) ∙ due_by sees k i ∙ ap (λ v. is_key (key_if_seen (fields_of r) v) k) (sym (seen_before (database_of_declaration r) i away))
            ∙ sym ((λ j. is_due_while more sees after decls (number j) k i) ∙ gone k i)
      ]
      | inr other ↦
          ap (λ b. cond (b && bytes_eq i id) (is_key (key_if_seen (fields_of r) seen) k) (is_due_while (r ∷ more) sees after decls m k i)) other
          ∙ ap (λ b. cond (b || list_any (has_number m) more) (is_due sees decls m k i) (is_due after decls m k i)) (int_eq-sym n m ∙ other)
    ]

  -- what is left begins with the declaration that comes next
  step_left : {P : Type 0} (d : Declared) (rest : List Declared) (rows new : List Row) (before : Option Value) → sees db id ≡ before
      → ((due : Entries) → AreEntriesOf due rows → ((k : List ℕ) → due d.number k id ≡ is_key (key_if_seen d.fields before) k) → AreEntriesOf (with_key due d.number id (key_if_seen d.fields seen)) new × P)
      → (left : List Row) → map declared_at left ≡ d ∷ rest → AllByRecursion IsOneOf left → IsAscending (λ a b. number_of a <ℤ number_of b) left
      → AreEntriesOf (is_due_while left sees after decls) rows → IsOnTheWay rest new × P
  step_left d rest rows new before is replaces [] says each up h = absurd (cc)
  step_left {P} d rest rows new before is replaces (r ∷ more) says each up h =
      let same : d ≡ declared_at r = cc in
      let others : map declared_at more ≡ rest = cc in
      let replaced = subst (λ (x : Declared). (due : Entries) → AreEntriesOf due rows → ((k : List ℕ) → due x.number k id ≡ is_key (key_if_seen x.fields before) k)
      → AreEntriesOf (with_key due x.number id (key_if_seen x.fields seen)) new × P) same replaces in
      let made = replaced (is_due_while (r ∷ more) sees after decls) h (was r more each.0 up.0 before is) in (
        record {
          left = more;
          says = others;
          each = each.1;
          rising = up.1;
          entries = record { laid = made.0.laid; exact = λ m k i. made.0.exact m k i ∙ next r more each.0 up.0 m k i };
        },
        made.1,
      )

  pub steps : {P : Type 0} (d : Declared) (rest : List Declared) (rows new : List Row) (before : Option Value) → sees db id ≡ before
      → ((due : Entries) → AreEntriesOf due rows → ((k : List ℕ) → due d.number k id ≡ is_key (key_if_seen d.fields before) k) → AreEntriesOf (with_key due d.number id (key_if_seen d.fields seen)) new × P)
      → IsOnTheWay (d ∷ rest) rows → IsOnTheWay rest new × P
  steps d rest rows new before is replaces h = step_left d rest rows new before is replaces h.left h.says h.each h.rising h.entries
