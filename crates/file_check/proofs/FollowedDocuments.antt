-- What is told of one document, and of the names and the keys that its rows follow.
use Rattle.index.proofs.Common.{AllByRecursion, Blob, Bool, Database, HasIndexRows, Int, IsDeclarationRow, List, None, Option, Row, Some, Trees, [], all-filter, all_of, ap, arith, bytes_eq, bytes_eq-Decides, column, cond, declaration_at, declared, declared_at, declares_in, decls_tree, design_of, drop, entries_tree, false, fields_of, filter, find, find_found, get_or, has_entry, has_number, database_of_declaration, if◌then◌else◌, index_name_of_row, inl, inr, is_at_home, is_declaration_of, key_at, key_if_seen, length, list_any, map, number_of, option_map, refl, same_int, sees_in, subst, suc, sym, true, ℕ, ℤ, ◌+◌, ◌||◌, ◌∙◌, ◌∷◌, ◌≡◌}
use Rattle.couch_json.specs.View.{members_view}
use Rattle.couch_json.specs.declared.value.Json.{Json}
use Rattle.couch_json.specs.Value.{Members, Value, member, member_at, member_of, no_members, object}
use Rattle.index.proofs.Alike.{index_found}
use Rattle.index.proofs.EntryChanges.{same_bytes, same_number}
use Rattle.index.proofs.Following.{found_each}
use Rattle.index.proofs.Spots.{each_in}
use Rattle.index.specs.Rebuilding.{names_of}
use Rattle.index.specs.Shown.{Declared}
use Rattle.index.specs.declared.declaration.Declaration.{Declaration}
use Rattle.policy.specs.DesignDocuments.{is_index_object}
use Rattle.std.proofs.Common.{Err, Ok, Result, ◌≤◌, zero, Equal, Greater, Less, Ordering, codes, is_eq}
use Rattle.std.proofs.lemmas.Map.Text.{is_eq-slice_cmp}
use Rattle.std.specs.Cmp.Lexicographic.{slice_cmp}
use Rattle.std.specs.Ordering.{match_ordering, nat_cmp}
use Rattle.std.specs.Prelude.{String, is_none, option_and_then, string_bytes}
use Rattle.std.specs.declared.alloc.Global.{Global}
use Rattle.store.proofs.Listings.{In}
use Rattle.store.proofs.Winnings.{fields_alone, queried_alone}
use Rattle.store.specs.Winning.{winner_alone}
use Rattle.store.specs.Indexes.{declared_fields, fields_in, index_fields_of, queried_document, winning_body, indexes_if}
use Rattle.sqlite.specs.Held.{Held, state}
use Rattle.sqlite_trees.specs.declared.store.Store.{Ghosts}
use Rattle.tables.specs.Layout.{IsStore}
use Rattle.tables.specs.Rows.{db_of, history_in_rows, id_of}
use Rattle.tables.specs.Schema.{revs_tree}
use Rattle.tree.proofs.Shown.{inside}
use Rattle.tree.specs.DocumentId.{is_design_id}
use Rattle.tree.specs.History.{HistoryContent}
use Rattle.file_check.proofs.DeclaredRows.{answer_as}
use Rattle.file_check.proofs.CheckSteps.{checks_so, checks_then, checks_weaker}
use Rattle.file_check.proofs.EachAsked.{SoFar, each_ends, each_fails, each_goes_on, each_refuted, of_next}
use Rattle.file_check.specs.Checks.{Checks}
use Rattle.file_check.specs.declared.finding.CheckFault.{CheckFault}
use Rattle.file_check.specs.declared.indexes.indexed.Indexed.TheVariants.{Documents}
use Rattle.file_check.specs.inner.IndexRows.{AreShownIndexes, IsNextRow, IsShownIndex, shown_index}
use Rattle.file_check.specs.Indexes.{HasItsKey, HaveItsKeys, HaveRows, IsAnswer, IsIndexedDocument, IsReadable}

-- ---- one document

module _ (trees : Trees) (d : Row) where
  -- a design document has no entries
  pub design_answer : (b : Bool) → is_design_id (id_of d) ≡ true → IsAnswer (HaveRows (db_of d) (id_of d) (declares_in trees (db_of d) (id_of d)) trees) b → IsAnswer (IsIndexedDocument trees d) b
  design_answer b is h =
      answer_as (HaveRows (db_of d) (id_of d) (declares_in trees (db_of d) (id_of d)) trees) (IsIndexedDocument trees d) b
      (λ rows. record {
        declared = rows;
        entered = all_of (λ r. database_of_declaration r ≡ db_of d → HasItsKey (id_of d) (sees_in trees (db_of d) (id_of d)) trees r)
            (λ r home k key. absurd (let never = sym (ap (λ x. key_if_seen (fields_of r) (if x then None else Rattle.store.specs.Indexes.shown_by (id_of d) (history_in_rows (trees revs_tree) (db_of d) (id_of d)) (Rattle.store.specs.Pages.live_rev (history_in_rows (trees revs_tree) (db_of d) (id_of d))))) is) ∙ key in cc)) (trees decls_tree);
      })
      (λ whole. whole.declared) h

  -- each other one declares nothing
  pub plain_answer : (b : Bool) → is_design_id (id_of d) ≡ false → IsAnswer (HaveItsKeys (db_of d) (id_of d) (sees_in trees (db_of d) (id_of d)) trees) b → IsAnswer (IsIndexedDocument trees d) b
  plain_answer b out h =
      answer_as (HaveItsKeys (db_of d) (id_of d) (sees_in trees (db_of d) (id_of d)) trees) (IsIndexedDocument trees d) b
      (λ keys. record {
        declared = λ name fields is. absurd (let never = sym (ap (λ x. if x then option_and_then (λ body. declared_fields body name) (winning_body (history_in_rows (trees revs_tree) (db_of d) (id_of d))) else None) out) ∙ is in cc);
        entered = keys;
      })
      (λ whole. whole.entered) h

  -- the same of what was read
  pub design_told : (db : ℤ) (id : List ℕ) (h : HistoryContent) (b : Bool) → h ≡ winner_alone (history_in_rows (trees revs_tree) db id) → db ≡ db_of d → id ≡ id_of d → is_design_id id ≡ true → IsAnswer (HaveRows db id (index_fields_of id h) trees) b
      → IsAnswer (IsIndexedDocument trees d) b
  design_told db id h b is numbered named design told =
      design_answer b (ap is_design_id (sym named) ∙ design)
      (subst (λ n. IsAnswer (HaveRows n (id_of d) (index_fields_of (id_of d) (history_in_rows (trees revs_tree) n (id_of d))) trees) b) numbered
      (subst (λ i. IsAnswer (HaveRows db i (index_fields_of i (history_in_rows (trees revs_tree) db i)) trees) b) named
      (subst (λ f. IsAnswer (HaveRows db id f trees) b) (λ j name. (ap (λ (k : HistoryContent). index_fields_of id k name) is ∙ fields_alone (history_in_rows (trees revs_tree) db id) id name) j) told)))

  pub plain_told : (db : ℤ) (id : List ℕ) (h : HistoryContent) (b : Bool) → h ≡ winner_alone (history_in_rows (trees revs_tree) db id) → db ≡ db_of d → id ≡ id_of d → is_design_id id ≡ false → IsAnswer (HaveItsKeys db id (queried_document id h) trees) b
      → IsAnswer (IsIndexedDocument trees d) b
  plain_told db id h b is numbered named plain told =
      plain_answer b (ap is_design_id (sym named) ∙ plain)
      (subst (λ n. IsAnswer (HaveItsKeys n (id_of d) (queried_document (id_of d) (history_in_rows (trees revs_tree) n (id_of d))) trees) b) numbered
      (subst (λ i. IsAnswer (HaveItsKeys db i (queried_document i (history_in_rows (trees revs_tree) db i)) trees) b) named
      (subst (λ o. IsAnswer (HaveItsKeys db id o trees) b) (ap (queried_document id) is ∙ queried_alone (history_in_rows (trees revs_tree) db id) id) told)))

-- what a part of the check tells of a document that was read, the check of its row tells too
module _ {S : Type 0} (g : Ghosts S) (shown r : Row) (db : ℤ) (id : List ℕ) (h : HistoryContent) {a b c : Held S} (read : Checks {E = CheckFault} g IsStore a b (λ trees k. k ≡ winner_alone (history_in_rows (trees revs_tree) db id)) (Ok h))
    (numbered : (m : ℤ) → column shown 1 ≡ Int m → db ≡ m) (named : (i : List ℕ) → column shown 2 ≡ Blob i → id ≡ i) where
  pub document_told : (Told : Trees → Bool → Type 0) {told : Result Bool CheckFault} → Checks g IsReadable b c Told told
      → ((trees : Trees) (is : Bool) → h ≡ winner_alone (history_in_rows (trees revs_tree) db id) → db ≡ db_of r → id ≡ id_of r → Told trees is → IsAnswer (IsIndexedDocument trees r) is)
      → Checks g (IsNextRow Documents shown r) a c (λ trees is. IsAnswer (IsIndexedDocument trees r) is) told
  document_told Told rest tells =
      let F = IsNextRow Documents shown r in
      checks_then g F IsReadable {A = λ trees k. k ≡ winner_alone (history_in_rows (trees revs_tree) db id)} {B = Told} {C = λ trees is. IsAnswer (IsIndexedDocument trees r) is}
      (checks_weaker g F IsStore read (λ fit. fit.ready.store) (λ fit k is. is)) rest (λ fit is. fit.ready)
      (λ fit is b told.
      tells (state g a).now.trees b is (numbered (db_of r) (ap (λ x. column x 1) fit.shown_is ∙ ap (λ x. column x 1) fit.row.is)) (named (id_of r) (ap (λ x. column x 2) fit.shown_is ∙ ap (λ x. column x 2) fit.row.is)) told)

-- ---- the names that a design document declares

named_there : (n : List ℕ) (ms : Members) → In (names_of ms) n → (v : Value) × (member_at n ms ≡ Some v)
named_there n no_members i = absurd i
named_there n (member name v ms) i = go (slice_cmp nat_cmp n name) (is_eq-slice_cmp n name) i (named_there n ms)
  where
    go : (o : Ordering) → is_eq o ≡ bytes_eq n name → In (names_of (member name v ms)) n → (In (names_of ms) n → (w : Value) × (member_at n ms ≡ Some w)) → (w : Value) × (match_ordering o (member_at n ms) (Some v) (member_at n ms) ≡ Some w)
    go Equal same i later = (v, refl)
    go Less same (inl is) later = absurd (let e = same_bytes n name (sym is) in cc)
    go Less same (inr i) later = later i
    go Greater same (inl is) later = absurd (let e = same_bytes n name (sym is) in cc)
    go Greater same (inr i) later = later i

-- what holds of each name of members holds of the name of one of them
at_name : (P : List ℕ → Type 0) (name : List ℕ) (ms : Members) (fields : List (List ℕ)) → AllByRecursion P (names_of ms) → option_map fields_in (member_at name ms) ≡ Some fields → P name
at_name P name no_members fields all says = absurd (cc)
at_name P name (member n v ms) fields all says = go (slice_cmp nat_cmp name n) (is_eq-slice_cmp name n) says (at_name P name ms fields all.1)
  where
    go : (o : Ordering) → is_eq o ≡ bytes_eq name n → option_map fields_in (match_ordering o (member_at name ms) (Some v) (member_at name ms)) ≡ Some fields → (option_map fields_in (member_at name ms) ≡ Some fields → P name) → P name
    go Equal same says later = subst P (sym ((bytes_eq-Decides name n).0 (sym same))) all.0
    go Less same says later = later says
    go Greater same says later = later says

module _ (db : ℤ) (design : List ℕ) (h : HistoryContent) (trees : Trees) where
  abbrev declares : List ℕ → Option (List (List ℕ))
  declares name = index_fields_of design h name

  -- where none is declared, each has its row
  pub none_declared : ((name : List ℕ) → index_fields_of design h name ≡ None) → HaveRows db design (index_fields_of design h) trees
  none_declared none = λ name fields is. absurd (let never = sym (none name) ∙ is in cc)

  pub bodyless : winning_body h ≡ None → (name : List ℕ) → index_fields_of design h name ≡ None
  bodyless none name = ap (λ o. if is_design_id design then option_and_then (λ body. declared_fields body name) o else None) none ∙ hidden (is_design_id design)
    where
      hidden : (b : Bool) → ◌≡◌ {A = Option (List (List ℕ))} (if b then None else None) None
      hidden true = refl
      hidden false = refl

  module _ (body : Value) (has : winning_body h ≡ Some body) (is : is_design_id design ≡ true) where
    of_body : (name : List ℕ) → index_fields_of design h name ≡ declared_fields body name
    of_body name = ap (λ o. if is_design_id design then option_and_then (λ v. declared_fields v name) o else None) has ∙ ap (λ b. if b then declared_fields body name else None) is

    -- where there are no members that are indexes, none is declared
    pub memberless : indexes_if (member_of body (codes "indexes")) ≡ no_members → (name : List ℕ) → index_fields_of design h name ≡ None
    memberless none name = of_body name ∙ ap (λ ms. option_map fields_in (member_of (object ms) name)) none

    -- the members are indexes
    pub members_answer : (ms : Members) (b : Bool) → indexes_if (member_of body (codes "indexes")) ≡ ms → IsAnswer (AllByRecursion (λ name. list_any (is_declaration_of db design name) (trees decls_tree) ≡ true) (names_of ms)) b
        → IsAnswer (HaveRows db design (index_fields_of design h) trees) b
    members_answer ms b same =
        answer_as (AllByRecursion (λ name. list_any (is_declaration_of db design name) (trees decls_tree) ≡ true) (names_of ms)) (HaveRows db design (index_fields_of design h) trees) b
        (λ all name fields says.
        at_name (λ n. list_any (is_declaration_of db design n) (trees decls_tree) ≡ true) name ms fields all (sym (of_body name ∙ ap (λ us. option_map fields_in (member_of (object us) name)) same) ∙ says))
        (λ rows. each_in (λ name. list_any (is_declaration_of db design name) (trees decls_tree) ≡ true) (names_of ms)
        (λ name i.
        let there = named_there name ms i in
        rows name (fields_in there.0) (of_body name ∙ ap (λ us. option_map fields_in (member_of (object us) name)) same ∙ ap (option_map fields_in) there.1)))

-- ---- the keys of a document

-- what is found of the index of a row is what the row says
pub found_says : (db : _) → HasIndexRows db → (r : Row) → declaration_at (db.trees decls_tree) (number_of r) ≡ Some r
    → find (is_declaration_of (database_of_declaration r) (design_of r) (index_name_of_row r)) (db.trees decls_tree) ≡ Some r
found_says db fit r there =
    (find_found (λ x. find (is_declaration_of (database_of_declaration x) (design_of x) (index_name_of_row x)) (db.trees decls_tree) ≡ Some x) (has_number (number_of r)) (db.trees decls_tree) r (index_found (db.trees decls_tree) fit.decls) there).0

module _ (trees : Trees) (id : List ℕ) (seen : Value) (r : Row) (d : Declared) (same : d ≡ declared_at r) where
  -- it has no key there
  pub keyless_answer : key_at d.fields seen ≡ None → HasItsKey id (Some seen) trees r
  keyless_answer none k key = absurd (let never = sym (sym (ap (λ (x : Declared). key_at x.fields seen) same) ∙ none) ∙ key in cc)

  -- it has this one
  pub key_answer : (key : List ℕ) (b : Bool) → key_at d.fields seen ≡ Some key → b ≡ has_entry (trees entries_tree) d.number key id → IsAnswer (HasItsKey id (Some seen) trees r) b
  key_answer key b is has = go b (has ∙ ap (λ (x : Declared). has_entry (trees entries_tree) x.number key id) same)
    where
      own : key_if_seen (fields_of r) (Some seen) ≡ Some key
      own = sym (ap (λ (x : Declared). key_at x.fields seen) same) ∙ is

      go : (b : Bool) → b ≡ has_entry (trees entries_tree) (number_of r) key id → IsAnswer (HasItsKey id (Some seen) trees r) b
      go true has = λ k says. subst (λ l. has_entry (trees entries_tree) (number_of r) l id ≡ true) (inside key k (sym own ∙ says)) (sym has)
      go false has = λ all. let never = all key own in let out = has in cc

-- what is found of the index that a query shows of a row is what the row says
pub shown_found : (db : _) → HasIndexRows db → (s r : Row) → declaration_at (db.trees decls_tree) (number_of r) ≡ Some r → s ≡ shown_index r → (n : ℤ) (design name : List ℕ)
    → ((m : ℤ) → column s 0 ≡ Int m → n ≡ m) → ((b : List ℕ) → column s 1 ≡ Blob b → design ≡ b) → ((b : List ℕ) → column s 2 ≡ Blob b → name ≡ b)
    → (o : Option Declared) → o ≡ option_map declared_at (find (is_declaration_of n design name) (db.trees decls_tree)) → o ≡ Some (declared_at r)
shown_found db fit s r there shown n design name home designed named o is =
    let own = (find_found IsDeclarationRow (has_number (number_of r)) (db.trees decls_tree) r fit.decls.each there).0.is in
    let n_is = home (database_of_declaration r) (ap (λ x. column x 0) shown ∙ ap (λ x. column x 2) own) in
    let design_is = designed (design_of r) (ap (λ x. column x 1) shown ∙ ap (λ x. column x 3) own) in
    let name_is = named (index_name_of_row r) (ap (λ x. column x 2) shown ∙ ap (λ x. column x 4) own) in
    is ∙ ap (option_map declared_at) ((λ j. find (is_declaration_of (n_is j) (design_is j) (name_is j)) (db.trees decls_tree)) ∙ found_says db fit r there)

-- ---- the rows of several names

-- what is found of an index tells whether it has a row
told_found : (p : Row → Bool) (rows : List Row) (o : Option Declaration) → option_map declared o ≡ option_map declared_at (find p rows) → is_none o ≡ false → list_any p rows ≡ true
told_found p rows None is some = absurd (cc)
told_found p [] (Some d) is some = absurd (cc)
told_found p (r ∷ rows) (Some d) is some = go (p r) is (λ more. told_found p rows (Some d) more some)
  where
    go : (b : Bool) → option_map declared (Some d) ≡ option_map declared_at (cond b (Some r) (find p rows)) → (option_map declared (Some d) ≡ option_map declared_at (find p rows) → list_any p rows ≡ true) → (b || list_any p rows) ≡ true
    go true at more = refl
    go false at more = more at

told_missing : (p : Row → Bool) (rows : List Row) (o : Option Declaration) → option_map declared o ≡ option_map declared_at (find p rows) → is_none o ≡ true → ¬ (list_any p rows ≡ true)
told_missing p rows (Some d) is none = absurd (cc)
told_missing p [] None is none = λ any. let never = any in cc
told_missing p (r ∷ rows) None is none = go (p r) is (λ more. told_missing p rows None more none)
  where
    go : (b : Bool) → option_map declared None ≡ option_map declared_at (cond b (Some r) (find p rows)) → (option_map declared None ≡ option_map declared_at (find p rows) → ¬ (list_any p rows ≡ true)) → ¬ ((b || list_any p rows) ≡ true)
    go true at more = absurd (cc)
    go false at more = more at

-- what holds of the names of members holds of the members
of_names : (P : List ℕ → Type 0) (ms : List (String Global × Json)) (b : Bool) → IsAnswer (AllByRecursion (λ (m : String Global × Json). P (string_bytes m.0)) ms) b → IsAnswer (AllByRecursion P (names_of (members_view ms))) b
of_names P ms b h = answer_as (AllByRecursion (λ (m : String Global × Json). P (string_bytes m.0)) ms) (AllByRecursion P (names_of (members_view ms))) b (to ms) (from ms) h
  where
    to : (es : List (String Global × Json)) → AllByRecursion (λ (m : String Global × Json). P (string_bytes m.0)) es → AllByRecursion P (names_of (members_view es))
    to [] all = tt
    to (e ∷ es) all = (all.0, to es all.1)

    from : (es : List (String Global × Json)) → AllByRecursion P (names_of (members_view es)) → AllByRecursion (λ (m : String Global × Json). P (string_bytes m.0)) es
    from [] all = tt
    from (e ∷ es) all = (all.0, from es all.1)

-- what is found of an index
abbrev pub Finds : ℤ → List ℕ → List ℕ → Trees → Option Declaration → Type 0
Finds db design name trees found = option_map declared found ≡ option_map declared_at (find (is_declaration_of db design name) (trees decls_tree))

-- what is found of the index of the name of a member
found_named : (db : ℤ) (design d n : List ℕ) (m : String Global × Json) → d ≡ design → n ≡ string_bytes m.0 → (trees : Trees) (found : Option Declaration) → Finds db d n trees found → Finds db design (string_bytes m.0) trees found
found_named db design d n m of_design of_name trees found told = told ∙ (λ j. option_map declared_at (find (is_declaration_of db (of_design j) (of_name j)) (trees decls_tree)))

-- the row of the index of the next name is looked for
module _ {S : Type 0} (g : Ghosts S) (db : ℤ) (design : List ℕ) (ms : List (String Global × Json)) (i : ℕ) where
  -- the index of the name of a member has a row
  abbrev pub HasRow : Trees → String Global × Json → Type 0
  HasRow trees m = list_any (is_declaration_of db design (string_bytes m.0)) (trees decls_tree) ≡ true

  abbrev pub NamedSoFar : ℕ → Held S → Held S → Type 0
  NamedSoFar n old new = SoFar g IsReadable HasRow ms n old new

  -- each index of these names has one, or one has none
  abbrev pub NamesTold : Members → Trees → Bool → Type 0
  NamesTold names trees have = IsAnswer (AllByRecursion (λ name. list_any (is_declaration_of db design name) (trees decls_tree) ≡ true) (names_of names)) have

  -- what all members have, all names have
  told_of_names : {have : Bool} {old new : Held S} (entries : List (String Global × Json)) → ms ≡ entries → Checks {E = CheckFault} g IsReadable old new (λ trees is. IsAnswer (AllByRecursion (HasRow trees) ms) is) (Ok have) → Checks {E = CheckFault} g IsReadable old new (NamesTold (members_view entries)) (Ok have)
  told_of_names {have = have} {old = old} entries same p =
      checks_so g IsReadable IsReadable (NamesTold (members_view entries)) p (λ fit. fit)
      (λ fit h. subst (λ l. NamesTold (members_view l) (state g old).now.trees have) same (of_names (λ name. list_any (is_declaration_of db design name) ((state g old).now.trees decls_tree) ≡ true) ms have h))

  pub names_end : {a b : Held S} (entries : List (String Global × Json)) → ms ≡ entries → length ms ≤ i → NamedSoFar i a b → Checks {E = CheckFault} g IsReadable a b (NamesTold (members_view entries)) (Ok true)
  names_end entries same none p = told_of_names entries same (each_ends g IsReadable HasRow ms i (λ fit. none) p)

  module _ (m : String Global × Json) (next : drop i ms ≡ m ∷ drop (i + 1) ms) {d n : List ℕ} (of_design : d ≡ design) (of_name : n ≡ string_bytes m.0) {a b c : Held S} {found : Option Declaration} (so : NamedSoFar i a b) where
    -- it has a row
    pub name_goes_on : Checks {E = CheckFault} g HasIndexRows b c (Finds db d n) (Ok found) → is_none found ≡ false → NamedSoFar (i + 1) a c
    name_goes_on read some =
        each_goes_on g IsReadable HasRow ms i m HasIndexRows (Finds db d n) found so read (λ fit. fit.rows) (λ fit. next)
        (λ fit told. told_found (is_declaration_of db design (string_bytes m.0)) ((state g a).now.trees decls_tree) found (found_named db design d n m of_design of_name (state g a).now.trees found told) some)

    -- it has none
    pub name_refuted : (entries : List (String Global × Json)) → ms ≡ entries → Checks {E = CheckFault} g HasIndexRows b c (Finds db d n) (Ok found) → is_none found ≡ true → Checks {E = CheckFault} g IsReadable a c (NamesTold (members_view entries)) (Ok false)
    name_refuted entries same read none =
        told_of_names entries same
        (each_refuted g IsReadable HasRow ms i m HasIndexRows (Finds db d n) found so read (λ fit. fit.rows) (λ fit. next)
        (λ fit told. told_missing (is_declaration_of db design (string_bytes m.0)) ((state g a).now.trees decls_tree) found (found_named db design d n m of_design of_name (state g a).now.trees found told) none))

-- ---- the rows of several indexes

-- the row at this place of a list
abbrev pub row_at : List Row → ℕ → Row
row_at rows i = get_or rows i []

one_more : (i : ℕ) → suc (i + 1) ≡ suc i + 1
one_more i = omega (arith)

-- the next of the rows that a query shows is shown of the next of theirs
pub shown_next : (decls : List Row) (i : ℕ) (s : Row) (rest : List Row) → drop i (map shown_index decls) ≡ s ∷ rest → (drop i decls ≡ row_at decls i ∷ drop (i + 1) decls) × (s ≡ shown_index (row_at decls i))
shown_next [] zero s rest is = absurd (cc)
shown_next [] (suc i) s rest is = absurd (cc)
shown_next (d ∷ decls) zero s rest is = (refl, (let same = is in cc))
shown_next (d ∷ decls) (suc i) s rest is = let more = shown_next decls i s rest is in (more.0 ∙ ap (λ n. row_at decls i ∷ drop n (d ∷ decls)) (one_more i), more.1)

-- they are as many
pub shown_length : (rows decls : List Row) → rows ≡ map shown_index decls → length rows ≡ length decls
shown_length rows decls is = ap length is ∙ go decls
  where
    go : (ds : List Row) → length (map shown_index ds) ≡ length ds
    go [] = refl
    go (d ∷ ds) = ap suc (go ds)

-- the next row that a query shows is shown of the next index
pub next_index : (rows decls : List Row) (i : ℕ) (s : Row) → drop i rows ≡ s ∷ drop (i + 1) rows → (db : Database) → AreShownIndexes rows decls db → (drop i decls ≡ row_at decls i ∷ drop (i + 1) decls) × IsShownIndex s (row_at decls i) db
next_index rows decls i s next db fit =
    let found = shown_next decls i s (drop (i + 1) rows) (sym (ap (drop i) fit.shown_is) ∙ next) in
    (found.0, record { readable = fit.readable; found = of_next (λ r. declaration_at (db.trees decls_tree) (number_of r) ≡ Some r) i (row_at decls i) decls (drop (i + 1) decls) found.0 fit.found; shown_is = found.1 })

-- the next of the indexes that a query shows is asked for the entry of a document
module _ {S : Type 0} (g : Ghosts S) (id : List ℕ) (seen : Value) (rows decls : List Row) (i : ℕ) (s : Row) where
  abbrev Has : Trees → Row → Type 0
  Has trees r = HasItsKey id (Some seen) trees r

  abbrev pub IsSoFar : ℕ → Held S → Held S → Type 0
  IsSoFar n old new = SoFar g (AreShownIndexes rows decls) Has decls n old new

  abbrev pub AsksNext : Held S → Held S → Result Bool CheckFault → Type 0
  AsksNext old new told = Checks g (IsShownIndex s (row_at decls i)) old new (λ trees has. IsAnswer (Has trees (row_at decls i)) has) told

  module _ (next : drop i rows ≡ s ∷ drop (i + 1) rows) {a b c : Held S} where
    -- it has it
    pub key_goes_on : {v : Bool} → IsSoFar i a b → AsksNext b c (Ok v) → v ≡ true → IsSoFar (i + 1) a c
    key_goes_on {v = v} p q is =
        each_goes_on g (AreShownIndexes rows decls) Has decls i (row_at decls i) (IsShownIndex s (row_at decls i)) (λ trees has. IsAnswer (Has trees (row_at decls i)) has) v p q
        (λ fit. (next_index rows decls i s next (state g a).now fit).1) (λ fit. (next_index rows decls i s next (state g a).now fit).0) (λ fit told. subst (IsAnswer (Has (state g a).now.trees (row_at decls i))) is told)

    -- it has not
    pub key_refuted : {v : Bool} → IsSoFar i a b → AsksNext b c (Ok v) → v ≡ false → Checks {E = CheckFault} g (AreShownIndexes rows decls) a c (λ trees have. IsAnswer (AllByRecursion (Has trees) decls) have) (Ok false)
    key_refuted {v = v} p q is =
        each_refuted g (AreShownIndexes rows decls) Has decls i (row_at decls i) (IsShownIndex s (row_at decls i)) (λ trees has. IsAnswer (Has trees (row_at decls i)) has) v p q
        (λ fit. (next_index rows decls i s next (state g a).now fit).1) (λ fit. (next_index rows decls i s next (state g a).now fit).0) (λ fit told. subst (IsAnswer (Has (state g a).now.trees (row_at decls i))) is told)

    -- it is not told
    pub key_fails : (e : CheckFault) (r : Result Bool CheckFault) → r ≡ Err e → IsSoFar i a b → AsksNext b c (Err e) → Checks g (AreShownIndexes rows decls) a c (λ trees have. IsAnswer (AllByRecursion (Has trees) decls) have) r
    key_fails e r is p q =
        each_fails g (AreShownIndexes rows decls) Has decls i (row_at decls i) (IsShownIndex s (row_at decls i)) (λ trees has. IsAnswer (Has trees (row_at decls i)) has) e r is p q
        (λ fit. (next_index rows decls i s next (state g a).now fit).1)

-- what is shown of the indexes of a database
pub home_indexes : (db : Database) → IsReadable db → (home : ℤ) (shown rows : List Row) → shown ≡ rows → rows ≡ map shown_index (filter (is_at_home home) (db.trees decls_tree)) → AreShownIndexes shown (filter (is_at_home home) (db.trees decls_tree)) db
home_indexes db fit home shown rows same is = record {
  readable = fit;
  found = all-filter (λ r. declaration_at (db.trees decls_tree) (number_of r) ≡ Some r) (is_at_home home) (db.trees decls_tree) (found_each (db.trees decls_tree) fit.rows.decls.rising);
  shown_is = same ∙ is;
}

-- what holds of the indexes of a database
pub home_answer : (db : ℤ) (id : List ℕ) (seen sees : Option Value) (trees : Trees) (b : Bool) → seen ≡ sees → IsAnswer (AllByRecursion (HasItsKey id seen trees) (filter (is_at_home db) (trees decls_tree))) b → IsAnswer (HaveItsKeys db id sees trees) b
home_answer db id seen sees trees b same h =
    subst (λ o. IsAnswer (HaveItsKeys db id o trees) b) same
    (answer_as (AllByRecursion (HasItsKey id seen trees) (filter (is_at_home db) (trees decls_tree))) (HaveItsKeys db id seen trees) b (to (trees decls_tree)) (from (trees decls_tree)) h)
  where
    to : (rows : List Row) → AllByRecursion (HasItsKey id seen trees) (filter (is_at_home db) rows) → AllByRecursion (λ r. database_of_declaration r ≡ db → HasItsKey id seen trees r) rows
    to [] all = tt
    to (r ∷ rows) all = go (is_at_home db r) refl all (to rows)
      where
        go : (b : Bool) → is_at_home db r ≡ b → AllByRecursion (HasItsKey id seen trees) (cond b (r ∷ filter (is_at_home db) rows) (filter (is_at_home db) rows))
            → (AllByRecursion (HasItsKey id seen trees) (filter (is_at_home db) rows) → AllByRecursion (λ r. database_of_declaration r ≡ db → HasItsKey id seen trees r) rows) → AllByRecursion (λ r. database_of_declaration r ≡ db → HasItsKey id seen trees r) (r ∷ rows)
        go true at k more = (λ home. k.0, more k.1)
        go false at k more = (λ home. absurd (let own = same_number (database_of_declaration r) db home in let out = at in cc), more k)

    from : (rows : List Row) → AllByRecursion (λ r. database_of_declaration r ≡ db → HasItsKey id seen trees r) rows → AllByRecursion (HasItsKey id seen trees) (filter (is_at_home db) rows)
    from [] all = tt
    from (r ∷ rows) all = go (is_at_home db r) refl (from rows all.1)
      where
        go : (b : Bool) → is_at_home db r ≡ b → AllByRecursion (HasItsKey id seen trees) (filter (is_at_home db) rows) → AllByRecursion (HasItsKey id seen trees) (cond b (r ∷ filter (is_at_home db) rows) (filter (is_at_home db) rows))
        go true at k = (all.0 (same_int (database_of_declaration r) db at), k)
        go false at k = k

-- members that are indexes
pub members_same : (o : Option Value) (ms : Members) → o ≡ Some (object ms) → is_index_object (object ms) ≡ true → indexes_if o ≡ ms
members_same o ms is good = ap indexes_if is ∙ ap (λ b. if b then ms else no_members) good
