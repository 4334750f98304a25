-- The documents whose entries are to be gathered: those of a range, in parts, and one after another.
use Rattle.index.proofs.Common.{Bool, Database, Entries, IsAscending, List, None, Row, [], all_weaker, ap, arith, bytes_eq, codes, drop, entries_tree, false, get_or, Ghosts, Held, Ok, Result, state, if◌then◌else◌, int_eq, is_key, key_if_seen, length, list_any, map, not, refl, same_int, schema, sees_in, subst, sym, true, without_numbers, ℕ, ℤ, ◌&&◌, ◌+◌, ◌<◌, ◌||◌, ◌∙◌, ◌∷◌, ◌≡◌, ◌≢◌}
use Rattle.index.proofs.Beside.{all_are_in, beside_after, beside_as, none_waits}
use Rattle.index.proofs.DesignIds.{all_listed, listed_apart, listed_within, outside_unseen, ranges_apart, unlisted_unseen}
use Rattle.index.proofs.Filled.{all_get, ascending-drop, first_missing, get_map, ids_apart, keyless, same_tables, seen_stays, store_stays}
use Rattle.index.proofs.IdBounds.{cut_apart, cut_there, none_between}
use Rattle.index.proofs.Going.{only_then}
use Rattle.index.proofs.StepLemmas.{steps_read, steps_then, steps_weaker}
use Rattle.index.specs.Calls.{HasEntries}
use Rattle.index.specs.Steps.{Steps}
use Rattle.tables.specs.Calls.{AsksInside, LooksInside, KeepsConnection}
use Rattle.index.specs.Filling.{AreBare, HaveKeyOf, numbers_of, without_ids}
use Rattle.index.specs.inner.Gathering.{AreToGather, AreToPut, Entry, HasEntriesBeside, IsToGather, IsToGatherRange, without_documents}
use Rattle.index.specs.inner.Seen.{IsCut, documents_between}
use Rattle.index.specs.Shown.{Declared}
use Rattle.std.proofs.lemmas.List.{drop_more, length-map}
use Rattle.tables.proofs.Rests.{document_kept, length_at}
use Rattle.tables.specs.Layout.{IsDocumentRow}
use Rattle.tables.specs.Listings.{is_between}
use Rattle.tables.specs.Rows.{db_of, history_in_rows, id_of, listed_document}
use Rattle.tables.specs.Schema.{docs_tree}

and_false : (b : Bool) → (b && false) ≡ false
and_false true = refl
and_false false = refl

and_true : (b : Bool) → (b && true) ≡ b
and_true true = refl
and_true false = refl

-- ---- one document after another

module _ (db : ℤ) (xs : List Declared) (rows docs : List Row) (before now : List Entry) (due : Entries) (i : ℕ) (s : Row) (below : i < length rows) (is : s ≡ get_or rows i s) (a b : Database)
    (fit : AreToGather db xs rows docs before due a) (made : HasEntriesBeside (without_ids due (numbers_of xs) (map id_of (drop i docs))) now a b) where
  abbrev d : Row
  d = get_or docs i []

  abbrev later : List (List ℕ)
  later = map id_of (drop (i + 1) docs)

  within : i < length docs
  within = let size : length rows ≡ length docs = ap length fit.shown_is ∙ length-map docs listed_document in omega (arith, below, size)

  row_cut : drop i docs ≡ d ∷ drop (i + 1) docs
  row_cut = drop_more docs i [] within

  others : list_any (bytes_eq (id_of d)) later ≡ false
  others = ids_apart d (drop (i + 1) docs) (subst (IsAscending (λ p q. id_of p ≢ id_of q)) row_cut (ascending-drop (λ p q. id_of p ≢ id_of q) i docs fit.apart)).0

  -- that of the row that comes next is to be gathered
  pub next_row : IsToGather db xs s d now (without_ids due (numbers_of xs) later) b
  next_row =
      let same = same_tables a b fit.store.schema_is made.only in
      record {
        store = store_stays a b fit.store made.only;
        row = document_kept a.trees b.trees d (ap (λ l. length_at l (db_of d)) same.dbs) (ap (λ l. history_in_rows l (db_of d) (id_of d)) same.revs) (all_get (IsDocumentRow a.trees) docs i [] within fit.rows);
        own = all_get (λ e. db_of e ≡ db) docs i [] within fit.own;
        shown_is = is ∙ ap (λ l. get_or l i s) fit.shown_is ∙ get_map listed_document docs i [] s within;
        numbers = fit.numbers;
        entries = beside_as (without_ids due (numbers_of xs) (map id_of (drop i docs))) (without_ids (without_ids due (numbers_of xs) later) (numbers_of xs) (id_of d ∷ [])) now (b.trees entries_tree)
            (λ m k j. ap (λ l. without_ids due (numbers_of xs) (map id_of l) m k j) row_cut ∙ sym (first_missing due (numbers_of xs) (id_of d) later m k j)) made.entries;
        says = all_weaker (λ (x : Declared). (k : List ℕ) → due x.number k (id_of d) ≡ is_key (key_if_seen x.fields (sees_in a.trees db (id_of d))) k)
            (λ (x : Declared). (k : List ℕ) → without_ids due (numbers_of xs) later x.number k (id_of d) ≡ is_key (key_if_seen x.fields (sees_in b.trees db (id_of d))) k)
            (λ x says k. ap (λ c. if (list_any (int_eq x.number) (numbers_of xs) && c) then false else due x.number k (id_of d)) others
            ∙ ap (λ c. if c then false else due x.number k (id_of d)) (and_false (list_any (int_eq x.number) (numbers_of xs))) ∙ says k
            ∙ ap (λ v. is_key (key_if_seen x.fields v) k) (sym (seen_stays a b fit.store.schema_is made.only db (id_of d)))) xs
            (all_get (λ e. HaveKeyOf xs (id_of e) (sees_in a.trees db (id_of e)) due) docs i [] within fit.says);
      }

  -- and then those of the rows behind it
  pub next_done : (after : List Entry) (e : Database) → HasEntriesBeside (without_ids due (numbers_of xs) later) after b e → HasEntriesBeside (without_ids due (numbers_of xs) later) after a e
  next_done after e got = beside_after _ after a b e made.only got

-- ---- the documents of a part

module _ (db : ℤ) (xs : List Declared) (low high : List ℕ) (left : List ℕ → Bool) (waiting : List Entry) (due : Entries) (a : Database) (fit : IsToGatherRange db xs low high left waiting due a) where
  abbrev docs : List Row
  docs = documents_between db low high (a.trees docs_tree)

  abbrev rest : Entries
  rest = without_documents due (numbers_of xs) left

  missing : (m : ℤ) (k i : List ℕ) → without_documents due (numbers_of xs) (λ id. is_between low high id || left id) m k i ≡ without_ids rest (numbers_of xs) (map id_of docs) m k i
  missing m k i = go (list_any (int_eq m) (numbers_of xs)) refl (is_between low high i) refl (left i) refl (list_any (bytes_eq i) (map id_of docs)) refl
    where
      go : (x : Bool) → list_any (int_eq m) (numbers_of xs) ≡ x → (y : Bool) → is_between low high i ≡ y → (z : Bool) → left i ≡ z → (w : Bool) → list_any (bytes_eq i) (map id_of docs) ≡ w
          → (if (x && (y || z)) then false else due m k i) ≡ (if (x && w) then false else (if (x && z) then false else due m k i))
      go false number y within z kept w there = refl
      go true number true within true kept true there = refl
      go true number true within true kept false there = refl
      go true number true within false kept true there = refl
      go true number true within false kept false away =
          let unseen : HaveKeyOf xs i None due = subst (λ o. HaveKeyOf xs i o due) (unlisted_unseen a.trees fit.store.laid db low high i within away) (fit.says i) in
          sym (keyless xs i due unseen m k number)
      go true number false out true kept true there = refl
      go true number false out true kept false there = refl
      go true number false out false kept true there = absurd (let both = sym (listed_within a.trees fit.store.laid db low high i there) ∙ out in cc)
      go true number false out false kept false away = refl

  -- those whose rows are listed are to be gathered
  pub part_to_gather : (shown : List Row) → shown ≡ map listed_document docs → AreToGather db xs shown docs waiting rest a
  part_to_gather shown is = record {
    store = fit.store;
    rows = all_listed a.trees fit.store.laid db low high (IsDocumentRow a.trees) (λ r k within. k);
    own = all_listed a.trees fit.store.laid db low high (λ d. db_of d ≡ db) (λ r k within. same_int (db_of r) db (both (int_eq (db_of r) db) _ within).0);
    apart = listed_apart a.trees fit.store.laid db low high;
    shown_is = is;
    numbers = fit.numbers;
    entries = beside_as (without_documents due (numbers_of xs) (λ id. is_between low high id || left id)) (without_ids rest (numbers_of xs) (map id_of docs)) waiting (a.trees entries_tree) missing fit.entries;
    says = all_listed a.trees fit.store.laid db low high (λ d. HaveKeyOf xs (id_of d) (sees_in a.trees db (id_of d)) rest)
        (λ r k within. all_weaker (λ (x : Declared). (j : List ℕ) → due x.number j (id_of r) ≡ is_key (key_if_seen x.fields (sees_in a.trees db (id_of r))) j)
        (λ (x : Declared). (j : List ℕ) → rest x.number j (id_of r) ≡ is_key (key_if_seen x.fields (sees_in a.trees db (id_of r))) j)
        (λ x says j. ap (λ c. if (list_any (int_eq x.number) (numbers_of xs) && c) then false else due x.number j (id_of r)) (fit.apart (id_of r) (both (int_eq (db_of r) db) _ within).1)
        ∙ ap (λ c. if c then false else due x.number j (id_of r)) (and_false (list_any (int_eq x.number) (numbers_of xs))) ∙ says j) xs (fit.says (id_of r)));
  }
    where
      both : (x y : Bool) → (x && y) ≡ true → (x ≡ true) × (y ≡ true)
      both true y is = (refl, is)
      both false y is = absurd (cc)

-- ---- a range in parts

module _ (db : ℤ) (xs : List Declared) (low high from bound : List ℕ) (left : List ℕ → Bool) (before now : List Entry) (due : Entries) (a b : Database)
    (fit : IsToGatherRange db xs low high left before due a) (inside : (i : List ℕ) → is_between from high i ≡ true → is_between low high i ≡ true) (cut : IsCut from high bound)
    (made : HasEntriesBeside (without_documents due (numbers_of xs) (λ id. is_between from high id || left id)) now a b) where
  -- what is left behind the part that comes next
  abbrev pub behind : List ℕ → Bool
  behind id = is_between bound high id || left id

  split : (m : ℤ) (k i : List ℕ) → without_documents due (numbers_of xs) (λ id. is_between from high id || left id) m k i ≡ without_documents due (numbers_of xs) (λ id. is_between from bound id || behind id) m k i
  split m k i = ap (λ c. if (list_any (int_eq m) (numbers_of xs) && c) then false else due m k i) (ap (λ c. c || left i) (cut_there from high bound cut i) ∙ either (is_between from bound i) (is_between bound high i) (left i))
    where
      either : (x y z : Bool) → ((x || y) || z) ≡ (x || (y || z))
      either true y z = refl
      either false y z = refl

  -- the part that comes next is to be gathered
  pub next_part : IsToGatherRange db xs from bound behind now due b
  next_part = record {
    store = store_stays a b fit.store made.only;
    numbers = fit.numbers;
    apart = λ i within. ap (λ c. c || left i) (cut_apart from high bound i within) ∙ fit.apart i (inside i (cut_there from high bound cut i ∙ ap (λ c. c || is_between bound high i) within));
    entries = beside_as (without_documents due (numbers_of xs) (λ id. is_between from high id || left id)) (without_documents due (numbers_of xs) (λ id. is_between from bound id || behind id)) now (b.trees entries_tree) split made.entries;
    says = λ i. subst (λ o. HaveKeyOf xs i o due) (sym (seen_stays a b fit.store.schema_is made.only db i)) (fit.says i);
  }

-- what lies behind a part lies in the range
pub next_inside : (low high from bound : List ℕ) → ((i : List ℕ) → is_between from high i ≡ true → is_between low high i ≡ true) → IsCut from high bound → (i : List ℕ) → is_between bound high i ≡ true → is_between low high i ≡ true
next_inside low high from bound inside cut i within = inside i (cut_there from high bound cut i ∙ ap (λ c. is_between from bound i || c) within ∙ or_true (is_between from bound i))
  where
    or_true : (c : Bool) → (c || true) ≡ true
    or_true true = refl
    or_true false = refl

-- ---- all documents

-- the ranges on the two sides of design documents
abbrev pub is_before : List ℕ → Bool
is_before id = is_between [] (codes "_d") id

abbrev pub is_behind : List ℕ → Bool
is_behind id = is_between (codes "_e") (255 ∷ []) id

module _ (db : ℤ) (xs : List Declared) (due : Entries) (a : Database) (fit : AreBare db xs due a) where
  bare : (m : ℤ) (k i : List ℕ) → without_numbers due (numbers_of xs) m k i ≡ without_documents due (numbers_of xs) (λ id. is_before id || is_behind id) m k i
  bare m k i = go (list_any (int_eq m) (numbers_of xs)) refl (is_before i) refl (is_behind i) refl
    where
      go : (x : Bool) → list_any (int_eq m) (numbers_of xs) ≡ x → (y : Bool) → is_before i ≡ y → (z : Bool) → is_behind i ≡ z → (due m k i && not x) ≡ (if (x && (y || z)) then false else due m k i)
      go false number y before z behind = and_true (due m k i)
      go true number true before z behind = and_false (due m k i)
      go true number false before true behind = and_false (due m k i)
      go true number false before false behind =
          let unseen : HaveKeyOf xs i None due = subst (λ o. HaveKeyOf xs i o due) (outside_unseen a.trees fit.store.laid db i before behind) (fit.says i) in
          and_false (due m k i) ∙ sym (keyless xs i due unseen m k number)

  pub first_range : IsToGatherRange db xs [] (codes "_d") is_behind [] due a
  first_range = record {
    store = fit.store;
    numbers = fit.numbers;
    apart = ranges_apart;
    entries = beside_as (without_numbers due (numbers_of xs)) (without_documents due (numbers_of xs) (λ id. is_before id || is_behind id)) [] (a.trees entries_tree) bare (none_waits (without_numbers due (numbers_of xs)) (a.trees entries_tree) fit.entries);
    says = fit.says;
  }

  pub second_range : (now : List Entry) (b : Database) → HasEntriesBeside (without_documents due (numbers_of xs) is_behind) now a b → IsToGatherRange db xs (codes "_e") (255 ∷ []) (λ id. false) now due b
  second_range now b made = record {
    store = store_stays a b fit.store made.only;
    numbers = fit.numbers;
    apart = λ i within. refl;
    entries = beside_as (without_documents due (numbers_of xs) is_behind) (without_documents due (numbers_of xs) (λ id. is_behind id || false)) now (b.trees entries_tree)
        (λ m k i. ap (λ c. if (list_any (int_eq m) (numbers_of xs) && c) then false else due m k i) (sym (or_false (is_behind i)))) made.entries;
    says = λ i. subst (λ o. HaveKeyOf xs i o due) (sym (seen_stays a b fit.store.schema_is made.only db i)) (fit.says i);
  }
    where
      or_false : (c : Bool) → (c || false) ≡ c
      or_false true = refl
      or_false false = refl

-- where no document is missing, none of its entries is
pub none_left : (due : Entries) (numbers : List ℤ) (m : ℤ) (k i : List ℕ) → without_documents due numbers (λ id. false) m k i ≡ due m k i
none_left due numbers m k i = ap (λ c. if c then false else due m k i) (and_false (list_any (int_eq m) numbers))

-- where the parts have come to the end of the range, none of its documents is missing
pub range_done : (due : Entries) (numbers : List ℤ) (high bound : List ℕ) (left : List ℕ → Bool) (now : List Entry) (a b : Database) → bound ≡ high → HasEntriesBeside (without_documents due numbers (λ id. is_between bound high id || left id)) now a b
    → HasEntriesBeside (without_documents due numbers left) now a b
range_done due numbers high bound left now a b end made = record {
  entries = beside_as (without_documents due numbers (λ id. is_between bound high id || left id)) (without_documents due numbers left) now (b.trees entries_tree)
      (λ m k i. ap (λ c. if (list_any (int_eq m) numbers && (c || left i)) then false else due m k i) (ap (λ h. is_between h high i) end ∙ none_between high i)) made.entries;
  only = made.only;
}

-- ---- a part after others

module _ {S : Type 0} (g : Ghosts S) (db : ℤ) (xs : List Declared) (low high from bound : List ℕ) (left : List ℕ → Bool) (before now : List Entry) (due : Entries) (a b c : Held S) where
  abbrev F : Database → Type 0
  F = IsToGatherRange db xs low high left before due

  abbrev Made : Database → Database → Type 0
  Made = HasEntriesBeside (without_documents due (numbers_of xs) (λ id. is_between from high id || left id)) now

  -- the bound of the part is read
  pub bound_read : {X Y E D : Type 0} (x : X) (r : Result Y D) → Steps {X = X} {E = E} g F Made a b (Ok x) → KeepsConnection g b c r → LooksInside g b c → AsksInside g b c → Steps g F Made a c r
  bound_read {X} {Y} {E} {D} x r inv stands looks asks =
      steps_then g {E = E} F (λ p. p.schema ≡ schema) Made (λ p q. q ≡ p) Made a b c x r inv (steps_read g (λ p. p.schema ≡ schema) b c r stands looks asks (λ has. has)) (λ was fit made. made.only.schema ∙ fit.store.schema_is)
      (λ was fit made same. subst (λ z. Made (state g a).now z) (sym same) made)

  -- and then its entries are gathered
  pub part_gathered : {X Y E D : Type 0} (after : List Entry) (e : Held S) (x : X) (r : Result Y D) → ((i : List ℕ) → is_between from high i ≡ true → is_between low high i ≡ true) → IsCut from high bound → Steps {X = X} {E = E} g F Made a c (Ok x)
      → Steps g (IsToGatherRange db xs from bound (λ id. is_between bound high id || left id) now due) (HasEntriesBeside (without_documents due (numbers_of xs) (λ id. is_between bound high id || left id)) after) c e r
      → Steps g F (HasEntriesBeside (without_documents due (numbers_of xs) (λ id. is_between bound high id || left id)) after) a e r
  part_gathered {X} {Y} {E} {D} after e x r inside cut read part =
      let G = HasEntriesBeside (without_documents due (numbers_of xs) (λ id. is_between bound high id || left id)) after in
      steps_then g {E = E} F (IsToGatherRange db xs from bound (λ id. is_between bound high id || left id) now due) Made G G a c e x r read part
      (λ was fit made. next_part db xs low high from bound left before now due (state g a).now (state g c).now fit inside cut made)
      (λ was fit made got. beside_after _ after (state g a).now (state g c).now (state g e).now made.only got)

-- ---- both ranges, and what is put in at the end

module _ {S : Type 0} (g : Ghosts S) (db : ℤ) (xs : List Declared) (due : Entries) where
  pub first_gathered : {X E : Type 0} (one : List Entry) (a b : Held S) (r : Result X E) → Steps g (IsToGatherRange db xs [] (codes "_d") is_behind [] due) (HasEntriesBeside (without_documents due (numbers_of xs) is_behind) one) a b r
      → Steps g (AreBare db xs due) (HasEntriesBeside (without_documents due (numbers_of xs) is_behind) one) a b r
  first_gathered one a b r h =
      let G = HasEntriesBeside (without_documents due (numbers_of xs) is_behind) one in
      steps_weaker g (AreBare db xs due) (IsToGatherRange db xs [] (codes "_d") is_behind [] due) G G a b r h (first_range db xs due (state g a).now) (λ fit made. made)

  pub both_gathered : {X Y E D : Type 0} (one two : List Entry) (a b c : Held S) (x : X) (r : Result Y D) → Steps {X = X} {E = E} g (AreBare db xs due) (HasEntriesBeside (without_documents due (numbers_of xs) is_behind) one) a b (Ok x)
      → Steps g (IsToGatherRange db xs (codes "_e") (255 ∷ []) (λ id. false) one due) (HasEntriesBeside (without_documents due (numbers_of xs) (λ id. false)) two) b c r → Steps g (AreBare db xs due) (HasEntriesBeside due two) a c r
  both_gathered {X} {Y} {E} {D} one two a b c x r first second =
      let rest = without_documents due (numbers_of xs) (λ id. false) in
      steps_then g {E = E} (AreBare db xs due) (IsToGatherRange db xs (codes "_e") (255 ∷ []) (λ id. false) one due) (HasEntriesBeside (without_documents due (numbers_of xs) is_behind) one) (HasEntriesBeside rest two) (HasEntriesBeside due two) a b c x r first second
      (λ was fit made. second_range db xs due (state g a).now fit one (state g b).now made)
      (λ was fit made got. record {
        entries = beside_as rest due two ((state g c).now.trees entries_tree) (none_left due (numbers_of xs)) got.entries;
        only = only_then entries_tree (state g a).now (state g b).now (state g c).now made.only got.only;
      })

  pub all_put : {X Y E D : Type 0} (two : List Entry) (a b c : Held S) (x : X) (r : Result Y D) → Steps {X = X} {E = E} g (AreBare db xs due) (HasEntriesBeside due two) a b (Ok x) → Steps g (AreToPut due two) (HasEntriesBeside due []) b c r
      → Steps g (AreBare db xs due) (HasEntries due) a c r
  all_put {X} {Y} {E} {D} two a b c x r gathered put =
      steps_then g {E = E} (AreBare db xs due) (AreToPut due two) (HasEntriesBeside due two) (HasEntriesBeside due []) (HasEntries due) a b c x r gathered put
      (λ was fit made. record { schema_is = made.only.schema ∙ fit.store.schema_is; entries = made.entries })
      (λ was fit made got. record {
        entries = all_are_in due ((state g c).now.trees entries_tree) got.entries;
        only = only_then entries_tree (state g a).now (state g b).now (state g c).now made.only got.only;
      })
