-- What the entries are after one is taken out, or one is put in.
use Rattle.index.proofs.Common.{AreEntriesOf, AreEntryRows, Bool, Decides-int_eq, Entries, IsEntryRow, List, None, Option, Row, Some, [], all-append, all-filter, all_weaker, and_from, and_parts, ap, ascending-append, ascending-filter, bytes_eq, bytes_eq-Decides, cases_Bool, cond, declaration_of, entry_cells, entry_id, false, filter, has_entry, inl, inr, int_eq, is_entry_of, is_key, key_of, list_any, list_any-append, none_from_any, not, numbered-with_cells, refl, same_int, sym, true, with_cells, with_key, ℕ, ℤ, ◌&&◌, ◌||◌, ◌∙◌, ◌∷◌, ◌≡◌, ◌≢◌}
use Rattle.index.proofs.EntryStatements.{numbered_entries}

-- ---- tests

pub same_bytes : (a b : List ℕ) → a ≡ b → bytes_eq a b ≡ true
same_bytes a b = (bytes_eq-Decides a b).1

pub same_number : (m n : ℤ) → m ≡ n → int_eq m n ≡ true
same_number m n = (Decides-int_eq m n).1

-- two tests that follow from one another are the same
pub same_test : (x y : Bool) → (x ≡ true → y ≡ true) → (y ≡ true → x ≡ true) → x ≡ y
same_test true y to from = sym (to refl)
same_test false true to from = from refl
same_test false false to from = refl

pub bytes_eq-sym : (a b : List ℕ) → bytes_eq a b ≡ bytes_eq b a
bytes_eq-sym a b = same_test (bytes_eq a b) (bytes_eq b a) (λ h. same_bytes b a (sym ((bytes_eq-Decides a b).0 h))) (λ h. same_bytes a b (sym ((bytes_eq-Decides b a).0 h)))

pub int_eq-sym : (m n : ℤ) → int_eq m n ≡ int_eq n m
int_eq-sym m n = same_test (int_eq m n) (int_eq n m) (λ h. same_number n m (sym (same_int m n h))) (λ h. same_number m n (sym (same_int n m h)))

-- an entry of a declaration, a key and an id has these
pub of_entry : (declaration : ℤ) (k id : List ℕ) (r : Row) → is_entry_of declaration k id r ≡ true → (declaration_of r ≡ declaration) × (key_of r ≡ k) × (entry_id r ≡ id)
of_entry declaration k id r is =
    let parts = and_parts (int_eq (declaration_of r) declaration) _ is in
    let more = and_parts (bytes_eq (key_of r) k) _ parts.1 in
    (same_int (declaration_of r) declaration parts.0, (bytes_eq-Decides (key_of r) k).0 more.0, (bytes_eq-Decides (entry_id r) id).0 more.1)

pub entry_from : (declaration : ℤ) (k id : List ℕ) (r : Row) → declaration_of r ≡ declaration → key_of r ≡ k → entry_id r ≡ id → is_entry_of declaration k id r ≡ true
entry_from declaration k id r a b c =
    and_from (int_eq (declaration_of r) declaration) _ (same_number _ _ a) (and_from (bytes_eq (key_of r) k) (bytes_eq (entry_id r) id) (same_bytes _ _ b) (same_bytes _ _ c))

-- ---- one taken out

-- whether some row passes after those were taken out that pass another test, which all that pass the first answer alike
pub any_without : (p q : Row → Bool) (b : Bool) → ((r : Row) → q r ≡ true → p r ≡ b) → (rows : List Row) → list_any q (filter (λ r. not (p r)) rows) ≡ (not b && list_any q rows)
any_without p q true h [] = refl
any_without p q false h [] = refl
any_without p q b h (r ∷ rows) = go b (p r) (q r) (h r) refl refl (any_without p q b h rows)
  where
    go : (c x y : Bool) → (q r ≡ true → p r ≡ c) → p r ≡ x → q r ≡ y → list_any q (filter (λ s. not (p s)) rows) ≡ (not c && list_any q rows)
        → list_any q (cond (not x) (r ∷ filter (λ s. not (p s)) rows) (filter (λ s. not (p s)) rows)) ≡ (not c && (q r || list_any q rows))
    go c true true k px qx more = let same : c ≡ true = sym (k qx) ∙ px in more ∙ ap (λ d. not d && list_any q rows) same ∙ sym (ap (λ d. not d && (q r || list_any q rows)) same)
    go c false true k px qx more =
        let same : c ≡ false = sym (k qx) ∙ px in ap (λ d. d || list_any q (filter (λ s. not (p s)) rows)) qx ∙ sym (ap (λ d. not d && (q r || list_any q rows)) same ∙ ap (λ d. d || list_any q rows) qx)
    go c true false k px qx more = more ∙ sym (ap (λ d. not c && (d || list_any q rows)) qx)
    go c false false k px qx more = ap (λ d. d || list_any q (filter (λ s. not (p s)) rows)) qx ∙ more ∙ sym (ap (λ d. not c && (d || list_any q rows)) qx)

pub entries-filter : (p : Row → Bool) (rows : List Row) → AreEntryRows rows → AreEntryRows (filter p rows)
entries-filter p rows h = record { each = all-filter IsEntryRow p rows h.each; rising = ascending-filter _ p rows h.rising; apart = ascending-filter _ p rows h.apart }

module _ (d : ℤ) (id key : List ℕ) (rows : List Row) where
  -- which entries are there without one
  pub has-without : (m : ℤ) (l i : List ℕ) → has_entry (filter (λ r. not (is_entry_of d key id r)) rows) m l i ≡ (not (int_eq m d && (bytes_eq l key && bytes_eq i id)) && has_entry rows m l i)
  has-without m l i =
      any_without (is_entry_of d key id) (is_entry_of m l i) (int_eq m d && (bytes_eq l key && bytes_eq i id))
      (λ r is. let e = of_entry m l i r is in λ j. int_eq (e.0 j) d && (bytes_eq (e.1 j) key && bytes_eq (e.2 j) id)) rows

  -- which are there with one more
  pub has-with : (m : ℤ) (l i : List ℕ) → has_entry (with_cells rows (entry_cells d key id)) m l i ≡ (has_entry rows m l i || (int_eq d m && (bytes_eq key l && bytes_eq id i)))
  has-with m l i = list_any-append (is_entry_of m l i) rows _ ∙ ap (λ b. has_entry rows m l i || b) (or_false (int_eq d m && (bytes_eq key l && bytes_eq id i)))
    where
      or_false : (b : Bool) → (b || false) ≡ b
      or_false true = refl
      or_false false = refl

  pub entries-with : AreEntryRows rows → has_entry rows d key id ≡ false → AreEntryRows (with_cells rows (entry_cells d key id))
  entries-with h none = record {
    each = all-append IsEntryRow rows _ h.each (refl, tt);
    rising = (numbered-with_cells rows (entry_cells d key id) (numbered_entries rows h)).rising;
    apart = ascending-append (λ a b. declaration_of a ≡ declaration_of b → key_of a ≡ key_of b → entry_id a ≢ entry_id b) rows _ h.apart (tt, tt)
        (all_weaker (λ r. is_entry_of d key id r ≡ false) _ (λ r out. (λ a b c. absurd (let here = entry_from d key id r a b c in cc), tt)) rows (none_from_any (is_entry_of d key id) rows none));
  }

-- ---- the entries that are to be

-- the same entries, said in another way
pub entries_as : (due other : Entries) (rows : List Row) → ((m : ℤ) (l i : List ℕ) → due m l i ≡ other m l i) → AreEntriesOf due rows → AreEntriesOf other rows
entries_as due other rows same h = record { laid = h.laid; exact = λ m l i. h.exact m l i ∙ same m l i }

module _ (due : Entries) (d : ℤ) (id : List ℕ) where
  abbrev here : ℤ → List ℕ → Bool
  here m i = int_eq m d && bytes_eq i id

  -- what is there of the declaration and the id
  at_here : (before : Option (List ℕ)) → ((k : List ℕ) → due d k id ≡ is_key before k) → (m : ℤ) (l i : List ℕ) → here m i ≡ true → due m l i ≡ is_key before l
  at_here before was m l i is =
      let parts = and_parts (int_eq m d) (bytes_eq i id) is in
      (λ j. due (same_int m d parts.0 j) l ((bytes_eq-Decides i id).0 parts.1 j)) ∙ was l

  -- the key that it has already
  pub with_same : (key : Option (List ℕ)) → ((k : List ℕ) → due d k id ≡ is_key key k) → (m : ℤ) (l i : List ℕ) → due m l i ≡ with_key due d id key m l i
  with_same key was m l i = elim (cases_Bool (here m i)) [
    | inl is ↦ at_here key was m l i is ∙ sym (ap (λ b. cond b (is_key key l) (due m l i)) is)
    | inr out ↦ sym (ap (λ b. cond b (is_key key l) (due m l i)) out)
  ]

  -- one key in the place of another
  pub with_again : (first second : Option (List ℕ)) (m : ℤ) (l i : List ℕ) → with_key (with_key due d id first) d id second m l i ≡ with_key due d id second m l i
  with_again first second m l i = go (here m i)
    where
      go : (b : Bool) → cond b (is_key second l) (cond b (is_key first l) (due m l i)) ≡ cond b (is_key second l) (due m l i)
      go true = refl
      go false = refl

  -- the key that it has then
  pub has_then : (key : Option (List ℕ)) (k : List ℕ) → with_key due d id key d k id ≡ is_key key k
  has_then key k = ap (λ b. cond b (is_key key k) (due d k id)) (and_from (int_eq d d) (bytes_eq id id) (same_number d d refl) (same_bytes id id refl))

  module _ (key : List ℕ) where
    -- without the key that it has, it has none
    removes : ((k : List ℕ) → due d k id ≡ is_key (Some key) k) → (m : ℤ) (l i : List ℕ) → (not (int_eq m d && (bytes_eq l key && bytes_eq i id)) && due m l i) ≡ with_key due d id None m l i
    removes was m l i = elim (cases_Bool (here m i)) [
      | inl is ↦
          let parts = and_parts (int_eq m d) (bytes_eq i id) is in
          (λ j. not (parts.0 j && (bytes_eq-sym l key j && parts.1 j)) && at_here (Some key) was m l i is j) ∙ gone (bytes_eq key l) ∙ sym (ap (λ b. cond b false (due m l i)) is)
      | inr out ↦ kept (int_eq m d) (bytes_eq l key) (bytes_eq i id) (due m l i) out ∙ sym (ap (λ b. cond b false (due m l i)) out)
    ]
      where
        gone : (b : Bool) → (not (true && (b && true)) && b) ≡ false
        gone true = refl
        gone false = refl

        kept : (x y z w : Bool) → (x && z) ≡ false → (not (x && (y && z)) && w) ≡ w
        kept false y z w out = refl
        kept true false z w out = refl
        kept true true true w out = absurd (cc)
        kept true true false w out = refl

    -- with a key where it had none, it has that
    adds : ((k : List ℕ) → due d k id ≡ false) → (m : ℤ) (l i : List ℕ) → (due m l i || (int_eq d m && (bytes_eq key l && bytes_eq id i))) ≡ with_key due d id (Some key) m l i
    adds none m l i =
        (λ j. due m l i || (int_eq-sym d m j && (bytes_eq key l && bytes_eq-sym id i j)))
        ∙ elim (cases_Bool (here m i)) [
          | inl is ↦
              let parts = and_parts (int_eq m d) (bytes_eq i id) is in
              (λ j. at_here None none m l i is j || (parts.0 j && (bytes_eq key l && parts.1 j))) ∙ comes (bytes_eq key l) ∙ sym (ap (λ b. cond b (bytes_eq key l) (due m l i)) is)
          | inr out ↦ kept (int_eq m d) (bytes_eq key l) (bytes_eq i id) (due m l i) out ∙ sym (ap (λ b. cond b (bytes_eq key l) (due m l i)) out)
        ]
      where
        comes : (b : Bool) → (false || (true && (b && true))) ≡ b
        comes true = refl
        comes false = refl

        or_false : (b : Bool) → (b || false) ≡ b
        or_false true = refl
        or_false false = refl

        kept : (x y z w : Bool) → (x && z) ≡ false → (w || (x && (y && z))) ≡ w
        kept false y z w out = or_false w
        kept true false z w out = or_false w
        kept true true true w out = absurd (cc)
        kept true true false w out = or_false w

    pub entry_removed : (rows : List Row) → AreEntriesOf due rows → ((k : List ℕ) → due d k id ≡ is_key (Some key) k) → AreEntriesOf (with_key due d id None) (filter (λ r. not (is_entry_of d key id r)) rows)
    entry_removed rows h was = record {
      laid = entries-filter _ rows h.laid;
      exact = λ m l i. has-without d id key rows m l i ∙ ap (λ b. not (int_eq m d && (bytes_eq l key && bytes_eq i id)) && b) (h.exact m l i) ∙ removes was m l i;
    }

    pub entry_added : (rows : List Row) → AreEntriesOf due rows → ((k : List ℕ) → due d k id ≡ is_key None k) → AreEntriesOf (with_key due d id (Some key)) (with_cells rows (entry_cells d key id))
    entry_added rows h none = record {
      laid = entries-with d id key rows h.laid (h.exact d key id ∙ none key);
      exact = λ m l i. has-with d id key rows m l i ∙ ap (λ b. b || (int_eq d m && (bytes_eq key l && bytes_eq id i))) (h.exact m l i) ∙ adds none m l i;
    }
