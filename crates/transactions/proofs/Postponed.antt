-- Design documents of a commit whose indexes follow them at its end.
use Rattle.transactions.proofs.Common.{Bool, Database, IsStore, List, Option, Some, [], ap, bytes_eq-Decides, false, history_in_rows, is_eq-slice_cmp, length, refl, revs_tree, subst, sym, true, ℕ, ℤ, ◌∙◌, ◌∷◌, ◌≡◌, ◌≢◌}
use Rattle.std.specs.Prelude.{◌&&◌, ◌||◌, bytes_eq, if◌then◌else◌}
use Rattle.std.specs.List.{list_any}
use Rattle.std.specs.BTreeSet.{insert_key}
use Rattle.std.specs.Cmp.Lexicographic.{slice_cmp}
use Rattle.std.specs.Ordering.{int_eq, is_eq, match_ordering, nat_cmp}
use Rattle.std.specs.declared.cmp.Ordering.{Ordering}
use Rattle.std.specs.declared.cmp.Ordering.TheVariants.{Equal, Greater, Less}
use Rattle.store.specs.Indexes.{index_fields_of, queried_document, winning_body}
use Rattle.tables.proofs.Common.{Decides-int_eq, and_from, and_parts, same_int}
use Rattle.tables.specs.Schema.{decls_tree}
use Rattle.index.proofs.Alike.{alike}
use Rattle.index.proofs.Designs.{none_fresh}
use Rattle.index.proofs.Rebuilt.{indexes_itself, indexes_then, rebuildable}
use Rattle.index.specs.Calls.{ChangesIndexes}
use Rattle.index.specs.Declaring.{IsRebuildable, IsRebuilt}
use Rattle.index.specs.Meaning.{Declarations, Documents, declared_if, declares_in, sees_in, with_declared}
use Rattle.index.specs.Rebuilding.{AreLeftUnfilled, IsDesignCleared, IsToDeclare}
use Rattle.index.specs.Rows.{declared_by}
use Rattle.index.specs.Shown.{Declared}
use Rattle.transactions.proofs.IndexSteps.{all_indexed, declared_by_winner, same_place, same_tables}
use Rattle.std.proofs.lemmas.List.{nil_from_length}
use Rattle.transactions.specs.Indexing.{IsIndexedBut, IsIndexedStoreBut, IsWithId, is_postponed}
use Rattle.transactions.specs.inner.Postponing.{AreClearedAsStored, AreDeclaredAsStored, AreToDeclare, IsCaughtUp, IsClearedAsStored, IsDeclaredAsStored, IsToDeclareAsStored, stored_fields}

-- ---- one id more

twice : (b c : Bool) → (b || c) ≡ (b || (b || c))
twice true c = refl
twice false c = refl

swapped : (a b c : Bool) → (a || (b || c)) ≡ (b || (a || c))
swapped true true c = refl
swapped true false c = refl
swapped false b c = refl

pub with_id : (x : List ℕ) (ids : List (List ℕ)) → IsWithId x ids (insert_key (slice_cmp nat_cmp) ids x)
with_id x [] other = refl
with_id x (y ∷ ys) other = by (slice_cmp nat_cmp x y) (is_eq-slice_cmp x y) (with_id x ys other)
  where
    by : (o : Ordering) → is_eq o ≡ bytes_eq x y → list_any (bytes_eq other) (insert_key (slice_cmp nat_cmp) ys x) ≡ (bytes_eq other x || list_any (bytes_eq other) ys)
        → list_any (bytes_eq other) (match_ordering o (x ∷ y ∷ ys) (y ∷ ys) (y ∷ insert_key (slice_cmp nat_cmp) ys x)) ≡ (bytes_eq other x || (bytes_eq other y || list_any (bytes_eq other) ys))
    by Less same more = refl
    by Equal same more =
        let is : y ≡ x = sym ((bytes_eq-Decides x y).0 (sym same)) in
        twice (bytes_eq other y) (list_any (bytes_eq other) ys) ∙ ap (λ b. b || (bytes_eq other y || list_any (bytes_eq other) ys)) (ap (bytes_eq other) is)
    by Greater same more = ap (λ b. bytes_eq other y || b) more ∙ swapped (bytes_eq other y) (bytes_eq other x) (list_any (bytes_eq other) ys)

-- ---- one design document, whose body is read

module _ (declares : Declarations) (sees : Documents) (db : ℤ) (bytes id : List ℕ) (f g : List ℕ → Option (List (List ℕ))) (named : bytes ≡ id) (same : (n : List ℕ) → f n ≡ g n) where
  pub cleared_as : (a b : Database) → IsDesignCleared declares sees db bytes f a b → IsDesignCleared declares sees db id g a b
  cleared_as a b h = subst (λ i. IsDesignCleared declares sees db i g a b) named (record { rebuilt = h.rebuilt; others = h.others; own = λ n has is. sym (same n) ∙ h.own n has is })

  pub to_declare_as : (fresh : List Declared) (b : Database) → IsToDeclare declares sees db id g fresh b → IsToDeclare declares sees db bytes f fresh b
  to_declare_as fresh b h = subst (λ i. IsToDeclare declares sees db i f fresh b) (sym named) (record { unfilled = h.unfilled; part = λ n has is. same n ∙ h.part n has is })

  pub left_as : (fresh : List Declared) (a b : Database) → AreLeftUnfilled (with_declared declares db bytes f) sees db fresh a b → AreLeftUnfilled (with_declared declares db id g) sees db fresh a b
  left_as fresh a b h =
      let now = h.now in
      record {
        now = record {
          store = now.store;
          decls = now.decls;
          declared = λ d o n. now.declared d o n ∙ ap (λ i. with_declared declares db i f d o n) named ∙ ap (λ (x : Option (List (List ℕ))). if (int_eq d db && bytes_eq o id) then x else declares d o n) (same n);
          rows = now.rows;
          numbers = now.numbers;
          entries = now.entries;
          seen = now.seen;
        };
        only = h.only;
      }

-- ---- what is stored stays as the rows of indexes change

pub stored_still : (a b : Database) → IsStore a → ChangesIndexes a b → (db : ℤ) (id name : List ℕ) → stored_fields db id b name ≡ stored_fields db id a name
stored_still a b store only db id name = ap (λ rows. declared_if (winning_body (history_in_rows rows db id)) name) (same_tables a b store.schema_is only).revs

-- one that is not left of several is not left of fewer, or is the one that is not left any more
left_by : {P : Type 0} (id x : List ℕ) (left : List (List ℕ)) → list_any (bytes_eq id) left ≡ false → (id ≡ x → P) → (bytes_eq id x ≡ false → list_any (bytes_eq id) (x ∷ left) ≡ false → P) → P
left_by {P} id x left out own other = by (bytes_eq id x) refl
  where
    by : (b : Bool) → bytes_eq id x ≡ b → P
    by true is = own ((bytes_eq-Decides id x).0 is)
    by false is = other is (ap (λ b. b || list_any (bytes_eq id) left) is ∙ out)

pub first_among : (x : List ℕ) (left : List (List ℕ)) → list_any (bytes_eq x) (x ∷ left) ≡ true
first_among x left = ap (λ b. b || list_any (bytes_eq x) left) ((bytes_eq-Decides x x).1 refl)

pub later_among : (id x : List ℕ) (left : List (List ℕ)) → list_any (bytes_eq id) left ≡ true → list_any (bytes_eq id) (x ∷ left) ≡ true
later_among id x left is = ap (λ b. bytes_eq id x || b) is ∙ by (bytes_eq id x)
  where
    by : (w : Bool) → (w || true) ≡ true
    by true = refl
    by false = refl

own_place : (db : ℤ) (id x : List ℕ) → bytes_eq id x ≡ false → (int_eq db db && bytes_eq id x) ≡ false
own_place db id x apart = ap (λ b. int_eq db db && b) apart ∙ by (int_eq db db)
  where
    by : (b : Bool) → (b && false) ≡ false
    by true = refl
    by false = refl

-- a design document that is none of these is another than one of these
beside : (db : ℤ) (ids : List (List ℕ)) (x : List ℕ) → list_any (bytes_eq x) ids ≡ true → (d : ℤ) (o : List ℕ) → is_postponed db ids d o ≡ false → (int_eq d db && bytes_eq o x) ≡ false
beside db ids x among d o out = by (int_eq d db && bytes_eq o x) refl
  where
    by : (b : Bool) → (int_eq d db && bytes_eq o x) ≡ b → b ≡ false
    by false is = refl
    by true is =
        let place = same_place db x d o is in
        let here : is_postponed db ids d o ≡ true = and_from (int_eq d db) (list_any (bytes_eq o) ids) (and_parts (int_eq d db) (bytes_eq o x) is).0 (ap (λ i. list_any (bytes_eq i) ids) place.1 ∙ among) in
        sym here ∙ out

-- ---- one after another is cleared

module _ (declares : Declarations) (sees : Documents) (db : ℤ) (ids : List (List ℕ)) where
  pub none_cleared : (a : Database) → IsRebuildable declares sees db a → AreClearedAsStored declares sees db ids ids a a
  none_cleared a fit = record {
    rebuilt = record { indexed = record { decls = fit.indexed.decls; declared = λ d o n. refl; entries = fit.indexed.entries }; only = indexes_itself a };
    others = λ d o n out. fit.indexed.declared d o n;
    own = λ id n among out has is. absurd (let no : true ≡ false = sym among ∙ out in cc);
  }

  pub cleared_next : (left : List (List ℕ)) (a b : Database) → IsRebuildable declares sees db a → AreClearedAsStored declares sees db ids left a b → IsRebuildable (declared_by (b.trees decls_tree)) sees db b
  cleared_next left a b fit made = rebuildable declares (declared_by (b.trees decls_tree)) sees db a b fit made.rebuilt

  pub cleared_one : (x : List ℕ) (left : List (List ℕ)) (a b c : Database) → list_any (bytes_eq x) ids ≡ true → IsRebuildable declares sees db a → AreClearedAsStored declares sees db ids (x ∷ left) a b
      → IsClearedAsStored (declared_by (b.trees decls_tree)) sees db x b c → AreClearedAsStored declares sees db ids left a c
  cleared_one x left a b c among fit first later = record {
    rebuilt = record { indexed = later.rebuilt.indexed; only = indexes_then a b c first.rebuilt.only later.rebuilt.only };
    others = λ d o n out. later.others d o n (beside db ids x among d o out) ∙ first.others d o n out;
    own = λ id n there out has is.
        left_by id x left out
        (λ same. ap (λ i. stored_fields db i a n) same ∙ sym (stored_still a b fit.store first.rebuilt.only db x n) ∙ later.own n has (ap (λ i. declared_by (c.trees decls_tree) db i n) (sym same) ∙ is))
        (λ apart before. first.own id n there before has (sym (later.others db id n (own_place db id x apart)) ∙ is));
  }

-- ---- one after another is declared

module _ (sees : Documents) (db : ℤ) (ids : List (List ℕ)) where
  pub none_declared_yet : (fresh : List Declared) (a : Database) → AreToDeclare sees db ids fresh a → AreDeclaredAsStored sees db ids ids fresh a a
  none_declared_yet fresh a fit = record {
    unfilled = fit.unfilled;
    only = indexes_itself a;
    others = λ d o n out. refl;
    waits = λ id n among has is. fit.part id n among has is;
    own = λ id n among out. absurd (let no : true ≡ false = sym among ∙ out in cc);
  }

  -- the next one may be declared
  pub declare_next : (x : List ℕ) (left : List (List ℕ)) (first fresh : List Declared) (a b : Database) → AreToDeclare sees db ids first a → AreDeclaredAsStored sees db ids (x ∷ left) fresh a b
      → IsToDeclareAsStored (declared_by (b.trees decls_tree)) sees db x fresh b
  declare_next x left first fresh a b fit made = record {
    unfilled = made.unfilled;
    part = λ n has is. stored_still a b fit.unfilled.store made.only db x n ∙ made.waits x n (first_among x left) has is;
  }

  pub declared_one : (x : List ℕ) (left : List (List ℕ)) (first fresh more : List Declared) (a b c : Database) → list_any (bytes_eq x) ids ≡ true → AreToDeclare sees db ids first a → AreDeclaredAsStored sees db ids (x ∷ left) fresh a b
      → IsDeclaredAsStored (declared_by (b.trees decls_tree)) sees db x more b c → AreDeclaredAsStored sees db ids left more a c
  declared_one x left first fresh more a b c among fit before later = record {
    unfilled = record {
      store = later.now.store;
      decls = later.now.decls;
      declared = λ d o n. refl;
      rows = later.now.rows;
      numbers = later.now.numbers;
      entries = later.now.entries;
      seen = later.now.seen;
    };
    only = indexes_then a b c before.only later.only;
    others = λ d o n out. other d o n (beside db ids x among d o out) ∙ before.others d o n out;
    waits = λ id n there has is. waiting id n there has is (bytes_eq id x) refl;
    own = λ id n there out.
        left_by id x left out
        (λ same. ap (λ i. declared_by (c.trees decls_tree) db i n) same ∙ own n ∙ stored x n ∙ ap (λ i. stored_fields db i a n) (sym same))
        (λ apart more. other db id n (own_place db id x apart) ∙ before.own id n there more);
  }
    where
      stored : (id n : List ℕ) → stored_fields db id b n ≡ stored_fields db id a n
      stored id n = stored_still a b fit.unfilled.store before.only db id n

      other : (d : ℤ) (o n : List ℕ) → (int_eq d db && bytes_eq o x) ≡ false → declared_by (c.trees decls_tree) d o n ≡ declared_by (b.trees decls_tree) d o n
      other d o n out = later.now.declared d o n ∙ ap (λ w. if w then stored_fields db x b n else declared_by (b.trees decls_tree) d o n) out

      own : (n : List ℕ) → declared_by (c.trees decls_tree) db x n ≡ stored_fields db x b n
      own n =
          later.now.declared db x n
          ∙ ap (λ w. if w then stored_fields db x b n else declared_by (b.trees decls_tree) db x n) (and_from (int_eq db db) (bytes_eq x x) ((Decides-int_eq db db).1 refl) ((bytes_eq-Decides x x).1 refl))

      waiting : (id n : List ℕ) → list_any (bytes_eq id) left ≡ true → (has : List (List ℕ)) → declared_by (c.trees decls_tree) db id n ≡ Some has → (w : Bool) → bytes_eq id x ≡ w → stored_fields db id a n ≡ Some has
      waiting id n there has is true here =
          let same : id ≡ x = (bytes_eq-Decides id x).0 here in
          sym (ap (λ i. declared_by (c.trees decls_tree) db i n) same ∙ own n ∙ stored x n ∙ ap (λ i. stored_fields db i a n) (sym same)) ∙ is
      waiting id n there has is false apart = before.waits id n (later_among id x left there) has (sym (other db id n (own_place db id x apart)) ∙ is)

-- ---- all of them

module _ (db : ℤ) (ids : List (List ℕ)) (a : Database) (fit : IsIndexedStoreBut db ids a) where
  pub postponed_rebuildable : IsRebuildable (declared_by (a.trees decls_tree)) (sees_in a.trees) db a
  postponed_rebuildable = record { store = fit.store; indexed = fit.indexed.indexed; seen = λ id. refl }

  module _ (b : Database) (made : AreClearedAsStored (declared_by (a.trees decls_tree)) (sees_in a.trees) db ids [] a b) where
    pub all_to_declare : AreToDeclare (sees_in a.trees) db ids [] b
    all_to_declare =
        let fit_b = rebuildable (declared_by (a.trees decls_tree)) (declared_by (b.trees decls_tree)) (sees_in a.trees) db a b postponed_rebuildable made.rebuilt in
        record {
          unfilled = none_fresh (declared_by (b.trees decls_tree)) (sees_in a.trees) db b fit_b;
          part = λ id n among has is. stored_still a b fit.store made.rebuilt.only db id n ∙ made.own id n among refl has is;
        }

    -- once they are filled, the index rows are those of what is stored
    pub caught_up : (fresh : List Declared) (c e : Database) → AreDeclaredAsStored (sees_in a.trees) db ids [] fresh b c → IsRebuilt (declared_by (c.trees decls_tree)) (sees_in a.trees) c e → IsCaughtUp a e
    caught_up fresh c e done got = record {
      indexed = alike (declared_by (c.trees decls_tree)) (sees_in a.trees) e.trees got.indexed (declares_in e.trees) (sees_in e.trees) (λ d o n. by d o n (is_postponed db ids d o) refl)
          (λ d id. ap (λ rows. queried_document id (history_in_rows rows d id)) (sym revs));
      only = only;
    }
      where
        only : ChangesIndexes a e
        only = indexes_then a b e made.rebuilt.only (indexes_then b c e done.only got.only)

        revs : e.trees revs_tree ≡ a.trees revs_tree
        revs = (same_tables a e fit.store.schema_is only).revs

        now : (d : ℤ) (o n : List ℕ) → declares_in a.trees d o n ≡ declares_in e.trees d o n
        now d o n = ap (λ rows. index_fields_of o (history_in_rows rows d o) n) (sym revs)

        by : (d : ℤ) (o n : List ℕ) (w : Bool) → is_postponed db ids d o ≡ w → declared_by (c.trees decls_tree) d o n ≡ declares_in e.trees d o n
        by d o n true is =
            let parts = and_parts (int_eq d db) (list_any (bytes_eq o) ids) is in
            let at = same_int d db parts.0 in
            ap (λ m. declared_by (c.trees decls_tree) m o n) at ∙ done.own o n parts.1 refl ∙ stored_still a b fit.store made.rebuilt.only db o n
            ∙ declared_by_winner o n (history_in_rows (a.trees revs_tree) db o) (winning_body (history_in_rows (a.trees revs_tree) db o)) (fit.indexed.designs o parts.1) refl ∙ ap (λ m. declares_in a.trees m o n) (sym at) ∙ now d o n
        by d o n false is = done.others d o n is ∙ made.others d o n is ∙ fit.indexed.declared d o n is ∙ now d o n

-- ---- none of them

-- where none waits nothing is done
pub none_waited : (db : ℤ) (ids : List (List ℕ)) (a : Database) → length ids ≡ 0 → IsIndexedStoreBut db ids a → IsCaughtUp a a
none_waited db ids a none fit = record { indexed = all_indexed db a.trees (subst (λ l. IsIndexedBut db l a.trees) (nil_from_length ids none) fit.indexed); only = indexes_itself a }

-- and where some wait they are not none
pub some_waited : (ids : List (List ℕ)) → (length ids ≡ 0 → ⊥) → ids ≢ []
some_waited ids some none = some (ap length none)
