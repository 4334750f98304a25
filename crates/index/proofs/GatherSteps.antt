-- Entries are gathered: those of a range in parts, and those of one row after another.
use Rattle.index.proofs.Common.{AsksInside, Bool, Database, Entries, Err, Error, Ghosts, HasCleanDisk, Held, IfErr, IndexFault, IsRefused, List, Ok, Result, Row, [], codes, drop, get_or, length, map, state, subst, sym, true, ℕ, ℤ, ◌+◌, ◌<◌, ◌||◌, ◌∙◌, ◌≡◌}
use Rattle.index.proofs.Beside.{beside_after}
use Rattle.index.proofs.Refusals.{refused_as, refused_then}
use Rattle.index.proofs.StepLemmas.{steps_failed, steps_so, steps_stop, steps_then, steps_well}
use Rattle.index.proofs.Going.{if_err}
use Rattle.index.proofs.ShownDeclarations.{refused_of}
use Rattle.index.proofs.ToGather.{first_gathered, first_range, is_behind, next_done, next_part, next_row, part_gathered, part_to_gather, range_done}
use Rattle.index.specs.Filling.{AreBare, numbers_of, without_ids}
use Rattle.index.specs.inner.Gathering.{AreToGather, AreToPut, Entry, HasEntriesBeside, IsToGather, IsToGatherRange, without_documents}
use Rattle.index.specs.inner.Seen.{IsCut, documents_between}
use Rattle.index.specs.Shown.{Declared}
use Rattle.index.specs.Steps.{AreFit, Steps}
use Rattle.index.specs.declared.fault.IndexFault.TheVariants as fault
use Rattle.tables.specs.Listings.{is_between}
use Rattle.tables.specs.Layout.{IsStore}
use Rattle.tables.specs.Rows.{id_of, listed_document}
use Rattle.tables.specs.Schema.{docs_tree}

-- ---- a part of a range, from the bound that was read

module _ {S X : Type 0} (g : Ghosts S) (db : ℤ) (xs : List Declared) (low high from bound : List ℕ) (left : List ℕ → Bool) (before now after : List Entry) (due : Entries) (a c e : Held S) (x : X)
    (inside : (i : List ℕ) → is_between from high i ≡ true → is_between low high i ≡ true) (cut : IsCut from high bound)
    (read : Steps {X = X} {E = IndexFault} g (IsToGatherRange db xs low high left before due) (HasEntriesBeside (without_documents due (numbers_of xs) (λ id. is_between from high id || left id)) now) a c (Ok x))
    (start : List ℕ) (start_is : start ≡ from) (stop : List ℕ) (stop_is : stop ≡ bound) where
  abbrev F : Database → Type 0
  F = IsToGatherRange db xs low high left before due

  abbrev Made : Database → Database → Type 0
  Made = HasEntriesBeside (without_documents due (numbers_of xs) (λ id. is_between from high id || left id)) now

  abbrev rest : List ℕ → Bool
  rest id = is_between bound high id || left id

  abbrev Left : Database → Database → Type 0
  Left = HasEntriesBeside (without_documents due (numbers_of xs) rest) after

  -- what is promised of the call that gathers the part
  abbrev Gathers : Result (Unit {0}) IndexFault → Type 0
  Gathers r = Steps g (IsToGatherRange db xs start stop rest now due) Left c e r

  pub next_gathered : (r : Result (Unit {0}) IndexFault) → Gathers r → Steps g F Left a e r
  next_gathered r p =
      part_gathered g db xs low high from bound left before now due a c c {E = IndexFault} after e x r inside cut read
      (subst (λ f. Steps g (IsToGatherRange db xs f bound rest now due) Left c e r) start_is (subst (λ h. Steps g (IsToGatherRange db xs start h rest now due) Left c e r) stop_is p))

  pub part_failed : (why : IndexFault) (r : Result (Unit {0}) IndexFault) → r ≡ Err why → Gathers (Err why) → Steps g F (HasEntriesBeside (without_documents due (numbers_of xs) left) after) a e r
  part_failed why r is p = steps_stop g {X = Unit {0}} F Left (HasEntriesBeside (without_documents due (numbers_of xs) left) after) a e why why r is (next_gathered (Err why) p)

  pub part_refused : (why : IndexFault) (r : Result (Unit {0}) IndexFault) → r ≡ Err why → AsksInside (state g c) (state g e) → IsRefused (AreFit g (IsToGatherRange db xs start stop rest now due) c e) why → IfErr r (IsRefused (AreFit g F a e))
  part_refused why r is asks err =
      refused_as (AreFit g F a e) r why is
      (refused_then g F (IsToGatherRange db xs start stop rest now due) Made a c e x why read asks
      (λ was fit made.
      subst (λ f. IsToGatherRange db xs f stop rest now due (state g c).now) (sym start_is)
      (subst (λ h. IsToGatherRange db xs from h rest now due (state g c).now) (sym stop_is) (next_part db xs low high from bound left before now due (state g a).now (state g c).now fit inside cut made))) err)

  pub range_ended : bound ≡ high → Gathers (Ok tt) → Steps {X = Unit {0}} {E = IndexFault} g F (HasEntriesBeside (without_documents due (numbers_of xs) left) after) a e (Ok tt)
  range_ended end p =
      steps_so g F Left (HasEntriesBeside (without_documents due (numbers_of xs) left) after) a e (Ok tt) (next_gathered (Ok tt) p)
      (λ fit made. range_done due (numbers_of xs) high bound left after (state g a).now (state g e).now end made)

-- ---- a row after others

module _ {S : Type 0} (g : Ghosts S) (db : ℤ) (xs : List Declared) (rows docs : List Row) (before now : List Entry) (due : Entries) (i : ℕ) (s : Row) (below : i < length rows) (is : s ≡ get_or rows i s) (a b c : Held S)
    (so_far : Steps {X = Unit {0}} {E = IndexFault} g (AreToGather db xs rows docs before due) (HasEntriesBeside (without_ids due (numbers_of xs) (map id_of (drop i docs))) now) a b (Ok tt)) (more : List Entry) where
  abbrev Fit : Database → Type 0
  Fit = AreToGather db xs rows docs before due

  abbrev Done : Database → Database → Type 0
  Done = HasEntriesBeside (without_ids due (numbers_of xs) (map id_of (drop i docs))) now

  abbrev later : Entries
  later = without_ids due (numbers_of xs) (map id_of (drop (i + 1) docs))

  abbrev One : Database → Type 0
  One = IsToGather db xs s (get_or docs i []) now later

  gathers_next : HasCleanDisk (state g b) → Fit (state g a).now → Done (state g a).now (state g b).now → One (state g b).now
  gathers_next was fit made = next_row db xs rows docs before now due i s below is (state g a).now (state g b).now fit made

  pub row_failed : (why : IndexFault) (r : Result (Unit {0}) IndexFault) → r ≡ Err why → Steps {X = Unit {0}} g One (HasEntriesBeside later more) b c (Err why) → Steps g Fit (HasEntriesBeside due more) a c r
  row_failed why r failed p = steps_failed g Fit One Done (HasEntriesBeside later more) (HasEntriesBeside due more) a b c tt why why r failed so_far p gathers_next

  pub row_refused : (why : IndexFault) (r : Result (Unit {0}) IndexFault) → r ≡ Err why → AsksInside (state g b) (state g c) → IsRefused (AreFit g One b c) why → IfErr r (IsRefused (AreFit g Fit a c))
  row_refused why r failed asks err = refused_as (AreFit g Fit a c) r why failed (refused_then g Fit One Done a b c tt why so_far asks gathers_next err)

  -- and then what is gathered is put in, where it is much
  module _ (gathers : Steps {X = Unit {0}} {E = IndexFault} g One (HasEntriesBeside later more) b c (Ok tt)) (after : List Entry) (e : Held S) where
    gathered : Steps {X = Unit {0}} {E = IndexFault} g Fit (HasEntriesBeside later more) a c (Ok tt)
    gathered =
        steps_then g {E = IndexFault} Fit One Done (HasEntriesBeside later more) (HasEntriesBeside later more) a b c tt (Ok tt) so_far gathers gathers_next
        (λ was fit made got. next_done db xs rows docs before now due i s below is (state g a).now (state g b).now fit made more (state g c).now got)

    puts_next : HasCleanDisk (state g c) → Fit (state g a).now → HasEntriesBeside later more (state g a).now (state g c).now → AreToPut later more (state g c).now
    puts_next was fit made = record { schema_is = made.only.schema ∙ fit.store.schema_is; entries = made.entries }

    pub row_put : Steps {X = Unit {0}} {E = Error} g (AreToPut later more) (HasEntriesBeside later after) c e (Ok tt) → Steps {X = Unit {0}} {E = IndexFault} g Fit (HasEntriesBeside later after) a e (Ok tt)
    row_put p =
        steps_then g {E = IndexFault} Fit (AreToPut later more) (HasEntriesBeside later more) (HasEntriesBeside later after) (HasEntriesBeside later after) a c e tt (Ok tt) gathered
        (steps_well g (AreToPut later more) (HasEntriesBeside later after) c e tt tt p) puts_next (λ was fit made got. beside_after later after (state g a).now (state g c).now (state g e).now made.only got)

    pub putting_failed : (why : Error) (r : Result (Unit {0}) IndexFault) → r ≡ Err (fault.Sqlite why) → Steps {X = Unit {0}} g (AreToPut later more) (HasEntriesBeside later after) c e (Err why) → Steps g Fit (HasEntriesBeside due after) a e r
    putting_failed why r failed p =
        steps_failed g Fit (AreToPut later more) (HasEntriesBeside later more) (HasEntriesBeside later after) (HasEntriesBeside due after) a c e tt why (fault.Sqlite why) r failed gathered p puts_next

-- ---- the rows of a part that were read

module _ {S X : Type 0} (g : Ghosts S) (db : ℤ) (xs : List Declared) (low high : List ℕ) (left : List ℕ → Bool) (before : List Entry) (due : Entries) (a b c : Held S) (x : X)
    (reads : Steps {X = X} {E = Error} g (IsToGatherRange db xs low high left before due) (λ p q. q ≡ p) a b (Ok x)) (rows : List Row)
    (found : HasCleanDisk (state g b) → IsStore (state g a).now → rows ≡ map listed_document (documents_between db low high ((state g a).now.trees docs_tree))) where
  abbrev Range : Database → Type 0
  Range = IsToGatherRange db xs low high left before due

  abbrev other : Entries
  other = without_documents due (numbers_of xs) left

  abbrev Rows : Database → Type 0
  Rows = AreToGather db xs rows (documents_between db low high ((state g a).now.trees docs_tree)) before other

  rows_next : HasCleanDisk (state g b) → Range (state g a).now → (state g b).now ≡ (state g a).now → Rows (state g b).now
  rows_next was fit same = subst Rows (sym same) (part_to_gather db xs low high left before due (state g a).now fit rows (found was fit.store))

  pub rows_gathered : (after : List Entry) (r : Result (Unit {0}) IndexFault) → Steps g Rows (HasEntriesBeside other after) b c r → Steps g Range (HasEntriesBeside other after) a c r
  rows_gathered after r p =
      steps_then g {E = Error} Range Rows (λ p q. q ≡ p) (HasEntriesBeside other after) (HasEntriesBeside other after) a b c x r reads p rows_next
      (λ was fit same got. subst (λ z. HasEntriesBeside other after z (state g c).now) same got)

  pub rows_refused : (r : Result (Unit {0}) IndexFault) → AsksInside (state g b) (state g c) → IfErr r (IsRefused (AreFit g Rows b c)) → IfErr r (IsRefused (AreFit g Range a c))
  rows_refused r asks err = if_err r (λ e. refused_then g {E = Error} Range Rows (λ p q. q ≡ p) a b c x e reads asks rows_next) err

-- ---- the range before design documents, which comes first

module _ {S : Type 0} (g : Ghosts S) (db : ℤ) (xs : List Declared) (due : Entries) (start : List Entry) (none : start ≡ []) (a b : Held S) where
  abbrev Before : List Entry → Database → Type 0
  Before l = IsToGatherRange db xs [] (codes "_d") is_behind l due

  pub first_from : (one : List Entry) (r : Result (Unit {0}) IndexFault) → Steps g (Before start) (HasEntriesBeside (without_documents due (numbers_of xs) is_behind) one) a b r
      → Steps g (AreBare db xs due) (HasEntriesBeside (without_documents due (numbers_of xs) is_behind) one) a b r
  first_from one r p = first_gathered g db xs due one a b r (subst (λ l. Steps g (Before l) (HasEntriesBeside (without_documents due (numbers_of xs) is_behind) one) a b r) none p)

  pub first_refused : (why : IndexFault) (r : Result (Unit {0}) IndexFault) → r ≡ Err why → IsRefused (AreFit g (Before start) a b) why → IfErr r (IsRefused (AreFit g (AreBare db xs due) a b))
  first_refused why r is err =
      refused_as (AreFit g (AreBare db xs due) a b) r why is
      (refused_of (AreFit g (Before start) a b) (AreFit g (AreBare db xs due) a b) why (λ it. (it.0, subst (λ l. Before l (state g a).now) (sym none) (first_range db xs due (state g a).now it.1))) err)
