-- Writes of a database that are done one after another in a transaction.
use Rattle.transactions.proofs.Common.{Addition, AreAcceptable, AreDue, AsksInside, CommitFault, Damaged, Database, Err, Error, HasBest, HasWritten, HistoryContent, IsAcceptable, IsWellFormed, IsLawfulAddition, IsPermutation, IsRead, IsRolledBack, IsStorable, IsStore, IsTrue, IsUnwritten, IsWrite, KeepsCommit, List, Memory, NoDatabase, Ok, OnErr, Proceeds, Result, Row, Some, State, StoreFault, Trees, [], addition_of, additions, ap, arith, bytes_eq-Decides, cond, contents_in, database_of_row, document_after, drop, filter, get_or, has_winner, history_at, history_in_rows, history_shown, history_with, inl, inr, is_row_of_document, lawful_by_one, length, length-append, length-map, length-take, sequence_of_database, map, map-append, number_of, pos, refl, revs_tree, row_after, shown_revision, subst, suc, sym, take, take-append-drop, take_more, true, with_addition, with_all, with_one, writings_in, writings_in-append, written_at, written_in, ℕ, ℤ, ∥∥₁_elim, ◌++◌, ◌+◌, ◌<◌, ◌^◌, ◌∙◌, ◌∷◌, ◌≡◌}
use Rattle.std.proofs.Math.Bool.{Bool-set}
use Rattle.std.proofs.Math.Seq.{drop-cons}
use Rattle.std.specs.FinMap as finite
use Rattle.std.specs.Prelude.{bytes_eq}
use Rattle.sqlite.specs.Steps.{FailsToCommit}
use Rattle.sqlite.proofs.StateLemmas.{survives_then}
use Rattle.store.specs.Lawful.{IsLawfulDatabase}
use Rattle.store.specs.Database as store
use Rattle.store.specs.declared.write.Write.{Write}
use Rattle.tables.proofs.DocumentWriteNews.{storable_addition}
use Rattle.tables.proofs.DocumentWrites.{acceptable_in_turn, one_more_written}
use Rattle.tables.proofs.Lookups.{database_there}
use Rattle.transactions.specs.inner.Following.{HasPlaceFor, Serves}
use Rattle.transactions.specs.Indexing.{IsFollowed, MayBeWritten, write_in}
use Rattle.transactions.specs.inner.Placed.{IsPlacedWrite}
use Rattle.transactions.proofs.IndexSteps.{written_still}
use Rattle.transactions.specs.declared.commit_fault.CommitFault.TheVariants as write
use Rattle.transactions.proofs.Following.{serves_itself}
use Rattle.transactions.proofs.HeldHistories.{known}
use Rattle.transactions.proofs.HistoryRows.{history_made}
use Rattle.tree.proofs.Shown.{inside}

-- ---- the history that is read

pub history_read : (trees : Trees) (db : ℤ) (id : List ℕ) (rows : List Row) (h : HistoryContent) → IsWellFormed trees → IsPermutation (map shown_revision (filter (is_row_of_document db id) (trees revs_tree))) rows → Some (history_shown rows) ≡ Some h → h ≡ history_in_rows (trees revs_tree) db id
history_read trees db id rows h l same is = sym (inside (history_shown rows) h is) ∙ history_made trees db id rows l same

-- the history of the same rows, by the same number and the same id
pub history_of : (revs : List Row) (n m : ℤ) (i j : List ℕ) (h : HistoryContent) → n ≡ m → i ≡ j → h ≡ history_in_rows revs n i → h ≡ history_in_rows revs m j
history_of revs n m i j h numbered named is = is ∙ ap (λ k. history_in_rows revs k i) numbered ∙ ap (history_in_rows revs m) named

-- what was not read was not intact, or memory ran out
pub lost : {A : Type 0} (said : A) (intact sound : Type 0) (fault : StoreFault) → IsRead {X = A} (λ v. v) (Some said) intact (Err fault) → (sound → intact) → IsUnwritten sound (write.Store fault)
lost said intact sound Memory h k = tt
lost said intact sound Damaged h k = λ s. h (k s)
lost said intact sound NoDatabase h k = absurd (cc)
lost said intact sound fault h k = absurd h

-- a refusal tells the same of what another fact follows from
pub unwritten_of : (sound other : Type 0) (fault : CommitFault) → (other → sound) → IsUnwritten sound fault → IsUnwritten other fault
unwritten_of sound other (write.Sqlite e) f h = tt
unwritten_of sound other (write.Store Memory) f h = tt
unwritten_of sound other (write.Store Damaged) f h = λ o. h (f o)
unwritten_of sound other (write.Store fault) f h = absurd h

-- ---- a transaction

pub asks_itself : (a : State) → AsksInside a a
asks_itself a = record {
  was_open = λ clean up. up;
  survives = record { clean = omega arith; shield = λ h. h; counts = omega arith; limit = refl; closes = λ clean up. inl up; crash = λ clean db may. inl may };
}

pub asks_then : (a b c : State) → AsksInside a b → AsksInside b c → AsksInside a c
asks_then a b c p q = record {
  was_open = λ clean up. p.was_open (omega (arith, q.survives.clean, clean)) (q.was_open clean up);
  survives = survives_then a b c _ _ (λ _. ⊥) (λ _ db none. none) (λ _ db none. none) p.survives q.survives;
}

pub asks_changed : (a b : State) → Proceeds a b → AsksInside a b
asks_changed a b p = record { was_open = λ clean up. (p.kept clean).was_open up; survives = p.survives }

pub on_err : {X F P : Type 0} (r : Result X F) → P → OnErr r P
on_err (Ok x) p = tt
on_err (Err e) p = p

-- a transaction that is undone leaves what was committed before it, and so does one that is not committed
module _ (a b c : State) (first : Database) (same : a.committed ≡ first) (kept : KeepsCommit a b) where
  pub undone_then : IsRolledBack b c → IsTrue c.is_open → (c.now ≡ first) × (c.committed ≡ first)
  undone_then back up =
      let was = kept.committed (back.was_open up) in
      ((back.undone up).0 ∙ was ∙ same, (back.undone up).1 ∙ was ∙ same)

  pub refused_then : (e : Error) → b.in_transaction ≡ true → FailsToCommit b c e → IsTrue c.is_open → (c.now ≡ first) × (c.committed ≡ first)
  refused_then e inside (inl failed) up = undone_then failed.3 up
  refused_then e inside (inr ended) up = absurd (cc)

-- ---- one write more

-- the write of a document by a history that serves, over the rows as they were
pub document_written : (db sequence : ℤ) (a : Addition) (k : HistoryContent) (old mid new : Database) → mid ≡ old → IsStore old → Serves a (history_in_rows (old.trees revs_tree) db a.id) k
    → (IsStore mid → Serves a (history_in_rows (mid.trees revs_tree) db a.id) k → IsPlacedWrite db sequence (written_in (history_in_rows (mid.trees revs_tree) db a.id) a) mid new)
    → IsPlacedWrite db sequence (written_in (history_in_rows (old.trees revs_tree) db a.id) a) old new
document_written db sequence a k old mid new same store serves writes =
    let Is : Database → Type 0 = λ d. IsStore d → Serves a (history_in_rows (d.trees revs_tree) db a.id) k → IsPlacedWrite db sequence (written_in (history_in_rows (d.trees revs_tree) db a.id) a) d new in
    subst Is same writes store serves

-- a history that is the document's own serves
pub own_serves : (a : Addition) (h k : HistoryContent) → k ≡ h → Serves a h k
own_serves a h k is = subst (Serves a h) (sym is) (serves_itself a h)

pub length-writings_in : (db : store.Database) (all : List Addition) → length (writings_in db all) ≡ length all
length-writings_in db [] = refl
length-writings_in db (a ∷ all) = ap suc (length-writings_in (with_one db (written_at db a)) all)

pub one_more : (all before more : List Addition) (a : Addition) (name : List ℕ) (r : Row) (old mid new : Database) → all ≡ before ++ a ∷ more → AreAcceptable (database_of_row old.trees r) (writings_in (database_of_row old.trees r) all)
    → sequence_of_database r + length all < 2 ^ 63 → HasWritten (writings_in (database_of_row old.trees r) before) name r old mid → IsLawfulAddition a
    → (HasPlaceFor (history_in_rows (mid.trees revs_tree) (number_of r) a.id) a → IsWrite (row_after r (length before)) (written_in (history_in_rows (mid.trees revs_tree) (number_of r) a.id) a) mid new) → HasWritten (writings_in (database_of_row old.trees r) (before ++ a ∷ [])) name r old new
one_more all before more a name r old mid new cut acceptable room h lawful write =
    let db = database_of_row old.trees r in
    let ws = writings_in db before in
    let count : length ws ≡ length before = length-writings_in db before in
    let same = known ws name r old mid a.id h in
    let w = written_at (with_all db ws) a in
    let storable : IsStorable w = subst (λ (k : HistoryContent). IsStorable (written_in k a)) same (storable_addition mid.trees (number_of r) a h.store.laid lawful.named lawful.text lawful.path lawful.body) in
    let turn = acceptable_in_turn ws db w (writings_in (with_one (with_all db ws) w) more) (subst (AreAcceptable db) (ap (writings_in db) cut ∙ writings_in-append db before (a ∷ more)) acceptable) in
    let size : length all ≡ length (before ++ a ∷ more) = ap length cut in
    let done : IsWrite (row_after r (length ws)) w mid new =
    subst (λ (n : ℕ). IsWrite (row_after r n) w mid new) (sym count) (subst (λ (k : HistoryContent). IsWrite (row_after r (length before)) (written_in k a) mid new) same (write (subst (λ (k : HistoryContent). HasPlaceFor k a) (sym same) turn.placed))) in
    subst (λ vs. HasWritten vs name r old new) (sym (writings_in-append db before (a ∷ [])))
    (one_more_written ws w name r old mid new h turn storable (omega (arith, count, size, length-append before (a ∷ more), room)) done)

pub further : (ws : List Write) (i : ℕ) (w : Write) (name : List ℕ) (db : ℤ) (sequence : ℕ) (old mid new : Database) → i < length ws → w ≡ get_or ws i w → sequence + length ws < 2 ^ 63
    → (due : AreDue (additions ws) name db sequence old.trees) → HasWritten (writings_in (database_of_row old.trees due.row) (additions (take i ws))) name due.row old mid → IsLawfulAddition (addition_of w)
    → IsWrite (row_after due.row (length (additions (take i ws)))) (written_in (history_in_rows (mid.trees revs_tree) (number_of due.row) (addition_of w).id) (addition_of w)) mid new
    → HasWritten (writings_in (database_of_row old.trees due.row) (additions (take (i + 1) ws))) name due.row old new
further ws i w name db sequence old mid new lt is room due h lawful write =
    let r = due.row in
    let a = addition_of w in
    let before = additions (take i ws) in
    let more = additions (drop (suc i) ws) in
    let cut : ws ≡ take i ws ++ w ∷ drop (suc i) ws = sym (take-append-drop i ws) ∙ ap (λ l. take i ws ++ l) (drop-cons ws i w lt ∙ ap (λ x. x ∷ drop (suc i) ws) (sym is)) in
    let all : additions ws ≡ before ++ a ∷ more = ap additions cut ∙ map-append addition_of (take i ws) (w ∷ drop (suc i) ws) in
    let grown : additions (take (i + 1) ws) ≡ before ++ a ∷ [] = ap additions (take_more ws i w lt ∙ ap (λ x. take i ws ++ x ∷ []) (sym is)) ∙ map-append addition_of (take i ws) (w ∷ []) in
    let size : length (additions ws) ≡ length ws = length-map ws addition_of in
    subst (λ all. HasWritten (writings_in (database_of_row old.trees r) all) name r old new) (sym grown)
    (one_more (additions ws) before more a name r old mid new all due.acceptable (omega (arith, due.counted, size, room)) h lawful (λ place. write))

-- the write may be done when its turn comes
pub may_in_turn : (ws : List Write) (i : ℕ) (w : Write) (name : List ℕ) (db : ℤ) (sequence : ℕ) (next : ℤ) (old mid : Database) → i < length ws → w ≡ get_or ws i w → sequence + length ws < 2 ^ 63 → next ≡ pos (sequence + i + 1)
    → (due : AreDue (additions ws) name db sequence old.trees) → HasWritten (writings_in (database_of_row old.trees due.row) (additions (take i ws))) name due.row old mid → MayBeWritten db next (addition_of w) mid
may_in_turn ws i w name db sequence next old mid lt is room at due h =
    let r = due.row in
    let a = addition_of w in
    let before = additions (take i ws) in
    let more = additions (drop (suc i) ws) in
    let cut : ws ≡ take i ws ++ w ∷ drop (suc i) ws = sym (take-append-drop i ws) ∙ ap (λ l. take i ws ++ l) (drop-cons ws i w lt ∙ ap (λ x. x ∷ drop (suc i) ws) (sym is)) in
    let all : additions ws ≡ before ++ a ∷ more = ap additions cut ∙ map-append addition_of (take i ws) (w ∷ drop (suc i) ws) in
    let count : length before ≡ i = omega (arith, length-map (take i ws) addition_of, length-take i ws, lt) in
    let number : sequence + i + 1 ≡ sequence_of_database r + length before + 1 = omega (arith, due.counted, count) in
    let first = database_of_row old.trees r in
    let done = writings_in first before in
    let same = known done name r old mid a.id h in
    let own = written_at (with_all first done) a in
    let turn = acceptable_in_turn done first own (writings_in (with_one (with_all first done) own) more) (subst (AreAcceptable first) (ap (writings_in first) all ∙ writings_in-append first before (a ∷ more)) due.acceptable) in
    record {
      row = row_after r (length before);
      numbered = sym due.numbered;
      at = at ∙ ap pos number;
      placed = subst (λ (k : HistoryContent). HasPlaceFor k a) (sym same) turn.placed;
      store = λ lawful written write. (further ws i w name db sequence old mid written lt is room due h lawful write).store;
    }

-- and when it was done and the index rows followed it, it is one of those that are done
pub further_followed : (ws : List Write) (i : ℕ) (w : Write) (name : List ℕ) (db : ℤ) (ids : List (List ℕ)) (sequence : ℕ) (next : ℤ) (old mid new : Database) (lt : i < length ws) (is : w ≡ get_or ws i w) (room : sequence + length ws < 2 ^ 63) (at : next ≡ pos (sequence + i + 1))
    → (due : AreDue (additions ws) name db sequence old.trees) (h : HasWritten (writings_in (database_of_row old.trees due.row) (additions (take i ws))) name due.row old mid) → IsLawfulAddition (addition_of w)
    → IsFollowed db ids (may_in_turn ws i w name db sequence next old mid lt is room at due h).row (write_in mid.trees (may_in_turn ws i w name db sequence next old mid lt is room at due h).row (addition_of w)) mid new
    → HasWritten (writings_in (database_of_row old.trees due.row) (additions (take (i + 1) ws))) name due.row old new
unfolding may_in_turn
further_followed ws i w name db ids sequence next old mid new lt is room at due h lawful followed =
    written_still _ name due.row old followed.written new (further ws i w name db sequence old mid followed.written lt is room due h lawful followed.write) followed.only

-- ---- the history of a write that may be done has a best revision

best_after : (db : store.Database) (a : Addition) → IsLawfulDatabase db → IsAcceptable db (written_at db a) → HasBest (with_addition (history_at db a.id) a)
best_after db a lawful ok =
    let w = written_at db a in
    let own : bytes_eq a.id a.id ≡ true = (bytes_eq-Decides a.id a.id).1 refl in
    let d : store.Document = record { sequence = db.length + 1; history = with_addition (history_at db a.id) a } in
    has_winner d.history
    ((lawful_by_one db w lawful ok).documents a.id d (document_after db w a.id ∙ ap (λ b. cond b (Some d) (finite.get db.documents a.id)) own))

pub has_best : (all before more : List Addition) (a : Addition) (name : List ℕ) (r : Row) (old mid : Database) → all ≡ before ++ a ∷ more → AreAcceptable (database_of_row old.trees r) (writings_in (database_of_row old.trees r) all)
    → HasWritten (writings_in (database_of_row old.trees r) before) name r old mid → HasBest (history_with mid.trees (number_of r) a)
has_best all before more a name r old mid cut acceptable h =
    let db = database_of_row old.trees r in
    let ws = writings_in db before in
    let then = with_all db ws in
    let same = known ws name r old mid a.id h in
    let w = written_at then a in
    let turn = acceptable_in_turn ws db w (writings_in (with_one then w) more) (subst (AreAcceptable db) (ap (writings_in db) cut ∙ writings_in-append db before (a ∷ more)) acceptable) in
    let there : finite.get (contents_in mid.trees) name ≡ Some then = database_there mid.trees h.store.laid name (row_after r (length ws)) h.row ∙ ap Some h.database in
    subst (λ (k : HistoryContent). HasBest (with_addition k a)) (sym same)
    (∥∥₁_elim h.store.laid.lawful (Bool-set _ _) (λ lawful. best_after then a (lawful name then there) turn))

pub best_in_turn : (ws : List Write) (i : ℕ) (w : Write) (name : List ℕ) (db : ℤ) (sequence : ℕ) (old mid : Database) → i < length ws → w ≡ get_or ws i w
    → (due : AreDue (additions ws) name db sequence old.trees) → HasWritten (writings_in (database_of_row old.trees due.row) (additions (take i ws))) name due.row old mid → HasBest (history_with mid.trees db (addition_of w))
best_in_turn ws i w name db sequence old mid lt is due h =
    let before = additions (take i ws) in
    let more = additions (drop (suc i) ws) in
    let cut : ws ≡ take i ws ++ w ∷ drop (suc i) ws = sym (take-append-drop i ws) ∙ ap (λ l. take i ws ++ l) (drop-cons ws i w lt ∙ ap (λ x. x ∷ drop (suc i) ws) (sym is)) in
    let all : additions ws ≡ before ++ addition_of w ∷ more = ap additions cut ∙ map-append addition_of (take i ws) (w ∷ drop (suc i) ws) in
    subst (λ n. HasBest (history_with mid.trees n (addition_of w))) due.numbered (has_best (additions ws) before more (addition_of w) name due.row old mid all due.acceptable h)
