-- A document is read, and then written; and then it may be read again, and the rows of indexes changed.
use Rattle.transactions.proofs.Common.{Addition, AsksInside, CommitFault, Database, Err, HasBest, HasCleanDisk, Held, HistoryContent, IfErr, IsHeldOpen, IsSound, IsStore, IsTrue, IsUnwritten, IsWrite, KeepsCommit, List, Ok, OnOk, Proceeds, Result, Row, ap, arith, history_with, keeps_then, number_of, pos, state, subst, sym, true, ℕ, ℤ, ⊤, ◌+◌, ◌∙◌, ◌≡◌}
use Rattle.std.specs.BTreeMap.{BTreeMap}
use Rattle.sqlite_trees.specs.declared.store.Store.{Ghosts}
use Rattle.tables.specs.Calls.{LooksInside}
use Rattle.tables.specs.Rows.{sequence_of_database}
use Rattle.index.proofs.Going.{if_err, on_ok}
use Rattle.transactions.proofs.Committing.{asks_changed, asks_then, unwritten_of}
use Rattle.transactions.proofs.IndexSteps.{on_done}
use Rattle.transactions.specs.Indexing.{IsSoundBut, MayBeWritten, write_in}
use Rattle.transactions.specs.inner.Calls.{Finds, IsOpenInside, OverStore, WritesByHeld, WritesFollowed, open_in}
use Rattle.transactions.specs.inner.Following.{HasPlaceFor}
use Rattle.transactions.specs.inner.Histories.{AreHeld, IsWithin, stored_history}
use Rattle.sqlite_trees.specs.Tree.{Trees}

module _ {S : Type 0} (g : Ghosts S) (before after : BTreeMap (List ℕ) HistoryContent) (db sequence : ℤ) (a : Addition) (first : Held S) where
  -- what is given of the tables, that they don't say once something is not written
  abbrev Given : List (List ℕ) → Held S → Type 0
  Given ids end = IsHeldOpen before (state g first) × IsSoundBut g db ids (λ d. AreHeld before db d.trees × HasBest (history_with d.trees db a) × MayBeWritten db sequence a d) first end

  -- an error may be told in another way
  pub followed_stop : {X Y : Type 0} (end : Held S) (fault : CommitFault) (r : Result Y CommitFault) → r ≡ Err fault → WritesFollowed g {X = X} db sequence a before after first end (Err fault) → WritesFollowed g db sequence a before after first end r
  followed_stop end fault r is p =
      subst (WritesFollowed g db sequence a before after first end) (sym is)
      (record { after = λ clean store held. tt; err = p.err; lawful = tt; inside = λ clean store held due. tt; kept = p.kept; served = λ clean. tt; asks = p.asks })

  -- a write alone is one that rows of indexes may follow
  pub followed_alone : {X : Type 0} (end : Held S) (r : Result X CommitFault) → WritesByHeld g db a before after first end r → WritesFollowed g db sequence a before after first end r
  followed_alone end r p = record {
    after = p.after;
    err = λ ids. if_err r
        (λ fault. unwritten_of (IsHeldOpen before (state g first) × IsSound g (λ trees. AreHeld before db trees × HasBest (history_with trees db a)) first end) (Given ids end) fault
        (λ it. (it.0, (it.1.0, λ up. let had = it.1.1 up in (had.0.store, (had.1.0, had.1.1)))))) p.err;
    lawful = p.lawful;
    inside = λ clean store held due. p.inside clean;
    kept = λ clean store held due. (p.looks store.schema_is).kept clean;
    served = λ clean. on_ok r (λ on. p.asks.was_open clean on.0) (p.inside clean);
    asks = p.asks;
  }

  -- a statement comes next that needs no tables to be fit
  pub followed_then : {X Y : Type 0} (mid end : Held S) (x : X) → WritesFollowed g db sequence a before after first mid (Ok x) → Proceeds (state g mid) (state g end) → (r : Result Y CommitFault)
      → (HasCleanDisk (state g end) → IsTrue (state g mid).is_open → (state g mid).in_transaction ≡ true → OnOk r (IsOpenInside g end)) → IfErr r (IsUnwritten ⊤) → WritesFollowed g db sequence a before after first end r
  followed_then mid end x p proceeds r goes_on told = record {
    after = λ clean store held. on_done r (p.after (was clean) store held);
    err = λ ids. if_err r (λ fault. unwritten_of ⊤ (Given ids end) fault (λ it. tt)) told;
    lawful = on_done r p.lawful;
    inside = λ clean store held due. let on = p.inside (was clean) store held due in goes_on clean on.0 on.1;
    kept = λ clean store held due. keeps_then (state g first) (state g mid) (state g end) (p.kept (was clean) store held due) (proceeds.kept clean);
    served = λ clean. on_done r (p.served (was clean));
    asks = asks_then (state g first) (state g mid) (state g end) p.asks (asks_changed (state g mid) (state g end) proceeds);
  }
    where
      was : HasCleanDisk (state g end) → HasCleanDisk (state g mid)
      was clean = omega (arith, proceeds.survives.clean, clean)

  -- what is read before the write fails
  pub read_failed : {Y Z : Type 0} {Next : Trees → Y → Type 0} (between : Held S) (fault : CommitFault) (r : Result Z CommitFault) → r ≡ Err fault → Finds g (λ _. ⊤) Next first between (Err fault) → WritesFollowed g db sequence a before after first between r
  read_failed between fault r is p =
      subst (WritesFollowed g db sequence a before after first between) (sym is)
      (record {
        after = λ clean store held. tt;
        err = λ ids. unwritten_of (IsSound g (λ _. ⊤) first between) (Given ids between) fault (λ it. (it.1.0, λ up. ((it.1.1 up).0.store, tt))) p.err;
        lawful = tt;
        inside = λ clean store held due. tt;
        kept = λ clean store held due. (p.looks store.schema_is).kept clean;
        served = λ clean. tt;
        asks = p.asks;
      })

  -- something is read before the write
  module _ {X : Type 0} {Any : Trees → Type 0} {Is : Trees → X → Type 0} {x : X} (between : Held S) (read : Finds g Any Is first between (Ok x)) where
    abbrev old : Database
    old = open_in g first

    module _ (last : Held S) (asks : AsksInside (state g between) (state g last)) where
      read_clean : HasCleanDisk (state g last) → HasCleanDisk (state g between)
      read_clean clean = omega (arith, asks.survives.clean, clean)

      same : HasCleanDisk (state g last) → IsStore old → open_in g between ≡ old
      same clean store = (read.stands store.schema_is (read_clean clean)).0.now_is

      write_kept : LooksInside g between last → HasCleanDisk (state g last) → IsStore old → KeepsCommit (state g first) (state g last)
      write_kept looks clean store =
          keeps_then (state g first) (state g between) (state g last) ((read.looks store.schema_is).kept (read_clean clean))
          ((looks (ap (λ (d : Database). d.schema) (same clean store) ∙ store.schema_is)).kept clean)

    -- the write fails
    pub write_failed : {Y Z : Type 0} (last : Held S) (fault : CommitFault) (r : Result Z CommitFault) → r ≡ Err fault → WritesByHeld g {X = Y} db a before after between last (Err fault) → WritesFollowed g db sequence a before after first last r
    write_failed last fault r is p =
        subst (WritesFollowed g db sequence a before after first last) (sym is)
        (record {
          after = λ clean store held. tt;
          err = λ ids.
              unwritten_of (IsHeldOpen before (state g between) × IsSound g (λ trees. AreHeld before db trees × HasBest (history_with trees db a)) between last) (Given ids last) fault
              (λ it.
              let was = read_clean last p.asks it.1.0 in
              let had = it.1.1 (read.served was) in
              let unchanged = (read.stands had.0.store.schema_is was).0 in
              (λ id h is. unchanged.is_open, (it.1.0, λ up. subst (λ (d : Database). IsStore d × (AreHeld before db d.trees × HasBest (history_with d.trees db a))) (sym unchanged.now_is) (had.0.store, (had.1.0, had.1.1))))) p.err;
          lawful = tt;
          inside = λ clean store held due. tt;
          kept = λ clean store held due. write_kept last p.asks p.looks clean store;
          served = λ clean. tt;
          asks = asks_then (state g first) (state g between) (state g last) read.asks p.asks;
        })

    -- the write is done
    module _ (last : Held S) (p : WritesByHeld g {X = Unit {0}} db a before after between last (Ok tt))
        (ok : (r : Row) → OverStore g between last (λ trees. AreHeld before db trees → HasPlaceFor (stored_history trees (number_of r) a.id) a → db ≡ number_of r → sequence ≡ pos (sequence_of_database r + 1)
        → IsWrite r (write_in trees r a) (open_in g between) (open_in g last))) where
      pub written_next : HasCleanDisk (state g last) → IsStore old → AreHeld before db old.trees → (due : MayBeWritten db sequence a old) → IsWrite due.row (write_in old.trees due.row a) old (open_in g last)
      written_next clean store held due =
          subst (λ (d : Database). IsStore d → AreHeld before db d.trees → HasPlaceFor (stored_history d.trees (number_of due.row) a.id) a → IsWrite due.row (write_in d.trees due.row a) d (open_in g last)) (same last p.asks clean store)
          (λ store held placed. ok due.row clean store held placed due.numbered due.at) store held due.placed

      pub left_next : HasCleanDisk (state g last) → IsStore old → AreHeld before db old.trees → MayBeWritten db sequence a old → IsStore (open_in g last)
      left_next clean store held due = due.store p.lawful (open_in g last) (written_next clean store held due)

      -- and then the document is read again
      pub followed_by : {Y : Type 0} {Next : Trees → Y → Type 0} (end : Held S) (r : Result Y CommitFault) → Finds g (λ _. ⊤) Next last end r → WritesFollowed g db sequence a before after first end r
      followed_by end r next = record {
        after = λ clean store held.
            on_done r
            (subst (λ (d : Database). IsStore d → AreHeld before db d.trees → IsWithin before a.id (history_with d.trees db a) after) (same last p.asks (was clean) store) (p.after (was clean)) store held);
        err = λ ids. if_err r
            (λ fault. unwritten_of (IsSound g (λ _. ⊤) last end) (Given ids end) fault
            (λ it.
            let clean = was it.1.0 in
            let had = it.1.1 (read.served (read_clean last p.asks clean)) in
            (it.1.0, λ up. (left_next clean had.0.store had.1.0 had.1.2, tt)))) next.err;
        lawful = on_done r p.lawful;
        inside = λ clean store held due.
            on_ok r (λ stands. (stands.0.is_open, stands.0.mode ∙ (p.inside (was clean)).1)) (next.stands (left_next (was clean) store held due).schema_is clean);
        kept = λ clean store held due.
            keeps_then (state g first) (state g last) (state g end) (write_kept last p.asks p.looks (was clean) store) ((next.looks (left_next (was clean) store held due).schema_is).kept clean);
        served = λ clean. on_done r (read.served (read_clean last p.asks (was clean)));
        asks = asks_then (state g first) (state g last) (state g end) (asks_then (state g first) (state g between) (state g last) read.asks p.asks) next.asks;
      }
        where
          was : HasCleanDisk (state g end) → HasCleanDisk (state g last)
          was clean = omega (arith, next.asks.survives.clean, clean)
