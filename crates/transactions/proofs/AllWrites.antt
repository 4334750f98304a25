-- Writes of a database that are done together: what is told of them where more is known, after a look, and where they are not done.
use Rattle.transactions.proofs.Common.{Addition, AreDue, AsksInside, CommitFault, Database, Err, HasCleanDisk, HasWritten, Held, IsUnwritten, KeepsCommit, List, Ok, OnOk, Result, Row, Trees, arith, database_of_row, keeps_then, state, subst, sym, true, writings_in, ℕ, ℤ, ◌∙◌, ◌≡◌}
use Rattle.std.proofs.Common.{IfOk}
use Rattle.sqlite_trees.specs.declared.store.Store.{Ghosts}
use Rattle.tables.specs.Calls.{LooksInside}
use Rattle.index.proofs.Going.{if_err}
use Rattle.index.specs.Indexed.{IsIndexed}
use Rattle.transactions.proofs.Committing.{asks_then, unwritten_of}
use Rattle.transactions.specs.Commits.{KeepsOthers}
use Rattle.transactions.specs.Indexing.{IsIndexedStore, IsLeft, IsSoundIndexed}
use Rattle.transactions.specs.inner.Calls.{WritesAll, open_in}

module _ {S : Type 0} (g : Ghosts S) (all : List Addition) (db : ℤ) (sequence : ℕ) where
  abbrev pub Given : List ℕ → (Trees → Type 0) → Held S → Held S → Type 0
  Given name Known old new = IsSoundIndexed g (λ d. Known d.trees × AreDue all name db sequence d.trees) old new

  -- they are not done
  pub all_failed : {X : Type 0} (Known : Trees → Type 0) (Then : X → Trees → Type 0) (old new : Held S) (fault : CommitFault) (r : Result X CommitFault) → r ≡ Err fault → AsksInside (state g old) (state g new)
      → ((name : List ℕ) → HasCleanDisk (state g new) → IsIndexedStore (open_in g old) → Known (open_in g old).trees → AreDue all name db sequence (open_in g old).trees → KeepsCommit (state g old) (state g new))
      → ((name : List ℕ) → IsUnwritten (Given name Known old new) fault) → WritesAll g all db sequence Known Then old new r
  all_failed Known Then old new fault r is asks kept told =
      subst (WritesAll g all db sequence Known Then old new) (sym is)
      (record { done = λ name clean was known due. record { ok = tt; others = tt; kept = kept name clean was known due; inside = λ within. tt }; err = told; asks = asks })

  module _ {X Y : Type 0} (Known More : Trees → Type 0) (Then : X → Trees → Type 0) (Tells : Y → Trees → Type 0) (so : (trees : Trees) → More trees → Known trees) (old new : Held S) where
    -- the same where more is known, and other is told
    pub all_so : (x : X) (y : Y) → ((trees : Trees) → Then x trees → Tells y trees) → WritesAll g all db sequence Known Then old new (Ok x) → WritesAll g all db sequence More Tells old new (Ok y)
    all_so x y tells p = record {
      done = λ name clean was more due.
          let d = p.done name clean was (so _ more) due in
          record { ok = (d.ok.0, d.ok.1, tells _ d.ok.2); others = d.others; kept = d.kept; inside = d.inside };
      err = λ name. tt;
      asks = p.asks;
    }

    pub all_stop : (fault : CommitFault) (r : Result Y CommitFault) → r ≡ Err fault → WritesAll g all db sequence Known Then old new (Err fault) → WritesAll g all db sequence More Tells old new r
    all_stop fault r is p =
        all_failed More Tells old new fault r is p.asks (λ name clean was more due. (p.done name clean was (so _ more) due).kept)
        (λ name. unwritten_of (Given name Known old new) (Given name More old new) fault (λ it. (it.0, λ up. let had = it.1 up in (had.0, (so _ had.1.0, had.1.1)))) (p.err name))

  -- something was read before, which leaves the tables and tells more of them
  module _ {X : Type 0} (Known More : Trees → Type 0) (Then : X → Trees → Type 0) (old mid new : Held S) (asks : AsksInside (state g old) (state g mid)) (looks : LooksInside g old mid)
      (left : HasCleanDisk (state g mid) → IsIndexedStore (open_in g old) → IsLeft (state g old) (state g mid))
      (so : HasCleanDisk (state g mid) → IsIndexedStore (open_in g old) → More (open_in g old).trees → Known (open_in g old).trees) where
    -- what was done, of the tables as they were
    abbrev Done : List ℕ → Result X CommitFault → (d : Database) → Row → Type 0
    Done name r d row =
        IfOk r (λ x. HasWritten (writings_in (database_of_row d.trees row) all) name row d (open_in g new) × IsIndexed (open_in g new).trees × Then x (open_in g new).trees)
        × OnOk r (KeepsOthers db d (open_in g new)) × KeepsCommit (state g mid) (state g new) × ((state g mid).in_transaction ≡ true → OnOk r ((state g new).in_transaction ≡ true))

    pub all_after : (r : Result X CommitFault) → WritesAll g all db sequence Known Then mid new r → WritesAll g all db sequence More Then old new r
    all_after r p = record {
      done = λ name clean was more due.
          let mid-clean : HasCleanDisk (state g mid) = omega (arith, p.asks.survives.clean, clean) in
          let same = left mid-clean was in
          let d = subst (λ (d : Database). IsIndexedStore d → Known d.trees → (due : AreDue all name db sequence d.trees) → Done name r d due.row) same.now_is
          (λ was known due. let q = p.done name clean was known due in (q.ok, q.others, q.kept, q.inside)) was (so mid-clean was more) due in
          record {
            ok = d.0;
            others = d.1;
            kept = keeps_then (state g old) (state g mid) (state g new) ((looks was.store.schema_is).kept mid-clean) d.2;
            inside = λ within. d.3 (same.mode ∙ within);
          };
      err = λ name. if_err r
          (λ fault. unwritten_of (Given name Known mid new) (Given name More old new) fault
          (λ it. (
            it.0,
            λ up.
                let mid-clean : HasCleanDisk (state g mid) = omega (arith, p.asks.survives.clean, it.0) in
                let had = it.1 (asks.was_open mid-clean up) in
                subst (λ (d : Database). IsIndexedStore d × (Known d.trees × AreDue all name db sequence d.trees)) (sym (left mid-clean had.0).now_is) (had.0, (so mid-clean had.0 had.1.0, had.1.1)),
          ))) (p.err name);
      asks = asks_then (state g old) (state g mid) (state g new) asks p.asks;
    }
