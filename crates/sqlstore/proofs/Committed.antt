-- What a store makes of writes that are committed together.
use Rattle.sqlstore.proofs.Common.{Addition, AreAcceptable, AreDue, CommitFault, Damaged, Database, Failed, Ghosts, HasCleanDisk, Held, IfThere, IsHeld, IsUnwritten, List, Memory, NumberValues, Some, StoreFault, Trees, WasStore, ap, arith, contents_in, database_of_row, length, numbers_in, state, subst, sym, writings_in, ℕ, ℤ, ∥∥₁_elim, ◌+◌, ◌<◌, ◌≤◌, ◌^◌, ◌≡◌}
use Rattle.std.specs.FinMap as finite
use Rattle.store.specs.Contents.{IsThereWith}
use Rattle.store.specs.Database as store
use Rattle.sqlstore.specs.inner.Causes.{IsJudged}
use Rattle.sqlstore.specs.inner.Commits.{IsToldAs, IsUncommitted}
use Rattle.transactions.specs.declared.commit_fault.CommitFault.TheVariants as write
use Rattle.sqlstore.proofs.Answering.{IsThere, failed_later}
use Rattle.transactions.proofs.Committing.{length-writings_in}
use Rattle.sqlstore.proofs.Standing.{indexed_store}
use Rattle.transactions.specs.Indexing.{IsIndexedStore, IsSoundIndexed}

-- the same writes are due in the same rows
pub due_at : (all : List Addition) (name : List ℕ) (number : ℤ) (sequence : ℕ) (trees others : Trees) → trees ≡ others → AreDue all name number sequence others → AreDue all name number sequence trees
due_at all name number sequence trees others same due = subst (AreDue all name number sequence) (sym same) due

-- writes are due in a database that is found, where they are acceptable
pub due_there : (all : List Addition) (trees : Trees) (name : List ℕ) (k : NumberValues) → IsThere numbers_in trees name k → IfThere (finite.get (contents_in trees) name) (λ db. AreAcceptable db (writings_in db all)) → AreDue all name k.0 k.1 trees
due_there all trees name k t acceptable = record {
  row = t.row;
  first = t.first;
  numbered = ap (λ (v : NumberValues). v.0) t.values;
  counted = ap (λ (v : NumberValues). v.1) t.values;
  acceptable = subst (λ o. IfThere o (λ db. AreAcceptable db (writings_in db all))) t.database acceptable;
}

-- a database that is found lacks the room that its sequence lacks
pub lacks_there : (all : List Addition) (trees : Trees) (name : List ℕ) (k : NumberValues) → IsThere numbers_in trees name k → ¬ (k.1 + length all < 2 ^ 63)
    → IsThereWith (finite.get (contents_in trees) name) (λ db. (d : store.Database) × (finite.get (contents_in trees) name ≡ Some d) × ¬ (d.length + length (writings_in db all) < 2 ^ 63))
lacks_there all trees name k t lacks =
    let db = database_of_row trees t.row in
    let count : db.length ≡ k.1 = ap (λ (v : NumberValues). v.1) t.values in
    subst (λ o. IsThereWith o (λ db. (d : store.Database) × (finite.get (contents_in trees) name ≡ Some d) × ¬ (d.length + length (writings_in db all) < 2 ^ 63))) (sym t.database)
    (db, t.database, λ room. lacks (omega (arith, room, count, length-writings_in db all)))

-- what a store tells, from why the writes were not done
pub told : (old new : ℕ) (sound honest : Type 0) (fault : CommitFault) (said : StoreFault) → IsUnwritten sound fault → IsToldAs old new fault said → (honest → ¬ ¬ sound) → IsUncommitted old new honest said
told old new sound honest (write.Sqlite e) said h judged is = judged_as said judged
  where
    judged_as : (f : StoreFault) → IsJudged old new f → IsUncommitted old new honest f
    judged_as Memory j = tt
    judged_as Failed j = j
    judged_as f j = absurd j
told old new sound honest (write.Store fault) said h same is = subst (IsUncommitted old new honest) (sym same) (read_as fault h)
  where
    read_as : (f : StoreFault) → IsUnwritten sound (write.Store f) → IsUncommitted old new honest f
    read_as Memory j = tt
    read_as Damaged j = λ now. is now j
    read_as f j = absurd j

module _ {S : Type 0} (g : Ghosts S) (Fits : Database → Type 0) (old new origin last : Held S) where
  -- a connection that is honest is sound, where the rows that the last change left are fit
  pub sound : (HasCleanDisk (state g new) → HasCleanDisk (state g old)) → IsHeld g old origin last → HasCleanDisk (state g new) → WasStore g origin → Fits (state g last).now → ¬ ¬ IsSoundIndexed g Fits old new
  sound was held clean is fits none =
      ∥∥₁_elim (held (was clean) is) (λ p q. absurd p)
      (λ h. none (clean, λ up. (subst IsIndexedStore (sym (h.now up)) (indexed_store h), subst Fits (sym (h.now up)) fits)))

-- what is told of writes that were not committed is so of an earlier count of faults
pub uncommitted_later : {S : Type 0} (g : Ghosts S) (a b c : ℕ) (honest : Type 0) (f : StoreFault) → a ≤ b → IsUncommitted b c honest f → IsUncommitted a c honest f
uncommitted_later g a b c honest Memory up h = h
uncommitted_later g a b c honest Failed up h = failed_later g a b c up h
uncommitted_later g a b c honest Damaged up h = h
uncommitted_later g a b c honest f up h = absurd h
