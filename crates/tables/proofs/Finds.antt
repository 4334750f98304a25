-- What a query by tests on one table finds.
use Rattle.tables.proofs.Common.{AllByRecursion, Asks, AsksInside, Bool, Changes, Database, Err, Ghosts, HasCleanDisk, Held, IfOk, IsPermutation, IsPlain, IsTrue, IsUnchanged, List, Ok, OnOk, OnlyLooks, Proceeds, Ran, Reads, ReadsInside, Result, Row, Schema, Select, Shown, State, Term, Trees, [], eval_all, filter, holds, list_all, map, overlay, reads_as, state, subst, sym, understood, ℕ, ◌∷◌, ◌≡◌}
use Rattle.sqlite_schema.specs.declared.command.Command.{Command}
use Rattle.tables.specs.Calls.{Alters, Stays}
use Rattle.tables.proofs.Queries.{program_on, selects}
use Rattle.tables.proofs.Single.{HasOneAtMost, one_order}
use Rattle.tables.proofs.Writes.{IsCommand}
use Rattle.tables.specs.Schema as tables

plain_in : (text : List ℕ) (command : Command) → IsCommand tables.schema text command → (s : Schema) → s ≡ tables.schema → IsPlain (understood s text)
plain_in text command it s is = subst (λ x. IsPlain (understood x text)) (sym is) it.plain

-- a query whose text is one command at our schema reads, whatever it finds
module _ {S X E : Type 0} {IsFit : Database → Type 0} {Is : Trees → X → Type 0} (g : Ghosts S) (old new : Held S) {text : List ℕ} {command : Command}
    (it : IsCommand tables.schema text command) {r : Result X E} (items : X → List Row) {params given : Row}
    (means : IsFit (state g old).now → IfOk r (λ x. Shown text given (state g old) (state g new) (items x)) → IfOk r (Is (state g old).now.trees))
    (shows : HasCleanDisk (state g new) → IfOk r (λ x. Shown text params (state g old) (state g new) (items x))) (same : params ≡ given) (served : HasCleanDisk (state g new) → OnOk r (IsTrue (state g old).is_open))
    (stands : IsPlain (understood old.schema text) → HasCleanDisk (state g new) → OnOk r (IsUnchanged (state g old) (state g new))) where
  pub reads_of : (IsPlain (understood old.schema text) → OnlyLooks (state g old) (state g new)) → Asks (state g old) (state g new) → Reads g IsFit old new Is r
  reads_of looks asks = record {
    found = λ clean fit. means fit (subst (λ ps. IfOk r (λ x. Shown text ps (state g old) (state g new) (items x))) same (shows clean));
    served = served;
    stands = λ is. stands (plain_in text command it old.schema is);
    looks = λ is. looks (plain_in text command it old.schema is);
    asks = asks;
  }

  pub reads_inside : (IsPlain (understood old.schema text) → Proceeds (state g old) (state g new)) → AsksInside (state g old) (state g new) → ReadsInside g IsFit old new Is r
  reads_inside looks asks = record {
    found = λ clean fit. means fit (subst (λ ps. IfOk r (λ x. Shown text ps (state g old) (state g new) (items x))) same (shows clean));
    served = served;
    stands = λ is. stands (plain_in text command it old.schema is);
    looks = λ is. looks (plain_in text command it old.schema is);
    asks = asks;
  }

-- the rows that a query showed, by the values that it was given
pub shown_given : {X E : Type 0} (old new : State) (text : List ℕ) (params given : Row) (r : Result X E) (items : X → List Row) → IfOk r (λ x. Shown text params old new (items x)) → params ≡ given → IfOk r (λ x. Shown text given old new (items x))
shown_given old new text params given r items h same = subst (λ ps. IfOk r (λ x. Shown text ps old new (items x))) same h

-- a statement of a transaction alters one table
pub alters : {S X E : Type 0} {IsFit : List Row → Type 0} {change : List Row → List Row} {r : Result X E} {params given : Row} (g : Ghosts S) (old new : Held S) (tree : ℕ) (text : List ℕ)
    → (old.schema ≡ tables.schema → IsFit ((state g old).now.trees tree) → OnOk r (Ran text given (state g old) (state g new)) → OnOk r (Changes tree (change ((state g old).now.trees tree)) (state g old).now (state g new).now))
    → (old.schema ≡ tables.schema → OnOk r (Ran text params (state g old) (state g new)) → OnOk r (new.schema ≡ tables.schema))
    → (HasCleanDisk (state g new) → OnOk r (Ran text params (state g old) (state g new))) → params ≡ given → Stays g old new r → Proceeds (state g old) (state g new) → Alters g tree IsFit change old new r
alters {r = r} g old new tree text means stays ran equal within proceeds = record {
  ok = λ clean has fit. means has fit (subst (λ ps. OnOk r (Ran text ps (state g old) (state g new))) equal (ran clean));
  keeps = λ clean has. stays has (ran clean);
  inside = within;
  proceeds = proceeds;
}

-- what is made of an answer is told of it, and an error tells nothing
module _ {S X Y E : Type 0} {IsFit : Database → Type 0} {Is : Trees → X → Type 0} {IsOther : Trees → Y → Type 0} (g : Ghosts S) (old new : Held S) where
  pub reads_so : (x : X) (y : Y) → ((trees : Trees) → Is trees x → IsOther trees y) → Reads {E = E} g IsFit old new Is (Ok x) → Reads {E = E} g IsFit old new IsOther (Ok y)
  reads_so x y so h = record { found = λ clean fit. so _ (h.found clean fit); served = h.served; stands = h.stands; looks = h.looks; asks = h.asks }

  pub reads_nothing : (e : E) (r : Result Y E) → r ≡ Err e → Reads {X = X} g IsFit old new Is (Err e) → Reads g IsFit old new IsOther r
  reads_nothing e r is h = subst (Reads g IsFit old new IsOther) (sym is) (record { found = λ clean fit. tt; served = λ clean. tt; stands = λ has clean. tt; looks = h.looks; asks = h.asks })

module _ {X E : Type 0} (old new : State) (has : old.now.schema ≡ tables.schema) {text : List ℕ} {tree : ℕ} {tests shown : List Term} {names : List (List ℕ)}
    (command : IsCommand tables.schema text (Select (program_on tree tests shown []) names)) (params : Row) (p : Row → Bool) (show : Row → Row)
    (bare : overlay old.now.trees [] tree ≡ old.now.trees tree) (shows : (r : Row) → eval_all shown (params ∷ r ∷ []) ≡ show r)
    (passes : AllByRecursion (λ r. list_all (holds (params ∷ r ∷ [])) tests ≡ p r) (old.now.trees tree)) where
  -- the rows that pass, in some order
  pub finds_where : (r : Result X E) (items : X → List Row) → IfOk r (λ x. Shown text params old new (items x)) → IfOk r (λ x. IsPermutation (map show (filter p (old.now.trees tree))) (items x))
  finds_where (Err e) items h = tt
  finds_where (Ok x) items h =
      selects tests params p tree shown [] show old.now bare shows passes (items x)
      (reads_as text params old new tables.schema has (Select (program_on tree tests shown []) names) command.is command.plain command.unlisted (items x) h)

  -- one row at most
  pub finds_one : HasOneAtMost p (old.now.trees tree) → (r : Result X E) (items : X → List Row) → IfOk r (λ x. Shown text params old new (items x)) → IfOk r (λ x. items x ≡ map show (filter p (old.now.trees tree)))
  finds_one one (Err e) items h = tt
  finds_one one (Ok x) items h = one_order show p (old.now.trees tree) (items x) one (finds_where (Ok x) items h)
