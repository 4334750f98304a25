use Rattle.index.proofs.Common.{Bool, Entries, HasEntries, List, Ok, [], ap, arith, declared, entries_tree, length, map, not, refl, rules, state, true, false, without_numbers, ℕ, ℤ, ◌&&◌, ◌∙◌, ◌∷◌, ◌≡◌}
use Rattle.index.proofs.EntryChanges.{entries_as}
use Rattle.index.proofs.Going.{has_itself}
use Rattle.index.proofs.StepLemmas.{steps_none}
use Rattle.index.specs.Filling.{AreBare, numbers_of}
use Rattle.index.specs.Shown.{Declared}
use Rattle.index.proofs.filling.fill_indexes.Goals as goal

none_of : {A : Type 0} (xs : List A) → length xs ≡ 0 → xs ≡ []
none_of [] is = refl
none_of (x ∷ xs) is = absurd (omega (arith, is))

all_there : (due : Entries) (xs : List Declared) → xs ≡ [] → (m : ℤ) (k i : List ℕ) → without_numbers due (numbers_of xs) m k i ≡ due m k i
all_there due xs none m k i = ap (λ l. without_numbers due (numbers_of l) m k i) none ∙ go (due m k i)
  where
    go : (b : Bool) → (b && not false) ≡ b
    go true = refl
    go false = refl

pub returns-then-is_empty-clause-fills : goal.returns-then-is_empty-clause-fills
returns-then-is_empty-clause-fills g c due =
    let a = (state g.S.Store c.args.tx.now.conn.now).now in
    let size : length c.args.declarations.now ≡ 0 = search rules in
    let none : map declared c.args.declarations.now ≡ [] = ap (map declared) (none_of c.args.declarations.now size) in
    steps_none g.S.Store (AreBare c.args.db.now (map declared c.args.declarations.now) due) (HasEntries due) c.args.tx.now.conn.now (Ok tt)
    (λ fit. has_itself due a (entries_as (without_numbers due (numbers_of (map declared c.args.declarations.now))) due (a.trees entries_tree) (all_there due (map declared c.args.declarations.now) none) fit.entries)) tt
