-- What the statements that count the rows of a table find.
use Rattle.tables.proofs.Common.{IfOk, List, None, Null, Result, Row, Select, Shown, State, Trees, [], all_of, arith, inl, inr, lit, codes, everything, false, filter_all, length, sym, refl, schema, subst, true, understood, ℕ, ◌∷◌, ◌≡◌}
use Rattle.std.specs.Prelude.{slice_index_or, suc, zero, ◌<◌}
use Rattle.sqlite_sql.specs.Group.{Aggregate, value_over}
use Rattle.sqlite_sql.specs.Program.{ProgramOverflows}
use Rattle.sqlite_sql.specs.declared.aggregate.AggregateOp.TheVariants.{CountRows}
use Rattle.sqlite_value.specs.declared.keys.Collation.TheVariants.{Binary}
use Rattle.tables.proofs.Counts.{count_program, counts}
use Rattle.file_check.proofs.Refused.{IsAsked, IsWhole}
use Rattle.tables.proofs.Writes.{IsCommand}
use Rattle.tables.specs.Listings.{shown_count}
use Rattle.file_check.proofs.WalkStatements.{uncovered}
use Rattle.file_check.specs.inner.Counted.{HasOurSchema, count_statement, counted_tree}
use Rattle.file_check.specs.declared.counting.Counted.{Counted}
use Rattle.file_check.specs.declared.counting.Counted.TheVariants.{Databases, Documents, Revisions, Locals, Declarations, Entries}

-- this statement counts the rows of this tree
abbrev pub Means : List ℕ → ℕ → Type 0
Means text tree = IsCommand schema text (Select (count_program tree []) (codes "count(*)" ∷ []))

-- the statement of each table counts its rows
count_means : (table : Counted) → Means (count_statement table) (counted_tree table)
unfolding understood everything
count_means Databases = record { is = refl; plain = (refl, refl); unlisted = refl }
count_means Documents = record { is = refl; plain = (refl, refl); unlisted = refl }
count_means Revisions = record { is = refl; plain = (refl, refl); unlisted = refl }
count_means Locals = record { is = refl; plain = (refl, refl); unlisted = refl }
count_means Declarations = record { is = refl; plain = (refl, refl); unlisted = refl }
count_means Entries = record { is = refl; plain = (refl, refl); unlisted = refl }

-- a count is no sum, so it never is too great
abbrev one_count : Aggregate
one_count = record { op = CountRows; distinct = false; collation = Binary; argument = lit Null }

one_alone : (i : ℕ) (a : Aggregate) → i < 1 → slice_index_or (one_count ∷ []) i a ≡ a → one_count ≡ a
one_alone zero a below is = is
one_alone (suc i) a below is = absurd (omega (arith, below))

uncounted : (tree : ℕ) (trees : Trees) → ¬ (ProgramOverflows trees [] [] [] (count_program tree []).body)
uncounted tree trees (inl (groups, grouping, (k, group, within, at, (i, a, below, is, none)))) = absurd (let never = subst (λ b. value_over group b ≡ None) (sym (one_alone i a below is)) none in cc)
uncounted tree trees (inr some) = some.4

asked_with : (table : Counted) → IsWhole (count_statement table) 0 (understood schema (count_statement table))
unfolding understood everything
asked_with Databases = (refl, refl)
asked_with Documents = (refl, refl)
asked_with Revisions = (refl, refl)
asked_with Locals = (refl, refl)
asked_with Declarations = (refl, refl)
asked_with Entries = (refl, refl)

-- each count is asked as it is to be
count_asked : (table : Counted) → IsAsked (count_statement table) (count_program (counted_tree table) []) []
count_asked Databases = record { whole = asked_with Databases; typed = refl; unsummed = uncounted (counted_tree Databases) }
count_asked Documents = record { whole = asked_with Documents; typed = refl; unsummed = uncounted (counted_tree Documents) }
count_asked Revisions = record { whole = asked_with Revisions; typed = refl; unsummed = uncounted (counted_tree Revisions) }
count_asked Locals = record { whole = asked_with Locals; typed = refl; unsummed = uncounted (counted_tree Locals) }
count_asked Declarations = record { whole = asked_with Declarations; typed = refl; unsummed = uncounted (counted_tree Declarations) }
count_asked Entries = record { whole = asked_with Entries; typed = refl; unsummed = uncounted (counted_tree Entries) }

module _ (text : List ℕ) (table : Counted) (is : text ≡ count_statement table) where
  pub text_means : Means text (counted_tree table)
  text_means = subst (λ t. Means t (counted_tree table)) (sym is) (count_means table)

  pub text_asked : IsAsked text (count_program (counted_tree table) []) []
  text_asked = subst (λ t. IsAsked t (count_program (counted_tree table) []) []) (sym is) (count_asked table)

  pub counts_all : {X E : Type 0} (old new : State) → HasOurSchema old.now → (r : Result X E) (items : X → List Row) → IfOk r (λ x. Shown text [] old new (items x))
      → IfOk r (λ x. items x ≡ shown_count (length (old.now.trees (counted_tree table))) ∷ [])
  counts_all old new has r items h =
      let rows = old.now.trees (counted_tree table) in
      let all = all_of (λ x. true ≡ true) (λ x. refl) rows in
      subst (λ l. IfOk r (λ x. items x ≡ shown_count (length l) ∷ [])) (filter_all (λ x. true) rows all) (counts old new has text_means [] (λ x. true) (uncovered old.now.trees (counted_tree table)) all r items h)
