-- A document's first write: its newest revision is the only leaf, and so the winner.
use Rattle.std.proofs.Common.{arith, ◌≡◌, ◌∙◌, inl, inr, ℕ, suc, Bool, true, false, List, [], ◌∷◌, length, Option, Some, None, Ok, refl, sym, ap, subst}
use Rattle.std.proofs.lemmas.Bool.{and_parts}
use Rattle.std.proofs.lemmas.Bool.Decides.{nat_tests}
use Rattle.std.specs.FinMap as finite
use Rattle.std.specs.Prelude.{slice_get, ◌⊎◌, ◌==◌, ◌++◌}
use Rattle.tables.proofs.SinglePath.{AreKnown, only_leaves}
use Rattle.tree.proofs.Continued.{goes_on}
use Rattle.tree.proofs.LawfulContents.{rooted}
use Rattle.tree.proofs.Shown.{shown}
use Rattle.tree.specs.History.{HistoryContent, IsRooted, Shows, content_of, held_of, leaves, placement, winner, with_write}
use Rattle.tree.specs.Revision.{Revision}
use Rattle.tree.specs.Write.{IsKnown, head, AreLawfulWrites, StandsIn, Write, counts_down, held_of_write, is_whole_path}
use Rattle.tree.specs.declared.placement.Placed.TheVariants.{Added}

no_middle : (before after : List Write) (w : Write) → before ++ w ∷ after ≡ [] → ⊥
no_middle [] after w e = cc
no_middle (x ∷ before) after w e = cc

nothing_lawful : AreLawfulWrites []
nothing_lawful = record { whole = tt; heads_new = λ before after w r e. absurd (no_middle before after w e); one_parent = λ r p q h. absurd h }

counted : (n : Revision) (rest : List Revision) → is_whole_path (n ∷ rest) ≡ true → length (n ∷ rest) ≡ n.number
counted n rest whole = grind (arith, nat_tests, (and_parts (n.number == suc (length rest)) (counts_down rest) whole).0)

module _ (w : Write) (n : Revision) (rest : List Revision) (path : w.path ≡ n ∷ rest) (placed : placement finite.empty w.path ≡ Ok Added) where
  one : AreLawfulWrites (w ∷ []) × (with_write finite.empty w ≡ content_of (w ∷ []))
  one = goes_on finite.empty w (with_write finite.empty w) placed refl [] nothing_lawful refl

  abbrev h : HistoryContent
  h = content_of (w ∷ [])

  shows : Shows (w ∷ []) h
  shows = shown (w ∷ []) one.0

  known : AreKnown h w.path
  known r = (λ at. (shows.known r).1 (inl at), λ is. stands ((shows.known r).0 is))
    where
      stands : StandsIn w.path r ⊎ ⊥ → StandsIn w.path r
      stands (inl at) = at
      stands (inr never) = absurd never

  newest : StandsIn w.path n
  newest = subst (λ (xs : List Revision). StandsIn xs n) (sym path) (inl refl)

  many : length w.path ≡ n.number
  many = ap length path ∙ counted n rest (ap is_whole_path (sym path) ∙ one.0.whole.0)

  only : leaves h ≡ n ∷ []
  only = only_leaves h w.path known (rooted (w ∷ []) one.0) n ((known n).0 newest) many

  pub first_wins : winner (with_write finite.empty w) ≡ Some n
  first_wins = ap winner one.1 ∙ ap (λ (xs : List Revision). slice_get xs 0) only

  pub first_held : held_of (with_write finite.empty w) n ≡ Some (held_of_write w)
  first_held = ap (λ (k : HistoryContent). held_of k n) one.1 ∙ (shows.held n (held_of_write w)).1 (inl (ap head path, refl))
