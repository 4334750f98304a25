-- Logs that grow.
use Rattle.std.proofs.Common.{◌≡◌, ◌∙◌, ℕ, List, [], ◌∷◌, ◌++◌, ◌+◌, refl, sym, ap, append_assoc, append-nil, length, length-append, arith}
use Rattle.sync.specs.Streams.{EndsFinally, IsFinal}
use Rattle.sync.specs.declared.outcome.Outcome.{Outcome}

-- the log grew by so many outcomes
unfoldable pub GrewBy : List Outcome → List Outcome → ℕ → Type 0
GrewBy before after count = (more : List Outcome) × (after ≡ before ++ more) × (length more ≡ count)

pub grew_by_none : (log : List Outcome) → GrewBy log log 0
unfolding GrewBy
grew_by_none log = ([], sym (append-nil log), refl)

module _ (before between after : List Outcome) (count : ℕ) (last : Outcome) where
  more_by_one : (more : List Outcome) → between ≡ before ++ more → after ≡ between ++ last ∷ [] → after ≡ before ++ (more ++ last ∷ [])
  more_by_one more is one = one ∙ ap (λ l. l ++ last ∷ []) is ∙ append_assoc before more (last ∷ [])

  pub grew_by_one : GrewBy before between count → after ≡ between ++ last ∷ [] → GrewBy before after (count + 1)
  unfolding GrewBy
  grew_by_one h one = (h.0 ++ last ∷ [], more_by_one h.0 h.1 one, grind (arith, h.2, length-append h.0 (last ∷ [])))

  -- it grew, and the last of what came is final
  pub grew_finally : GrewBy before between count → after ≡ between ++ last ∷ [] → IsFinal last
      → (more : List Outcome) × (after ≡ before ++ more) × (length more ≡ count + 1) × EndsFinally more
  unfolding GrewBy
  grew_finally h one final = (h.0 ++ last ∷ [], more_by_one h.0 h.1 one, grind (arith, h.2, length-append h.0 (last ∷ [])), (h.0, last, refl, final))

pub grown : (before after : List Outcome) (count : ℕ) → GrewBy before after count → (more : List Outcome) × (after ≡ before ++ more) × (length more ≡ count)
unfolding GrewBy
grown before after count h = h
