-- A request that is written, a part after another.
use Rattle.std.proofs.Common.{◌≡◌, ℕ, true, false, List, [], ◌∷◌, ◌++◌, Option, inl, inr, true≢false}
use Rattle.std.proofs.KnownBytes.{Appends-kept}
use Rattle.std.specs.Io.KnownBytes.{Keeps}
use Rattle.couch_http.specs.Writing.{Takes}
use Rattle.couch_http.proofs.Taken.{HasTaken}
use Rattle.sync.specs.Exchange.{Standing, Writes}
use Rattle.sync.specs.Streams.{IsFinal, most_writes}
use Rattle.sync.specs.declared.outcome.Outcome.{Outcome}
use Rattle.sync.proofs.Logs.{GrewBy, grew_finally, grown}

module _ (request : List ℕ) (before between after : Standing) (count : ℕ) where
  pub wrote_all : Takes before.bytes after.bytes request true → GrewBy before.log after.log count → Writes request before after true
  wrote_all takes grew =
      let g = grown before.log after.log count grew in
      record { takes = takes; writes = g.0; logged = g.1; cut_off = λ e. absurd (true≢false e) }

  -- the last write was final
  pub wrote_part : (last : Outcome) → Takes before.bytes after.bytes request false → GrewBy before.log between.log count → after.log ≡ between.log ++ last ∷ [] → IsFinal last
      → Writes request before after false
  wrote_part last takes grew one final =
      let g = grew_finally before.log between.log after.log count last grew one final in
      record { takes = takes; writes = g.0; logged = g.1; cut_off = λ _. inl g.3 }

  -- there were too many
  pub wrote_most : Takes before.bytes after.bytes request false → GrewBy before.log after.log count → count ≡ most_writes → Writes request before after false
  wrote_most takes grew most =
      let g = grown before.log after.log count grew in
      record { takes = takes; writes = g.0; logged = g.1; cut_off = λ _. inr (cc (g.2, most)) }

-- an interrupted write took nothing
pub taken_kept : (a b c : Option (List ℕ)) (rest new all : List ℕ) → HasTaken a b rest all → Keeps b c → new ≡ rest → HasTaken a c new all
unfolding HasTaken
taken_kept a b c rest new all h kept is = rw is ((h.0, Appends-kept a b c h.0 h.1 kept, h.2))
