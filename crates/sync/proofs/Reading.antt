-- Pieces of a reply that are read one after another.
use Rattle.std.proofs.Common.{◌≡◌, ◌<◌, ◌≤◌, ◌+◌, inl, inr, ℕ, List, [], ◌∷◌, ◌++◌, Option, Some, None, refl, sym, ap, subst, ◌∙◌, take, length, length-append, append-nil, arith}
use Rattle.std.proofs.KnownBytes.{Consumes-kept, Consumes-nil, Consumes-trans}
use Rattle.std.specs.Io.KnownBytes.{Consumes, Keeps}
use Rattle.couch_http.specs.Reply.{Reply}
use Rattle.couch_http.specs.ReplyStream.{GivesReply, RefusesReply}
use Rattle.sync.specs.Exchange.{IsUnfinished, ReadsBytes, Standing, most_reads}
use Rattle.sync.specs.Pieces.{IsTurn}
use Rattle.sync.specs.declared.answer.Answer.TheVariants as answer
use Rattle.sync.specs.declared.outcome.Outcome.{Outcome}
use Rattle.sync.specs.declared.turn.Turn.TheVariants.{Waits, Whole, Lost, Broken}
use Rattle.sync.proofs.Logs.{GrewBy, grew_by_none, grew_by_one, grew_finally, grown}

-- these bytes were read in so many reads, the cutter keeps them, and no reply is whole in them; there are so many of them
unfoldable pub HasRead : Standing → Standing → ℕ → Option (List ℕ) → ℕ → Type 0
HasRead a b count kept size =
    GrewBy a.log b.log count × ((read : List ℕ) × Consumes a.bytes b.bytes read × (kept ≡ Some read) × IsUnfinished read × (length read ≡ size))

pub read_none : (a : Standing) (kept : Option (List ℕ)) → kept ≡ Some [] → HasRead a a 0 kept 0
unfolding HasRead
read_none a kept is = (grew_by_none a.log, ([], Consumes-nil a.bytes, is, inl refl, refl))

pub unread : (a b : Option (List ℕ)) → Keeps a b → Consumes a b []
unread a b kept = Consumes-kept a a b [] (Consumes-nil a) kept

pub nothing_read : (a b : Option (List ℕ)) (n : ℕ) (xs : List ℕ) → n ≡ 0 → Consumes a b (take n xs) → Consumes a b []
nothing_read a b n xs none h = subst (λ (k : ℕ). Consumes a b (take k xs)) none h

module _ (a b c : Standing) (count : ℕ) (old new : Option (List ℕ)) (last : Outcome) (piece : List ℕ) (size grown_size : ℕ) where
  -- so many bytes with the piece
  longer : (read : List ℕ) → length read ≡ size → grown_size ≡ size + length piece → length (read ++ piece) ≡ grown_size
  longer read is more = length-append read piece ∙ ap (λ n. n + length piece) is ∙ sym more

  as_long : piece ≡ [] → grown_size ≡ size + length piece → size ≡ grown_size
  as_long none more = sym (more ∙ ap (λ p. size + length p) none ∙ omega arith)

  within_more : count < most_reads → (n : ℕ) → n ≡ count + 1 → n ≤ most_reads
  within_more less n is = omega (arith, less, is)

  -- the cutter was fed the piece, or the read was interrupted
  pub read_more : HasRead a b count old size → Consumes b.bytes c.bytes piece → c.log ≡ b.log ++ last ∷ [] → grown_size ≡ size + length piece → IsTurn old last piece Waits new
      → HasRead a c (count + 1) new grown_size
  unfolding HasRead
  read_more h more one sized (inl gives) =
      let g = subst (λ o. GivesReply o piece None new) h.1.2 gives in
      (grew_by_one a.log b.log c.log count last h.0 one, (h.1.0 ++ piece, Consumes-trans a.bytes b.bytes c.bytes h.1.0 piece h.1.1 more, g.1, inr g.0, longer h.1.0 h.1.4 sized))
  read_more h more one sized (inr none) =
      let less = subst (λ (l : List ℕ). Consumes b.bytes c.bytes l) none.1 more in
      let joined = Consumes-trans a.bytes b.bytes c.bytes h.1.0 [] h.1.1 less in (
        grew_by_one a.log b.log c.log count last h.0 one,
        (h.1.0, subst (λ (l : List ℕ). Consumes a.bytes c.bytes l) (append-nil h.1.0) joined, none.2 ∙ h.1.2, h.1.3, h.1.4 ∙ as_long none.1 sized),
      )

  pub read_whole : (reply : Reply) → count < most_reads → HasRead a b count old size → Consumes b.bytes c.bytes piece → c.log ≡ b.log ++ last ∷ [] → grown_size ≡ size + length piece
      → IsTurn old last piece (Whole reply) new → ReadsBytes a c (answer.Reply reply) grown_size
  unfolding HasRead
  read_whole reply less h more one sized gives =
      let g = subst (λ o. GivesReply o piece (Some reply) new) h.1.2 gives in
      let l = grown a.log c.log (count + 1) (grew_by_one a.log b.log c.log count last h.0 one) in
      record {
        reads = record {
          reads = l.0;
          logged = l.1;
          within = within_more less (length l.0) l.2;
          read = h.1.0 ++ piece;
          consumes = Consumes-trans a.bytes b.bytes c.bytes h.1.0 piece h.1.1 more;
          is = g.0;
        };
        counted = longer h.1.0 h.1.4 sized;
      }

  pub read_lost : count < most_reads → HasRead a b count old size → Consumes b.bytes c.bytes piece → c.log ≡ b.log ++ last ∷ [] → grown_size ≡ size + length piece → IsTurn old last piece Lost new
      → ReadsBytes a c answer.Lost grown_size
  unfolding HasRead
  read_lost less h more one sized ends =
      let l = grew_finally a.log b.log c.log count last h.0 one ends.0 in
      record {
        reads = record {
          reads = l.0;
          logged = l.1;
          within = within_more less (length l.0) l.2;
          read = h.1.0 ++ piece;
          consumes = Consumes-trans a.bytes b.bytes c.bytes h.1.0 piece h.1.1 more;
          is = (subst (λ (bytes : List ℕ). IsUnfinished bytes) (sym (ap (λ k. h.1.0 ++ k) ends.1 ∙ append-nil h.1.0)) h.1.3, inl l.3);
        };
        counted = longer h.1.0 h.1.4 sized;
      }

  pub read_broken : count < most_reads → HasRead a b count old size → Consumes b.bytes c.bytes piece → c.log ≡ b.log ++ last ∷ [] → grown_size ≡ size + length piece → IsTurn old last piece Broken new
      → ReadsBytes a c answer.Unreadable grown_size
  unfolding HasRead
  read_broken less h more one sized refused =
      let l = grown a.log c.log (count + 1) (grew_by_one a.log b.log c.log count last h.0 one) in
      record {
        reads = record {
          reads = l.0;
          logged = l.1;
          within = within_more less (length l.0) l.2;
          read = h.1.0 ++ piece;
          consumes = Consumes-trans a.bytes b.bytes c.bytes h.1.0 piece h.1.1 more;
          is = elim (subst (λ o. RefusesReply o piece refused.0 new) h.1.2 refused.2) [
            | inl memory ↦ absurd (refused.1 memory.0)
            | inr breaks ↦ (refused.0, refused.1, breaks.1)
          ];
        };
        counted = longer h.1.0 h.1.4 sized;
      }

-- it was read as often as it may be
pub read_ended : (a b : Standing) (count : ℕ) (kept : Option (List ℕ)) (size : ℕ) → count ≡ most_reads → HasRead a b count kept size → ReadsBytes a b answer.Lost size
unfolding HasRead
read_ended a b count kept size most h =
    let l = grown a.log b.log count h.0 in
    let many : length l.0 ≡ most_reads = l.2 ∙ most in
    record {
      reads = record {
        reads = l.0;
        logged = l.1;
        within = rw many (omega arith);
        read = h.1.0;
        consumes = h.1.1;
        is = (h.1.3, inr many);
      };
      counted = h.1.4;
    }
