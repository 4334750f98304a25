-- Acts of one connection, by its conversation.
use Rattle.std.proofs.Common.{◌≡◌, ◌≢◌, ◌∙◌, inl, inr, ℕ, ◌≤◌, List, [], ◌∷◌, Option, refl, sym, ap, ap₂, subst, arith}
use Rattle.std.specs.FinMap.{FinMap, insert, len}
use Rattle.std.specs.Ordering.{nat_cmp}
use Rattle.store.specs.declared.store.Store.{Ghosts}
use Rattle.hub.specs.Feeding.{HubState}
use Rattle.engine.specs.Acts.{Act, Logs, brought, took}
use Rattle.engine.specs.Conversing.{Converses, IsSilent, Talk, standing_at}
use Rattle.engine.specs.Standing.{Standing, TakesPiece, ending, given_up, owed_by, serving, with_owed}
use Rattle.engine.specs.inner.Sending.{Sends, stage_after_finish}
use Rattle.engine.specs.declared.conversation.ConversationStage.{ConversationStage}
use Rattle.engine.specs.declared.conversation.ConversationStage.TheVariants.{Open, Last, Ending, Lost}
use Rattle.engine.proofs.Deeds.{goes_more, goes_none, leads_one, logs_more, logs_none}
use Rattle.engine.proofs.Standings.{insert_again, insert_here, len_either}

owed_again : (s : Standing) → with_owed s (owed_by s) ≡ s
owed_again (serving bytes) = refl
owed_again (ending bytes) = refl
owed_again given_up = refl

finish_stands : (stage : ConversationStage) (owed : List ℕ) → standing_at (stage_after_finish stage) owed ≡ standing_at stage owed
finish_stands Open owed = refl
finish_stands Last owed = refl
finish_stands Ending owed = refl
finish_stands Lost owed = refl

pub finish_there : (stage next : ConversationStage) → next ≡ stage_after_finish stage → stage ≢ Lost → next ≢ Lost
finish_there Open next is there e = absurd (let x = sym is ∙ e in cc)
finish_there Last next is there e = absurd (let x = sym is ∙ e in cc)
finish_there Ending next is there e = absurd (let x = sym is ∙ e in cc)
finish_there Lost next is there e = there refl

-- a connection is served where its conversation is open, and nothing is owed
pub open_free : (stage : ConversationStage) (owed : List ℕ) → stage ≡ Open → owed ≡ [] → standing_at stage owed ≡ serving []
open_free stage owed is none = ap₂ standing_at is none

-- ---- silence

pub silent_more : {S : Type 0} {a b c : Talk S} → IsSilent a b → IsSilent b c → IsSilent a c
silent_more {S} {a} {b} {c} first second = record {
  unlogged = logs_more a.log b.log c.log [] [] first.unlogged second.unlogged;
  hub_stays = second.hub_stays ∙ first.hub_stays;
  stands = second.stands ∙ first.stands;
}

-- a peer that was told, or not, that no more comes
pub finish_silent : {S : Type 0} (a : HubState S) (stage next : ConversationStage) (owed left : List ℕ) (u v : Option (List Act)) → next ≡ stage_after_finish stage → left ≡ owed → Logs u v []
    → IsSilent (record { hub = a; standing = standing_at stage owed; log = u }) (record { hub = a; standing = standing_at next left; log = v })
finish_silent a stage next owed left u v is same l = record {
  unlogged = l;
  hub_stays = refl;
  stands = ap (λ (t : ConversationStage). standing_at t left) is ∙ ap (standing_at (stage_after_finish stage)) same ∙ finish_stands stage owed;
}

module _ {S : Type 0} (g : Ghosts S) (conn : ℕ) where
  pub talks_none : {a b : Talk S} → b.hub ≡ a.hub → b.standing ≡ a.standing → Logs a.log b.log [] → Converses g conn a b
  talks_none same stands l = record {
    goes_on = λ most others. goes_none g (ap₂ (λ (h : HubState S) (s : Standing). record { hub = h; standings = insert others conn s }) same stands) refl (omega arith) l;
  }

  pub talks_more : {a b c : Talk S} → Converses g conn a b → Converses g conn b c → Converses g conn a c
  talks_more first second = record { goes_on = λ most others. goes_more g (first.goes_on most others) refl (second.goes_on most others) }

  -- how many are open with the one connection, and with what it is next
  len_same : (most : ℕ) (others : FinMap nat_cmp Standing) (was now : Standing) → len (insert others conn was) ≤ most → len (insert others conn now) ≤ most
  len_same most others was now le = let same = len_either others conn was now in omega (arith, same, le)

  -- bytes that were sent
  talks_sent : (a : HubState S) (was : Standing) (left : List ℕ) (u v : Option (List Act)) → Sends conn u v (owed_by was) left
      → Converses g conn (record { hub = a; standing = was; log = u }) (record { hub = a; standing = with_owed was left; log = v })
  talks_sent a was left u v (inl (l, is)) = talks_none refl (ap (with_owed was) is ∙ owed_again was) l
  talks_sent a was left u v (inr (bytes, l, is)) = record {
    goes_on = λ most others. record {
      leads = λ room.
          let le : len (insert others conn was) ≤ most = omega (arith, room) in
          leads_one g (record { act = took conn bytes; words = [] }) refl refl refl (omega arith) le (len_same most others was (with_owed was left) le) l
          (was, left, insert_here others conn was, is, refl, ap (λ (m : FinMap nat_cmp Standing). record { hub = a; standings = m }) (sym (insert_again others conn was (with_owed was left))));
    };
  }

  -- a piece that was read
  pub talks_piece : (a b : HubState S) (was now : Standing) (bytes words : List ℕ) (u v : Option (List Act)) → Logs u v (brought conn bytes ∷ [])
      → TakesPiece g (record { hub = a; standing = was }) (record { conn = conn; bytes = bytes }) words (record { hub = b; standing = now })
      → Converses g conn (record { hub = a; standing = was; log = u }) (record { hub = b; standing = now; log = v })
  talks_piece a b was now bytes words u v l takes = record {
    goes_on = λ most others. record {
      leads = λ room.
          let le : len (insert others conn was) ≤ most = omega (arith, room) in
          leads_one g (record { act = brought conn bytes; words = words }) refl refl refl (omega arith) le (len_same most others was now le) l
          (was, record { hub = b; standing = now }, insert_here others conn was, takes, ap (λ (m : FinMap nat_cmp Standing). record { hub = b; standings = m }) (sym (insert_again others conn was now)));
    };
  }

  -- ---- with stages

  -- bytes were sent on a connection that is not given up
  pub sent_talks : (a : HubState S) (stage next : ConversationStage) (owed left : List ℕ) (u v : Option (List Act)) → next ≡ stage → stage ≢ Lost → Sends conn u v owed left
      → Converses g conn (record { hub = a; standing = standing_at stage owed; log = u }) (record { hub = a; standing = standing_at next left; log = v })
  sent_talks a stage next owed left u v same there sent =
      subst (λ (t : ConversationStage). Converses g conn (record { hub = a; standing = standing_at stage owed; log = u }) (record { hub = a; standing = standing_at t left; log = v })) (sym same) (by stage refl)
    where
      by : (t : ConversationStage) → stage ≡ t → Converses g conn (record { hub = a; standing = standing_at t owed; log = u }) (record { hub = a; standing = standing_at t left; log = v })
      by Open is = talks_sent a (serving owed) left u v sent
      by Last is = talks_sent a (ending owed) left u v sent
      by Ending is = talks_sent a (ending owed) left u v sent
      by Lost is = absurd (there is)

  -- the same behind a piece
  pub replies_talks : (a : HubState S) (stage next : ConversationStage) (owed left : List ℕ) (u v : Option (List Act)) → next ≡ stage → (stage ≡ Lost → v ≡ u) → (stage ≢ Lost → Sends conn u v owed left)
      → Converses g conn (record { hub = a; standing = standing_at stage owed; log = u }) (record { hub = a; standing = standing_at next left; log = v })
  replies_talks a stage next owed left u v same lost sent =
      subst (λ (t : ConversationStage). Converses g conn (record { hub = a; standing = standing_at stage owed; log = u }) (record { hub = a; standing = standing_at t left; log = v })) (sym same) (by stage refl)
    where
      by : (t : ConversationStage) → stage ≡ t → Converses g conn (record { hub = a; standing = standing_at t owed; log = u }) (record { hub = a; standing = standing_at t left; log = v })
      by Open is = talks_sent a (serving owed) left u v (sent (λ e. absurd (let x = sym is ∙ e in cc)))
      by Last is = talks_sent a (ending owed) left u v (sent (λ e. absurd (let x = sym is ∙ e in cc)))
      by Ending is = talks_sent a (ending owed) left u v (sent (λ e. absurd (let x = sym is ∙ e in cc)))
      by Lost is = talks_none refl refl (subst (λ (o : Option (List Act)). Logs u o []) (sym (lost is)) (logs_none u))

  -- the last reply was taken, or not
  pub finish_talks : (a : HubState S) (stage next : ConversationStage) (owed left : List ℕ) (u v : Option (List Act)) → next ≡ stage_after_finish stage → left ≡ owed → Logs u v []
      → Converses g conn (record { hub = a; standing = standing_at stage owed; log = u }) (record { hub = a; standing = standing_at next left; log = v })
  finish_talks a stage next owed left u v is same l =
      talks_none refl (ap (λ (t : ConversationStage). standing_at t left) is ∙ ap (standing_at (stage_after_finish stage)) same ∙ finish_stands stage owed) l

  -- a piece after the last request is passed over
  pub passed_over : (a : HubState S) (stage : ConversationStage) (owed bytes : List ℕ) → stage ≢ Open → stage ≢ Lost → owed ≡ []
      → TakesPiece g (record { hub = a; standing = standing_at stage owed }) (record { conn = conn; bytes = bytes }) [] (record { hub = a; standing = standing_at stage owed })
  passed_over a stage owed bytes shut there none = inr (inr (by stage shut there, refl, refl))
    where
      by : (t : ConversationStage) → t ≢ Open → t ≢ Lost → standing_at t owed ≡ ending []
      by Open s k = absurd (s refl)
      by Last s k = ap ending none
      by Ending s k = ap ending none
      by Lost s k = absurd (k refl)
