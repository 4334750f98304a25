-- The bytes of replies, as a writer takes them one after another.
use Rattle.std.proofs.Common.{◌≡◌, ◌∙◌, ℕ, ◌+◌, ◌<◌, ◌≤◌, true, false, List, [], ◌++◌, Option, sym, ap, subst, length, get_or, drop}
use Rattle.std.proofs.lemmas.List.{at_drop_more, drop_all}
use Rattle.couch_http.specs.Reply.{Reply}
use Rattle.couch_http.proofs.Taken.{HasTaken, taken_part, taken_whole}
use Rattle.couch_http.specs.Writing.{Takes}
use Rattle.hub.specs.Service.{bytes_of}

-- the replies behind a place begin with the one there
pub reply_there : (replies : List Reply) (i : ℕ) (r : Reply) → i < length replies → r ≡ get_or replies i r → bytes_of (drop i replies) ≡ r.bytes ++ bytes_of (drop (i + 1) replies)
reply_there replies i r inside is = at_drop_more bytes_of replies i r inside ∙ ap (λ (x : Reply). x.bytes ++ bytes_of (drop (i + 1) replies)) (sym is)

module _ (a b c : Option (List ℕ)) (replies : List Reply) (i : ℕ) (r : Reply) where
  pub reply_short : i < length replies → r ≡ get_or replies i r → HasTaken a b (bytes_of (drop i replies)) (bytes_of replies) → Takes b c r.bytes false → Takes a c (bytes_of replies) false
  reply_short inside is h t = taken_part a b c r.bytes (bytes_of (drop (i + 1) replies)) (bytes_of replies) (subst (λ (l : List ℕ). HasTaken a b l (bytes_of replies)) (reply_there replies i r inside is) h) t

  pub reply_whole : i < length replies → r ≡ get_or replies i r → HasTaken a b (bytes_of (drop i replies)) (bytes_of replies) → Takes b c r.bytes true
      → HasTaken a c (bytes_of (drop (i + 1) replies)) (bytes_of replies)
  reply_whole inside is h t = taken_whole a b c r.bytes (bytes_of (drop (i + 1) replies)) (bytes_of replies) (subst (λ (l : List ℕ). HasTaken a b l (bytes_of replies)) (reply_there replies i r inside is) h) t

pub replies_over : (replies : List Reply) (i : ℕ) → length replies ≤ i → bytes_of (drop i replies) ≡ []
replies_over replies i over = ap bytes_of (drop_all i replies over)
