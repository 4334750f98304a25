-- Bytes that are owed, a reply after another.
use Rattle.std.proofs.Common.{◌≡◌, ◌∙◌, ℕ, ◌+◌, ◌<◌, ◌≤◌, List, ◌++◌, sym, ap, append_assoc, append-nil, length, get_or, drop}
use Rattle.couch_http.specs.Reply.{Reply}
use Rattle.hub.proofs.ServiceBytes.{reply_there, replies_over}
use Rattle.hub.specs.Service.{bytes_of}

pub owed_more : (start now : List ℕ) (replies : List Reply) (i : ℕ) (r : Reply) → i < length replies → r ≡ get_or replies i r → now ++ bytes_of (drop i replies) ≡ start ++ bytes_of replies
    → (now ++ r.bytes) ++ bytes_of (drop (i + 1) replies) ≡ start ++ bytes_of replies
owed_more start now replies i r inside is h =
    append_assoc now r.bytes (bytes_of (drop (i + 1) replies)) ∙ ap (λ (l : List ℕ). now ++ l) (sym (reply_there replies i r inside is)) ∙ h

pub owed_all : (start now : List ℕ) (replies : List Reply) (i : ℕ) → length replies ≤ i → now ++ bytes_of (drop i replies) ≡ start ++ bytes_of replies → now ≡ start ++ bytes_of replies
owed_all start now replies i over h = sym (append-nil now) ∙ ap (λ (l : List ℕ). now ++ l) (sym (replies_over replies i over)) ∙ h
