-- How a revision is kept: its hash in the front of 64 bytes, with zeros behind it.
-- No outside source decides; that it keeps every lawful revision exactly is proved here.
use Rattle.std.specs.Prelude.{◌≡◌, ◌-◌, ◌≤◌, ◌++◌, length, take, drop, replicate, IsTrue}
use Rattle.std.proofs.Common.{sym, ap, ◌∙◌, arith}
use Rattle.std.proofs.lemmas.List.{length-take-le, take-append-drop}
use Rattle.tree.specs.Revision.{Revision, is_revision}
use Rattle.tree.specs.declared.revision.Rev.TheInside.{Inside}

-- the revision that the fields keep
abbrev pub kept : Inside → Revision
kept a = record { number = a.number; hash = take a.len a.bytes }

-- the fields that keep a revision
abbrev pub spread : Revision → Inside
spread r = record { number = r.number; len = length r.hash; bytes = r.hash ++ replicate (64 - length r.hash) 0 }

pub record IsKept (a : Inside) : Type 0 where
  pub sized : length a.bytes ≡ 64
  pub within : a.len ≤ 64
  pub filled : drop a.len a.bytes ≡ replicate (64 - a.len) 0
  pub lawful : IsTrue (is_revision (kept a))

pub spread-kept : (a : Inside) → IsKept a → spread (kept a) ≡ a
spread-kept a h =
    let fits : a.len ≤ length a.bytes = omega (arith, h.within, h.sized) in
    let len : length (take a.len a.bytes) ≡ a.len = length-take-le a.len a.bytes fits in
    let rest : take a.len a.bytes ++ replicate (64 - length (take a.len a.bytes)) 0 ≡ a.bytes =
    ap (λ n. take a.len a.bytes ++ replicate (64 - n) 0) len ∙ ap (λ zs. take a.len a.bytes ++ zs) (sym h.filled) ∙ take-append-drop a.len a.bytes in
    λ i. record { number = a.number; len = len i; bytes = rest i }
