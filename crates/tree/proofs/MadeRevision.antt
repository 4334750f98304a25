-- A number and a hash that make a revision are kept as such.
use Rattle.std.proofs.Common.{◌≡◌, ℕ, ◌+◌, ◌-◌, ◌≤◌, true, List, ◌++◌, length, take, drop, replicate, refl, ap, ◌∙◌, arith, leb-true}
use Rattle.std.proofs.lemmas.List.{take_at, drop_at, length-append, length-replicate}
use Rattle.tree.specs.Revision.{is_revision}
use Rattle.tree.specs.KeptRevision.{kept, IsKept}
use Rattle.tree.proofs.RevisionText.{parts}

pub short_hash : (n : ℕ) (hash : List ℕ) → is_revision (record { number = n; hash = hash }) ≡ true → length hash ≤ 64
short_hash n hash h = leb-true _ _ (parts _ _ (parts _ _ (parts _ _ h).1).0).1

pub kept_made : (n : ℕ) (hash bytes : List ℕ) → bytes ≡ hash ++ replicate (64 - length hash) 0 → kept (record { number = n; len = length hash; bytes = bytes }) ≡ record { number = n; hash = hash }
kept_made n hash bytes e = λ i. record { number = n; hash = (ap (take (length hash)) e ∙ take_at hash (replicate (64 - length hash) 0) (length hash) refl) i }

pub made_is_kept : (n : ℕ) (hash bytes : List ℕ) → is_revision (record { number = n; hash = hash }) ≡ true → bytes ≡ hash ++ replicate (64 - length hash) 0 → IsKept (record { number = n; len = length hash; bytes = bytes })
made_is_kept n hash bytes h e =
    let short = short_hash n hash h in
    record {
      sized = ap (λ (bs : List ℕ). length bs) e ∙ length-append hash (replicate (64 - length hash) 0) ∙ ap (λ (k : ℕ). length hash + k) (length-replicate (64 - length hash) 0) ∙ omega arith;
      within = short;
      filled = ap (drop (length hash)) e ∙ drop_at hash (replicate (64 - length hash) 0) (length hash) refl;
      lawful = ap is_revision (kept_made n hash bytes e) ∙ h;
    }
