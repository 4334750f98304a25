-- Bytes that a writer takes, a part after another.
use Rattle.std.proofs.Common.{arith, ◌≡◌, ◌∙◌, ℕ, Bool, true, false, List, [], ◌++◌, Option, refl, sym, ap, subst, append_assoc, append-nil, length, take, drop, take-append-drop, true≢false}
use Rattle.std.proofs.KnownBytes.{Appends-nil, Appends-trans, Appends-kept}
use Rattle.std.specs.Io.KnownBytes.{Appends, Keeps}
use Rattle.std.proofs.lemmas.List.{nil_from_length}
use Rattle.std.proofs.lemmas.Bool.Decides.{nat_tests}
use Rattle.std.specs.Prelude.{◌==◌}
use Rattle.couch_http.specs.Writing.{Takes}

-- of all these bytes the writer took those before the rest
unfoldable pub HasTaken : Option (List ℕ) → Option (List ℕ) → List ℕ → List ℕ → Type 0
HasTaken a b rest all = (done : List ℕ) × Appends a b done × (done ++ rest ≡ all)

pub taken_none : (a : Option (List ℕ)) (all : List ℕ) → HasTaken a a all all
unfolding HasTaken
taken_none a all = ([], Appends-nil a, refl)

pub taken_all : (a b : Option (List ℕ)) (w : Bool) (all : List ℕ) → HasTaken a b [] all → Takes a b all w
unfolding HasTaken
taken_all a b w all h = (h.0, h.1, ([], h.2), λ _. sym (append-nil h.0) ∙ h.2)

pub taken_short : (a b : Option (List ℕ)) (rest all : List ℕ) → HasTaken a b rest all → Takes a b all false
unfolding HasTaken
taken_short a b rest all h = (h.0, h.1, (rest, h.2), λ e. absurd (true≢false (sym e)))

module _ (a b c : Option (List ℕ)) where
  pub taken_more : (front rest all : List ℕ) → HasTaken a b (front ++ rest) all → Appends b c front → HasTaken a c rest all
  unfolding HasTaken
  taken_more front rest all h more = (h.0 ++ front, Appends-trans a b c h.0 front h.1 more, append_assoc h.0 front rest ∙ h.2)

  pub taken_some : (rest all new : List ℕ) (n : ℕ) → HasTaken a b rest all → Appends b c (take n rest) → new ≡ drop n rest → HasTaken a c new all
  taken_some rest all new n h more is =
      rw is (taken_more (take n rest) (drop n rest) all (subst (λ (l : List ℕ). HasTaken a b l all) (sym (take-append-drop n rest)) h) more)

  -- nothing more was taken
  pub taken_no_more : (rest all : List ℕ) → HasTaken a b rest all → Keeps b c → Takes a c all false
  unfolding HasTaken
  taken_no_more rest all h kept = (h.0, Appends-kept a b c h.0 h.1 kept, (rest, h.2), λ e. absurd (true≢false (sym e)))

  -- a first part of the next bytes was taken
  pub taken_part : (front rest all : List ℕ) → HasTaken a b (front ++ rest) all → Takes b c front false → Takes a c all false
  unfolding HasTaken
  taken_part front rest all h t = (
    h.0 ++ t.0,
    Appends-trans a b c h.0 t.0 h.1 t.1,
    (t.2.0 ++ rest, append_assoc h.0 t.0 (t.2.0 ++ rest) ∙ ap (λ l. h.0 ++ l) (sym (append_assoc t.0 t.2.0 rest) ∙ ap (λ l. l ++ rest) t.2.1) ∙ h.2),
    λ e. absurd (true≢false (sym e)),
  )

  -- all of them were
  pub taken_whole : (front rest all : List ℕ) → HasTaken a b (front ++ rest) all → Takes b c front true → HasTaken a c rest all
  taken_whole front rest all h t = taken_more front rest all h (subst (λ (l : List ℕ). Appends b c l) (t.3 refl) t.1)

pub nothing_left : (bytes : List ℕ) (b : Bool) → b ≡ (length bytes == 0) → b ≡ true → bytes ≡ []
nothing_left bytes b is holds = nil_from_length bytes (count (sym is ∙ holds))
  where
    count : (length bytes == 0) ≡ true → length bytes ≡ 0
    count e = grind (arith, nat_tests)
