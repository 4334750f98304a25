-- What is seen, one thing after the other.
use Rattle.std.proofs.Common.{ℕ, ◌≡◌, ◌∙◌, ◌+◌, ◌<◌, ◌++◌, List, [], ◌∷◌, Option, Some, None, ap, sym, subst, append_assoc, append-nil, get_or, length, map, take}
use Rattle.std.proofs.lemmas.List.{map_more}
use Rattle.std.specs.Io.KnownBytes.{Appends}
use Rattle.world.specs.Happening.{Sight}
use Rattle.world.specs.OneEvent.{sight_of}
use Rattle.world.specs.declared.event.Seen.{Seen}
use Rattle.lab.specs.Replies.{sight_line, sight_lines}

pub Appends-then : (a b c : Option (List ℕ)) (xs ys : List ℕ) → Appends a b xs → Appends b c ys → Appends a c (xs ++ ys)
Appends-then None b c xs ys p q = tt
Appends-then (Some a) None c xs ys p q = absurd p
Appends-then (Some a) (Some b) None xs ys p q = absurd q
Appends-then (Some a) (Some b) (Some c) xs ys p q = q ∙ ap (λ zs. zs ++ ys) p ∙ append_assoc a xs ys

sights_push : (name : List ℕ) (ss : List Sight) (s : Sight) → sight_lines name (ss ++ s ∷ []) ≡ sight_lines name ss ++ sight_line name s
sights_push name [] s = append-nil (sight_line name s)
sights_push name (t ∷ ts) s = ap (λ l. sight_line name t ++ l) (sights_push name ts s) ∙ sym (append_assoc (sight_line name t) (sight_lines name ts) (sight_line name s))

-- one more thing that was seen was printed
pub seen_more : (name : List ℕ) (seen : List Seen) (i : ℕ) (q : Seen) → i < length seen → q ≡ get_or seen i q → (a b d : Option (List ℕ))
    → Appends a b (sight_lines name (map sight_of (take i seen))) → Appends b d (sight_line name (sight_of q)) → Appends a d (sight_lines name (map sight_of (take (i + 1) seen)))
seen_more name seen i q inside at a b d p printed =
    let items : map sight_of (take (i + 1) seen) ≡ map sight_of (take i seen) ++ sight_of q ∷ [] =
    map_more sight_of seen i q inside ∙ ap (λ (x : Seen). map sight_of (take i seen) ++ sight_of x ∷ []) (sym at) in
    subst (λ (l : List ℕ). Appends a d l) (sym (ap (sight_lines name) items ∙ sights_push name (map sight_of (take i seen)) (sight_of q)))
    (Appends-then a b d (sight_lines name (map sight_of (take i seen))) (sight_line name (sight_of q)) p printed)
