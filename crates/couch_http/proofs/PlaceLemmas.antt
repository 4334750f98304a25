-- What a stream holds has exactly one place each.
use Rattle.std.proofs.Common.{◌≡◌, ℕ, suc, ◌+◌, ◌-◌, ◌<◌, Bool, true, false, List, [], ◌∷◌, length, refl, sym, ap, ◌∙◌, arith}
use Rattle.std.specs.Prelude.{MatchBool}
use Rattle.couch_http.specs.Message.{Message}
use Rattle.couch_http.specs.Places.{EndsAt}
use Rattle.couch_http.specs.Stream.{whole, StreamEnd, ended, Cuts}
use Rattle.couch_http.proofs.BeginLemmas.{Begins_shorter}
use Rattle.couch_http.proofs.StreamLaws.{Begins_unique}

-- places of these requests, one each
abbrev Placed : ℕ → List ℕ → List Message → Type 0
Placed before bytes messages = (places : List ℕ) × EndsAt before bytes messages places × (length places ≡ length messages)

placed_next : (before : ℕ) (bytes : List ℕ) (m : Message) (messages : List Message) (end : StreamEnd) (rest : List ℕ) (place : ℕ) (last : Bool)
    → MatchBool last ((messages ≡ []) × (end ≡ ended)) (Cuts rest messages end)
    → (Cuts rest messages end → Placed place rest messages)
    → (places : List ℕ) × MatchBool last ((messages ≡ []) × (places ≡ [])) (EndsAt place rest messages places) × (length places ≡ length messages)
placed_next before bytes m messages end rest place true next placed = ([], (next.0, refl), ap length (sym next.0))
placed_next before bytes m messages end rest place false next placed = placed next

pub Cuts_placed : (bytes : List ℕ) (messages : List Message) (end : StreamEnd) (before : ℕ) → Cuts bytes messages end → Placed before bytes messages
Cuts_placed bytes [] end before cuts = ([], refl, refl)
Cuts_placed bytes (m ∷ messages) end before (rest, begins, next) =
    let shorter : length rest < length bytes = Begins_shorter bytes m rest begins in
    let place : ℕ = before + length bytes - length rest in
    let at : place + length rest ≡ before + length bytes = omega (arith, shorter) in
    let (places, ends, count) = placed_next before bytes m messages end rest place m.last next (λ cuts. Cuts_placed rest messages end place cuts) in
    (place ∷ places, (rest, begins, at, ends), ap suc count)

same_next : (messages : List Message) (rest : List ℕ) (place : ℕ) (ps qs : List ℕ) (last : Bool)
    → MatchBool last ((messages ≡ []) × (ps ≡ [])) (EndsAt place rest messages ps)
    → MatchBool last ((messages ≡ []) × (qs ≡ [])) (EndsAt place rest messages qs)
    → (EndsAt place rest messages ps → EndsAt place rest messages qs → ps ≡ qs) → ps ≡ qs
same_next messages rest place ps qs true a b again = a.1 ∙ sym b.1
same_next messages rest place ps qs false a b again = again a b

left_same : (m : Message) (r s : List ℕ) → whole m r ≡ whole m s → s ≡ r
left_same m r s e = cc

pub EndsAt_unique : (before : ℕ) (bytes : List ℕ) (messages : List Message) (ps qs : List ℕ) → EndsAt before bytes messages ps → EndsAt before bytes messages qs → ps ≡ qs
EndsAt_unique before bytes [] ps qs a b = a ∙ sym b
EndsAt_unique before bytes (m ∷ messages) [] qs a b = absurd a
EndsAt_unique before bytes (m ∷ messages) (p ∷ ps) [] a b = absurd b
EndsAt_unique before bytes (m ∷ messages) (p ∷ ps) (q ∷ qs) (r, begins, at, ends) (s, also, too, others) =
    let rest : s ≡ r = left_same m r s (Begins_unique bytes (whole m r) (whole m s) begins also) in
    let same : q ≡ p = omega (arith, ap length rest, at, too) in
    let there : MatchBool m.last ((messages ≡ []) × (qs ≡ [])) (EndsAt p r messages qs) = rw (same, rest) at others in
    λ i. sym same i ∷ same_next messages r p ps qs m.last ends there (EndsAt_unique p r messages ps qs) i
