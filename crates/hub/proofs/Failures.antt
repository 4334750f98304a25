-- What a log is told of requests, one after another.
use Rattle.std.proofs.Common.{◌≡◌, ◌≢◌, ◌∙◌, ℕ, ◌+◌, ◌<◌, List, [], ◌∷◌, ◌++◌, get_or, length, map, take, refl, sym, ap, subst, arith, append_assoc, append-nil, Option, None, Some}
use Rattle.std.proofs.lemmas.Bool.{ne_eqb}
use Rattle.std.proofs.lemmas.List.{length-append, map_more}
use Rattle.couch_http.specs.Message.{Message, message_of}
use Rattle.couch_http.specs.Reply.{Reply}
use Rattle.couch_http.specs.declared.request.Request.{Request}
use Rattle.hub.specs.Failing.{FailedRequest, Tells, failed_request, failure_at, failures_in}

pub tells_none : (a : Option (List FailedRequest)) → Tells a a []
tells_none None = tt
tells_none (Some told) = sym (append-nil told)

pub tells_then : (a b c : Option (List FailedRequest)) (xs ys : List FailedRequest) → Tells a b xs → Tells b c ys → Tells a c (xs ++ ys)
tells_then None b c xs ys p q = tt
tells_then (Some first) None c xs ys p q = absurd p
tells_then (Some first) (Some next) None xs ys p q = absurd q
tells_then (Some first) (Some next) (Some last) xs ys p q = q ∙ ap (λ (l : List FailedRequest). l ++ ys) p ∙ append_assoc first xs ys

-- a reply of 500 is told of
pub told_failure : (a b : Option (List FailedRequest)) (m : Message) (r : Reply) → r.status ≡ 500 → Tells a b (failed_request m ∷ []) → Tells a b (failure_at m r)
told_failure a b m r is tells = rw is tells

-- and another one is not
pub told_nothing : (a b : Option (List FailedRequest)) (m : Message) (r : Reply) → r.status ≢ 500 → b ≡ a → Tells a b (failure_at m r)
told_nothing a b m r not same = rw (ne_eqb r.status 500 not, same) (tells_none a)

failures_push : (ms : List Message) (rs : List Reply) (m : Message) (r : Reply) → length ms ≡ length rs → failures_in (ms ++ m ∷ []) (rs ++ r ∷ []) ≡ failures_in ms rs ++ failure_at m r
failures_push [] [] m r same = append-nil (failure_at m r)
failures_push [] (s ∷ ss) m r same = absurd cc
failures_push (n ∷ ns) [] m r same = absurd cc
failures_push (n ∷ ns) (s ∷ ss) m r same =
    ap (λ (fs : List FailedRequest). failure_at n s ++ fs) (failures_push ns ss m r (omega (arith, same))) ∙ sym (append_assoc (failure_at n s) (failures_in ns ss) (failure_at m r))

items_more : (requests : List Request) (i : ℕ) (q : Request) → i < length requests → q ≡ get_or requests i q
    → map message_of (take (i + 1) requests) ≡ map message_of (take i requests) ++ message_of q ∷ []
items_more requests i q inside at = map_more message_of requests i q inside ∙ ap (λ (x : Request). map message_of (take i requests) ++ message_of x ∷ []) (sym at)

-- requests behind others, and their replies
pub failures_append : (ms ns : List Message) (rs ss : List Reply) → length rs ≡ length ms → failures_in (ms ++ ns) (rs ++ ss) ≡ failures_in ms rs ++ failures_in ns ss
failures_append [] ns [] ss same = refl
failures_append [] ns (r ∷ rs) ss same = absurd cc
failures_append (m ∷ ms) ns [] ss same = absurd cc
failures_append (m ∷ ms) ns (r ∷ rs) ss same =
    ap (λ (fs : List FailedRequest). failure_at m r ++ fs) (failures_append ms ns rs ss (omega (arith, same))) ∙ sym (append_assoc (failure_at m r) (failures_in ms rs) (failures_in ns ss))

-- the next request of a list has its reply
pub each_more : (requests : List Request) (i : ℕ) (q : Request) → i < length requests → q ≡ get_or requests i q → (rs : List Reply) (r : Reply)
    → length rs ≡ length (map message_of (take i requests)) → length (rs ++ r ∷ []) ≡ length (map message_of (take (i + 1) requests))
each_more requests i q inside at rs r same =
    let ms : List Message = map message_of (take i requests) in
    subst (λ (l : List Message). length (rs ++ r ∷ []) ≡ length l) (sym (items_more requests i q inside at))
    (omega (arith, length-append rs (r ∷ []), length-append ms (message_of q ∷ []), same))

pub tells_more : (a b c : Option (List FailedRequest)) (requests : List Request) (i : ℕ) (q : Request) → i < length requests → q ≡ get_or requests i q → (rs : List Reply) (r : Reply)
    → length rs ≡ length (map message_of (take i requests)) → Tells a b (failures_in (map message_of (take i requests)) rs) → Tells b c (failure_at (message_of q) r)
    → Tells a c (failures_in (map message_of (take (i + 1) requests)) (rs ++ r ∷ []))
tells_more a b c requests i q inside at rs r count tells next =
    let ms : List Message = map message_of (take i requests) in
    subst (λ (l : List Message). Tells a c (failures_in l (rs ++ r ∷ []))) (sym (items_more requests i q inside at))
    (subst (λ (l : List FailedRequest). Tells a c l) (sym (failures_push ms rs (message_of q) r (sym count))) (tells_then a b c (failures_in ms rs) (failure_at (message_of q) r) tells next))
