-- Requests answered one after another, and what the end of a stream adds.
use Rattle.std.proofs.Common.{◌≡◌, ◌≢◌, ◌∙◌, ℕ, ◌+◌, ◌<◌, Bool, true, false, List, [], ◌∷◌, ◌++◌, get_or, length, map, take, refl, sym, ap, subst, Option}
use Rattle.std.proofs.lemmas.List.{map_more}
use Rattle.auth.specs.Callers.{Configuration}
use Rattle.couch_http.specs.Cutting as cutting
use Rattle.couch_http.specs.Message.{Message, message_of}
use Rattle.couch_http.specs.Reply.{Reply}
use Rattle.couch_http.specs.Stream.{StreamEnd, unfinished, ended, faulty}
use Rattle.couch_http.specs.declared.cut.Cut.{Cut}
use Rattle.couch_http.specs.declared.cut.Ending.{Ending}
use Rattle.couch_http.specs.declared.cut.Ending.TheVariants.{Open, Last, Fault}
use Rattle.couch_http.specs.declared.request.Request.{Request}
use Rattle.store.specs.declared.store.Store.{Ghosts}
use Rattle.node.specs.Runs.{IsRun, Stepped, end_of, messages_of}
use Rattle.node.specs.Step.{Serving}
use Rattle.hub.specs.Answering.{RepliesInOrder, StoreSteps, replies_of}
use Rattle.hub.specs.Connections.{ConnectionTable}
use Rattle.hub.specs.Cutters.{IsCut, IsEnding, refusal_at}
use Rattle.hub.specs.Endings.{is_last, last_replies}
use Rattle.hub.specs.Failing.{FailedRequest, Tells, failures_in}
use Rattle.hub.specs.Feeding.{IsFed}

run_push : {S : Type 0} (step : S → Message → Reply → S → Type 0) (before : S) (ss : List (Stepped S)) (s : Stepped S) → IsRun step before ss
    → step (end_of before ss) s.message s.reply s.after → IsRun step before (ss ++ s ∷ [])
run_push step before [] s run next = (next, tt)
run_push step before (t ∷ ts) s run next = (run.0, run_push step t.after ts s run.1 next)

end_push : {S : Type 0} (before : S) (ss : List (Stepped S)) (s : Stepped S) → end_of before (ss ++ s ∷ []) ≡ s.after
end_push before [] s = refl
end_push before (t ∷ ts) s = end_push t.after ts s

asked_push : {S : Type 0} (ss : List (Stepped S)) (s : Stepped S) → messages_of (ss ++ s ∷ []) ≡ messages_of ss ++ s.message ∷ []
asked_push [] s = refl
asked_push (t ∷ ts) s = ap (λ ms. t.message ∷ ms) (asked_push ts s)

told_push : {S : Type 0} (ss : List (Stepped S)) (s : Stepped S) → replies_of (ss ++ s ∷ []) ≡ replies_of ss ++ s.reply ∷ []
told_push [] s = refl
told_push (t ∷ ts) s = ap (λ rs. t.reply ∷ rs) (told_push ts s)

pub serves_none : {S : Type 0} (g : Ghosts S) (c : Configuration) (before : S) → RepliesInOrder g c before [] [] before
serves_none g c before = record { steps = []; run = tt; requests = refl; answers = refl; ends = refl }

-- one more request
serves_push : {S : Type 0} (g : Ghosts S) (c : Configuration) (before between after : S) (ms : List Message) (rs : List Reply) (m : Message) (r : Reply)
    → RepliesInOrder g c before ms rs between → StoreSteps g c between m r after → RepliesInOrder g c before (ms ++ m ∷ []) (rs ++ r ∷ []) after
serves_push {S} g c before between after ms rs m r p next =
    let s : Stepped S = record { message = m; reply = r; after = after } in
    record {
      steps = p.steps ++ s ∷ [];
      run = run_push (StoreSteps g c) before p.steps s p.run (subst (λ (x : S). StoreSteps g c x m r after) (sym p.ends) next);
      requests = asked_push p.steps s ∙ ap (λ (xs : List Message). xs ++ m ∷ []) p.requests;
      answers = told_push p.steps s ∙ ap (λ (xs : List Reply). xs ++ r ∷ []) p.answers;
      ends = end_push before p.steps s;
    }

-- the same at the next request of a list
pub serves_more : {S : Type 0} (g : Ghosts S) (c k : Configuration) → k ≡ c → (before between after : S) (requests : List Request) (i : ℕ) (q : Request) → i < length requests
    → q ≡ get_or requests i q → (rs : List Reply) (r : Reply) → RepliesInOrder g c before (map message_of (take i requests)) rs between → StoreSteps g k between (message_of q) r after
    → RepliesInOrder g c before (map message_of (take (i + 1) requests)) (rs ++ r ∷ []) after
serves_more g c k same before between after requests i q inside at rs r p next =
    let items : map message_of (take (i + 1) requests) ≡ map message_of (take i requests) ++ message_of q ∷ [] =
    map_more message_of requests i q inside ∙ ap (λ (x : Request). map message_of (take i requests) ++ message_of x ∷ []) (sym at) in
    rw items (serves_push g c before between after (map message_of (take i requests)) rs (message_of q) r p (subst (λ (x : Configuration). StoreSteps g x between (message_of q) r after) same next))

-- ---- runs one behind the other

run_more : {S : Type 0} (step : S → Message → Reply → S → Type 0) (before : S) (xs ys : List (Stepped S)) → IsRun step before xs → IsRun step (end_of before xs) ys → IsRun step before (xs ++ ys)
run_more step before [] ys h k = k
run_more step before (x ∷ xs) ys h k = (h.0, run_more step x.after xs ys h.1 k)

end_more : {S : Type 0} (before : S) (xs ys : List (Stepped S)) → end_of before (xs ++ ys) ≡ end_of (end_of before xs) ys
end_more before [] ys = refl
end_more before (x ∷ xs) ys = end_more x.after xs ys

messages_more : {S : Type 0} (xs ys : List (Stepped S)) → messages_of (xs ++ ys) ≡ messages_of xs ++ messages_of ys
messages_more [] ys = refl
messages_more (x ∷ xs) ys = ap (λ (ms : List Message). x.message ∷ ms) (messages_more xs ys)

replies_more : {S : Type 0} (xs ys : List (Stepped S)) → replies_of (xs ++ ys) ≡ replies_of xs ++ replies_of ys
replies_more [] ys = refl
replies_more (x ∷ xs) ys = ap (λ (rs : List Reply). x.reply ∷ rs) (replies_more xs ys)

pub serves_then : {S : Type 0} (g : Ghosts S) (c : Configuration) (before between after : S) (ms ns : List Message) (rs ss : List Reply)
    → RepliesInOrder g c before ms rs between → RepliesInOrder g c between ns ss after → RepliesInOrder g c before (ms ++ ns) (rs ++ ss) after
serves_then {S} g c before between after ms ns rs ss x y = record {
  steps = x.steps ++ y.steps;
  run = run_more (StoreSteps g c) before x.steps y.steps x.run (subst (λ (s : S). IsRun (StoreSteps g c) s y.steps) (sym x.ends) y.run);
  requests = messages_more x.steps y.steps ∙ ap (λ (l : List Message). l ++ messages_of y.steps) x.requests ∙ ap (λ (l : List Message). ms ++ l) y.requests;
  answers = replies_more x.steps y.steps ∙ ap (λ (l : List Reply). l ++ replies_of y.steps) x.answers ∙ ap (λ (l : List Reply). rs ++ l) y.answers;
  ends = end_more before x.steps y.steps ∙ ap (λ (s : S). end_of s y.steps) x.ends ∙ y.ends;
}

-- ---- the end of a stream

refusal_is : (ending : Ending) (end : StreamEnd) → IsEnding ending end → refusal_at ending ≡ last_replies end
refusal_is Open (unfinished rest) is = refl
refusal_is Open ended is = absurd is
refusal_is Open (faulty f) is = absurd is
refusal_is Last (unfinished rest) is = absurd is
refusal_is Last ended is = refl
refusal_is Last (faulty f) is = absurd is
refusal_is (Fault g) (unfinished rest) is = absurd is
refusal_is (Fault g) ended is = absurd is
refusal_is (Fault g) (faulty f) is = ap (λ x. refusal_at (Fault x)) is

last_is : (ending : Ending) (end : StreamEnd) → IsEnding ending end → (b : Bool) → (b ≡ true → ending ≢ Open) → (b ≡ false → ending ≡ Open) → b ≡ is_last end
last_is Open (unfinished rest) is true on off = absurd (on refl refl)
last_is Open (unfinished rest) is false on off = refl
last_is Open ended is b on off = absurd is
last_is Open (faulty f) is b on off = absurd is
last_is Last (unfinished rest) is b on off = absurd is
last_is Last ended is true on off = refl
last_is Last ended is false on off = absurd (let e = off refl in cc)
last_is Last (faulty f) is b on off = absurd is
last_is (Fault g) (unfinished rest) is b on off = absurd is
last_is (Fault g) ended is b on off = absurd is
last_is (Fault g) (faulty f) is true on off = refl
last_is (Fault g) (faulty f) is false on off = absurd (let e = off refl in cc)

-- a piece was cut, its requests answered, and the end of its stream too
pub fed : {S : Type 0} (g : Ghosts S) (before after : Serving S) (old new : ConnectionTable) (conn : ℕ) (piece : List ℕ) (cut : Cut) (answers list : List Reply) (last : Bool) (told now : Option (List FailedRequest))
    → IsCut old conn piece cut new → (g.is_honest after.store → RepliesInOrder g before.configuration before.store (cutting.messages_of cut) answers after.store)
    → list ≡ answers ++ refusal_at cut.ending → (last ≡ true → cut.ending ≢ Open) → (last ≡ false → cut.ending ≡ Open)
    → length answers ≡ length (cutting.messages_of cut) → Tells told now (failures_in (cutting.messages_of cut) answers)
    → IsFed g (record { node = before; connections = old; failures = told }) conn piece list last (record { node = after; connections = new; failures = now })
fed g before after old new conn piece cut answers list last told now t serves added on off each tells =
    record {
      rest = t.rest;
      was = t.was;
      messages = cutting.messages_of cut;
      end = t.end;
      cuts = t.cuts;
      answers = answers;
      replies = added ∙ ap (λ rs. answers ++ rs) (refusal_is cut.ending t.end t.ending);
      serves = serves;
      left = t.left;
      ends = last_is cut.ending t.end t.ending last on off;
      each = each;
      tells = tells;
    }
