-- A group of callers is told the same by runs that differ in requests of others on hidden databases alone.
use Rattle.std.proofs.Common.{◌≡◌, ◌∙◌, ℕ, Bool, true, false, ◌&&◌, not, bytes_eq, List, [], ◌∷◌, Option, Some, None, refl, sym, ap, subst}
use Rattle.std.proofs.lemmas.Slice.Eq.{bytes_eq-Decides}
use Rattle.std.specs.Prelude.{⊤}
use Rattle.auth.specs.Callers.{Configuration, Identity}
use Rattle.couch_http.specs.Message.{Message}
use Rattle.couch_http.specs.Reply.{Reply}
use Rattle.policy.specs.Security.{is_member}
use Rattle.store.specs.Contents.{Contents}
use Rattle.node.specs.Answer.{Outcome, answer, with_change}
use Rattle.node.specs.Hidden.{AreAlike, AreHidden, CallerGroup, Names, is_into, is_of_others, is_spared, is_struck}
use Rattle.node.specs.Runs.{AreServed, IsRun, IsServedReply, Stepped, Steps, messages_of}
use Rattle.node.specs.Step.{IsDone, reply_to}
use Rattle.node.proofs.Hiding.{alike_itself, alike_turned, answer_hidden, answer_stays, answer_struck, hidden_alike}
use Rattle.node.proofs.Steps.{step_done}
use Rattle.isolation.specs.Isolated.{IsolatedCaller, IsolatedWhenAlike, IsolatedWhenStruck}
use Rattle.isolation.specs.Struck.{AreHiddenFrom, AreHiddenFromThroughout, AreHiddenThroughout, are_same_roles, is_same_name, only, replies_to, struck, element_unless}

-- a struck request is one of others
of_others : (others into spared : Bool) → (others && (into && not spared)) ≡ true → others ≡ true
of_others true into spared e = refl
of_others false into spared e = absurd cc

module _ (c : Configuration) (group : CallerGroup) (names : Names) where
  -- ---- what is told, by the answers alone

  -- the replies to the group among the answers to these requests
  abbrev told : Contents → List Message → List Reply
  told a [] = []
  told a (m ∷ ms) = element_unless (is_of_others c group m) (reply_to (answer c a m) m.last) (told (with_change (answer c a m).change a) ms)

  -- the databases are hidden at each state on the way
  abbrev AreHiddenAlong : Contents → List Message → Type 0
  AreHiddenAlong a [] = AreHidden group names a
  AreHiddenAlong a (m ∷ ms) = AreHidden group names a × AreHiddenAlong (with_change (answer c a m).change a) ms

  done : (a : Contents) (s : Stepped Contents) → Steps c a s.message s.reply s.after → IsServedReply s.reply → IsDone (answer c a s.message) s.message.last a s.reply s.after
  done a s step served = step_done c a s.message (λ _. ⊤) s.reply s.after step served

  -- a step of a run from a state, by what it does to a state like it
  after_struck : (a b : Contents) (s : Stepped Contents) → AreAlike names a b → is_struck c group names s.message ≡ true → IsDone (answer c a s.message) s.message.last a s.reply s.after → AreAlike names s.after b
  after_struck a b s like struck_is d = subst (λ (x : Contents). AreAlike names x b) (sym d.1) (answer_struck c group names a b s.message struck_is like)

  after_stays : (a b : Contents) (s : Stepped Contents) → AreAlike names a b → AreHidden group names a → is_struck c group names s.message ≡ false → IsDone (answer c a s.message) s.message.last a s.reply s.after
      → AreAlike names s.after (with_change (answer c b s.message).change b)
  after_stays a b s like hidden stays d =
      subst (λ (x : Contents). AreAlike names x (with_change (answer c b s.message).change b)) (sym d.1) (answer_stays c group names a b s.message like hidden stays)

  -- where they are hidden through a run, they are hidden along the requests that are left
  hidden_along : (a b : Contents) (ss : List (Stepped Contents)) → AreAlike names a b → IsRun (Steps c) a ss → AreServed ss → AreHiddenThroughout group names a ss
      → AreHiddenAlong b (struck c group names (messages_of ss))
  hidden_along a b [] like run served hidden = hidden_alike group names a b like hidden
  hidden_along a b (s ∷ ss) like run served hidden =
      by (is_struck c group names s.message) refl (λ x alike. hidden_along s.after x ss alike run.1 served.1 hidden.1)
    where
      d : IsDone (answer c a s.message) s.message.last a s.reply s.after
      d = done a s run.0 served.0

      by : (is : Bool) → is_struck c group names s.message ≡ is → ((x : Contents) → AreAlike names s.after x → AreHiddenAlong x (struck c group names (messages_of ss)))
          → AreHiddenAlong b (element_unless is s.message (struck c group names (messages_of ss)))
      by true is rest = rest b (after_struck a b s like is d)
      by false is rest = (hidden_alike group names a b like hidden.0, rest (with_change (answer c b s.message).change b) (after_stays a b s like hidden.0 is d))

  -- what a run tells is what the answers tell to the requests that are left
  told_alike : (a b : Contents) (ss : List (Stepped Contents)) → AreAlike names a b → IsRun (Steps c) a ss → AreServed ss → AreHiddenAlong b (struck c group names (messages_of ss))
      → replies_to c group ss ≡ told b (struck c group names (messages_of ss))
  told_alike a b [] like run served hidden = refl
  told_alike a b (s ∷ ss) like run served hidden =
      by (is_struck c group names s.message) refl hidden (λ x alike along. told_alike s.after x ss alike run.1 served.1 along)
    where
      d : IsDone (answer c a s.message) s.message.last a s.reply s.after
      d = done a s run.0 served.0

      by : (is : Bool) → is_struck c group names s.message ≡ is → AreHiddenAlong b (element_unless is s.message (struck c group names (messages_of ss)))
          → ((x : Contents) → AreAlike names s.after x → AreHiddenAlong x (struck c group names (messages_of ss)) → replies_to c group ss ≡ told x (struck c group names (messages_of ss)))
          → element_unless (is_of_others c group s.message) s.reply (replies_to c group ss) ≡ told b (element_unless is s.message (struck c group names (messages_of ss)))
      by true is along rest =
          ap (λ (o : Bool). element_unless o s.reply (replies_to c group ss)) (of_others (is_of_others c group s.message) (is_into names s.message) (is_spared s.message) is)
          ∙ rest b (after_struck a b s like is d) along
      by false is along rest =
          let hidden_a : AreHidden group names a = hidden_alike group names b a (alike_turned names a b like) along.0 in
          let reply : s.reply ≡ reply_to (answer c b s.message) s.message.last =
          d.0 ∙ ap (λ (o : Outcome). reply_to o s.message.last) (answer_hidden c group names a b s.message like hidden_a is) in
          ap (λ (r : Reply). element_unless (is_of_others c group s.message) r (replies_to c group ss)) reply
          ∙ ap (λ (rs : List Reply). element_unless (is_of_others c group s.message) (reply_to (answer c b s.message) s.message.last) rs)
          (rest (with_change (answer c b s.message).change b) (after_stays a b s like hidden_a is d) along.1)

  -- ---- striking

  struck_again : (ms : List Message) → struck c group names (struck c group names ms) ≡ struck c group names ms
  struck_again [] = refl
  struck_again (m ∷ ms) = by (is_struck c group names m) refl (struck_again ms)
    where
      by : (is : Bool) → is_struck c group names m ≡ is → struck c group names (struck c group names ms) ≡ struck c group names ms
          → struck c group names (element_unless is m (struck c group names ms)) ≡ element_unless is m (struck c group names ms)
      by true is rest = rest
      by false is rest = ap (λ (b : Bool). element_unless b m (struck c group names (struck c group names ms))) is ∙ ap (λ (xs : List Message). m ∷ xs) rest

-- ---- runs

pub isolated_alike : IsolatedWhenAlike
isolated_alike c group names before start steps others like run other served and_served hidden same =
    let along = hidden_along c group names before before steps (alike_itself names before) run served hidden in
    told_alike c group names start before others (alike_turned names before start like) other and_served
    (subst (λ (ms : List Message). AreHiddenAlong c group names before ms) (sym same) along)
    ∙ ap (told c group names before) same
    ∙ sym (told_alike c group names before before steps (alike_itself names before) run served along)

pub isolated_struck : IsolatedWhenStruck
isolated_struck c group names before steps others run other served and_served hidden left =
    isolated_alike c group names before before steps others (alike_itself names before) run other served and_served hidden
    (ap (struck c group names) left ∙ struck_again c group names (messages_of steps))

-- ---- one caller

both_true : (a b : Bool) → (a && b) ≡ true → (a ≡ true) × (b ≡ true)
both_true true b e = (refl, e)
both_true false b e = absurd cc

name_is : (n o : Option (List ℕ)) → is_same_name n o ≡ true → n ≡ o
name_is None None e = refl
name_is None (Some o) e = absurd cc
name_is (Some n) None e = absurd cc
name_is (Some n) (Some o) e = ap Some ((bytes_eq-Decides n o).0 e)

roles_are : (rs os : List (List ℕ)) → are_same_roles rs os ≡ true → rs ≡ os
roles_are [] [] e = refl
roles_are [] (o ∷ os) e = absurd cc
roles_are (r ∷ rs) [] e = absurd cc
roles_are (r ∷ rs) (o ∷ os) e =
    let k = both_true (bytes_eq r o) (are_same_roles rs os) e in
    ap (λ (x : List ℕ). x ∷ rs) ((bytes_eq-Decides r o).0 k.0) ∙ ap (λ (xs : List (List ℕ)). o ∷ xs) (roles_are rs os k.1)

caller_is : (who caller : Identity) → only who caller ≡ true → who ≡ caller
caller_is who caller e =
    let k = both_true (is_same_name who.name caller.name) (are_same_roles who.roles caller.roles) e in
    let name = name_is who.name caller.name k.0 in
    let roles = roles_are who.roles caller.roles k.1 in
    λ i. record { name = name i; roles = roles i }

hidden_from : (who : Identity) (names : Names) (a : Contents) → AreHiddenFrom who names a → AreHidden (only who) names a
hidden_from who names a hidden caller name db own among there =
    subst (λ (x : Identity). is_member db.security x ≡ false) (caller_is who caller own) (hidden name db among there)

hidden_from_throughout : (who : Identity) (names : Names) (a : Contents) (ss : List (Stepped Contents)) → AreHiddenFromThroughout who names a ss → AreHiddenThroughout (only who) names a ss
hidden_from_throughout who names a [] hidden = hidden_from who names a hidden
hidden_from_throughout who names a (s ∷ ss) hidden = (hidden_from who names a hidden.0, hidden_from_throughout who names s.after ss hidden.1)

pub isolated_caller : IsolatedCaller
isolated_caller c who names before steps others run other served and_served hidden left =
    isolated_struck c (only who) names before steps others run other served and_served (hidden_from_throughout who names before steps hidden) left
