-- One connection more, and none of many.
use Rattle.std.proofs.Common.{◌≡◌, ◌≢◌, ◌∙◌, ◌<◌, ℕ, ◌+◌, true, false, List, [], ◌∷◌, ◌++◌, None, refl, sym, ap, subst, arith, append_assoc, append-nil, length, length-append, true≢false}
use Rattle.std.specs.FinMap.{empty, len-empty}
use Rattle.std.specs.Ordering.{nat_cmp}
use Rattle.std.specs.Prelude.{OnErr, OnOk, Result, Ok, Err}
use Rattle.std.specs.Result.{IsErrAnd}
use Rattle.store.specs.declared.store.Store.{Ghosts}
use Rattle.hub.specs.Feeding.{HubState}
use Rattle.engine.specs.Counts.{ServesWithin}
use Rattle.engine.specs.Desks.{Moment}
use Rattle.engine.specs.Standing.{Standing}
use Rattle.server.specs.Accepting.{AreConnections, Serves, ServesEach, ServesOne}
use Rattle.server.specs.Serving.{ServesMany, ServesManyWithin, limits_of}
use Rattle.server.specs.declared.acceptance.Acceptance.{Acceptance}
use Rattle.server.specs.declared.acceptance.Acceptance.TheVariants.{Failed}

-- so many connections were accepted or reset, and served
pub record HasServed {S : Type 0} (g : Ghosts S) (count : ℕ) (before after : List Acceptance) (old new : HubState S) : Type 0 where
  pub accepted : List Acceptance
  pub logged : after ≡ before ++ accepted
  pub serves : ServesEach g accepted old new
  pub counted : length accepted ≡ count
  pub connections : AreConnections accepted

pub has_served_none : {S : Type 0} (g : Ghosts S) (log : List Acceptance) (hub : HubState S) → HasServed g 0 log log hub hub
has_served_none g log hub = record { accepted = []; logged = sym (append-nil log); serves = refl; counted = refl; connections = tt }

serves_last : {S : Type 0} (g : Ghosts S) (accepted : List Acceptance) (a : Acceptance) (old between new : HubState S) → ServesEach g accepted old between → ServesOne g a between new
    → ServesEach g (accepted ++ a ∷ []) old new
serves_last {S} g [] a old between new before one = (new, subst (λ (h : HubState S). ServesOne g a h new) before one, refl)
serves_last g (first ∷ others) a old between new before one = (before.0, before.1, serves_last g others a before.0 between new before.2 one)

connections_last : (accepted : List Acceptance) (a : Acceptance) → AreConnections accepted → a ≢ Failed → AreConnections (accepted ++ a ∷ [])
connections_last [] a before one = (one, tt)
connections_last (first ∷ others) a before one = (before.0, connections_last others a before.1 one)

module _ {S : Type 0} (g : Ghosts S) (count : ℕ) (start log after : List Acceptance) (a : Acceptance) (old between new : HubState S) where
  more_logged : (accepted : List Acceptance) → log ≡ start ++ accepted → after ≡ log ++ a ∷ [] → after ≡ start ++ (accepted ++ a ∷ [])
  more_logged accepted is one = one ∙ ap (λ l. l ++ a ∷ []) is ∙ append_assoc start accepted (a ∷ [])

  pub serves_one_more : HasServed g count start log old between → after ≡ log ++ a ∷ [] → ServesOne g a between new → a ≢ Failed → HasServed g (count + 1) start after old new
  serves_one_more h one serves fine = record {
    accepted = h.accepted ++ a ∷ [];
    logged = more_logged h.accepted h.logged one;
    serves = serves_last g h.accepted a old between new h.serves serves;
    counted = grind (arith, h.counted, length-append h.accepted (a ∷ []));
    connections = connections_last h.accepted a h.connections fine;
  }

  pub serves_no_more : (conns : ℕ) → count < conns → HasServed g count start log old between → after ≡ log ++ a ∷ [] → ServesOne g a between new → a ≡ Failed
      → Serves g conns start after false old new
  serves_no_more conns less h one serves failed = record {
    accepted = h.accepted ++ a ∷ [];
    logged = more_logged h.accepted h.logged one;
    serves = serves_last g h.accepted a old between new h.serves serves;
    all = λ e. absurd (true≢false (sym e));
    failed = λ _. (
      grind (arith, less, h.counted, length-append h.accepted (a ∷ [])),
      (h.accepted, ap (λ (last : Acceptance). h.accepted ++ last ∷ []) failed, h.connections),
    );
  }

pub serves_all : {S : Type 0} (g : Ghosts S) (count conns : ℕ) (before after : List Acceptance) (old new : HubState S) → count ≡ conns → HasServed g count before after old new
    → Serves g conns before after true old new
serves_all g count conns before after old new many h = record {
  accepted = h.accepted;
  logged = h.logged;
  serves = h.serves;
  all = λ _. (h.counted ∙ many, h.connections);
  failed = λ e. absurd (true≢false e);
}

-- what holds at a refusal, where it holds
pub on_err : {A E X : Type 0} (r : Result A E) → X → OnErr r X
on_err (Ok a) x = tt
on_err (Err e) x = x

-- where nothing was done
pub serves_none : {S : Type 0} (g : Ghosts S) (hub : HubState S) → ServesMany g hub hub
serves_none g hub = (None, None, record { deeds = []; standings = empty; logs = tt; runs = refl })

-- and within any limits, where that is a refusal
pub within_none : {S A E : Type 0} (P : E → Type 0) (g : Ghosts S) (conns at_once : ℕ) (r : Result A E) (hub : HubState S) → IsErrAnd r P → ServesManyWithin g (limits_of conns at_once) r hub hub
within_none P g conns at_once (Ok a) hub refused = absurd refused
within_none P g conns at_once (Err e) hub refused =
    let nobody = len-empty nat_cmp Standing in (
      None,
      None,
      record { deeds = []; standings = empty; logs = tt; runs = (omega (arith, nobody), refl); accepts = omega arith; opens = omega arith; ends = tt },
    )

-- what was served within the engine's limits, by the words of the program, whose answer is `Ok` where the engine's is
pub within_words : {S A E B F : Type 0} (g : Ghosts S) (conns at_once n : ℕ) (r : Result A E) (s : Result B F) (old new : Moment S) → n ≡ conns → ServesWithin g (limits_of n at_once) r old new
    → ((X : Type 0) → OnOk r X → OnOk s X) → ServesWithin g (limits_of conns at_once) s old new
within_words g conns at_once n r s old new is w same =
    let v = subst (λ (k : ℕ). ServesWithin g (limits_of k at_once) r old new) is w in
    record { deeds = v.deeds; standings = v.standings; logs = v.logs; runs = v.runs; accepts = v.accepts; opens = v.opens; ends = same _ v.ends }
