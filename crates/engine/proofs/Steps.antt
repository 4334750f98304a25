-- Acts of all connections, by their conversations.
use Rattle.std.proofs.Common.{◌≡◌, ◌∙◌, ℕ, ◌+◌, ◌≤◌, ◌<◌, List, [], ◌∷◌, length, Option, Some, Result, Ok, Err, OnOk, refl, sym, ap, ap₂, subst, arith}
use Rattle.std.specs.BTreeMap.{is_at}
use Rattle.std.specs.FinMap.{FinMap, empty, insert, len, len-empty, remove}
use Rattle.std.specs.Map.{lookup, set_value}
use Rattle.std.specs.Ordering.{nat_cmp}
use Rattle.store.specs.declared.store.Store.{Ghosts}
use Rattle.hub.specs.Connections.{next_connection}
use Rattle.hub.specs.Feeding.{HubState}
use Rattle.hub.specs.Service.{hub_with_connection, hub_without}
use Rattle.engine.specs.Acts.{Act, accepted, opened, closed, Logs}
use Rattle.engine.specs.Conversing.{Converses, GoesOnWithin, LeadsTo, standing_of}
use Rattle.engine.specs.Counts.{RunsWithin, accepted_in, opened_count}
use Rattle.engine.specs.Desks.{Deed, Runs, acts_in, new_desk}
use Rattle.engine.specs.Standing.{Standing, serving}
use Rattle.engine.specs.declared.conversation.Conversation.{Conversation}
use Rattle.engine.specs.declared.fault.EngineFault.{EngineFault}
use Rattle.engine.specs.inner.Rounds.{standings_of, state_of, with_unopened}
use Rattle.engine.proofs.Deeds.{goes_none, leads_more, leads_one, runs_plainly}
use Rattle.engine.proofs.Standings.{len_fewer, len_more, len_standings, remove_again, standings_none, standings_set, standings_there}

abbrev Talks : Type 0
Talks = List (ℕ × Conversation)

-- where no conversation is left, no connection is open
pub all_ended : (r : Result (Unit {0}) EngineFault) (es : Talks) (conns n count : ℕ) → OnOk r ((n ≡ conns) × (es ≡ [])) → count ≡ n
    → OnOk r ((count ≡ conns) × (standings_of es ≡ empty))
all_ended (Ok u) es conns n count ends is = (is ∙ ends.0, ap standings_of ends.1 ∙ standings_none)
all_ended (Err fault) es conns n count ends is = tt

module _ {S : Type 0} (g : Ghosts S) where
  -- each connection stands as it did
  pub goes_alike : {most : ℕ} (a b : HubState S) (es fs : Talks) (n k : ℕ) (u v : Option (List Act)) → b ≡ a → standings_of fs ≡ standings_of es → k ≡ n → Logs u v []
      → GoesOnWithin g most (state_of a es n u) (state_of b fs k v)
  goes_alike a b es fs n k u v same alike count l =
      goes_none g (ap₂ (λ (h : HubState S) (m : FinMap nat_cmp Standing). record { hub = h; standings = m }) same alike) count (omega arith) l

  -- one that was accepted isn't opened
  pub goes_unopened : {most : ℕ} (a b : HubState S) (es : Talks) (n : ℕ) (u v : Option (List Act)) → b ≡ a → Logs u v [] → GoesOnWithin g most (with_unopened (state_of a es n u)) (state_of b es n v)
  goes_unopened a b es n u v same l = goes_none g (ap (λ (h : HubState S). record { hub = h; standings = standings_of es }) same) refl (omega arith) l

  -- a connection is accepted, and at most one is then still to be opened
  leads_accepted : {most : ℕ} (a : HubState S) (es : Talks) (n more : ℕ) (u v : Option (List Act)) → more ≤ 1 → len (standings_of es) ≤ most → Logs u v (accepted ∷ [])
      → LeadsTo g most (state_of a es n u) (record (state_of a es (n + 1) v) { unopened = more })
  leads_accepted {most} a es n more u v few le l = record {
    deeds = record { act = accepted; words = [] } ∷ [];
    logs = l;
    runs = (record { hub = a; standings = standings_of es }, le, (refl, refl), (le, refl));
    accepts = omega arith;
    opens = omega (arith, few);
  }

  -- one more was accepted
  pub goes_accepted : {most : ℕ} (a : HubState S) (es : Talks) (n : ℕ) (u v : Option (List Act)) → Logs u v (accepted ∷ []) → GoesOnWithin g most (state_of a es n u) (state_of a es (n + 1) v)
  goes_accepted a es n u v l = record { leads = λ room. leads_accepted a es n 0 u v (omega arith) (omega (arith, room)) l }

  -- and then opened or not
  pub goes_opened : {most : ℕ} (a b : HubState S) (es fs : Talks) (n k : ℕ) (u v w : Option (List Act)) → length es < most → Logs u v (accepted ∷ [])
      → GoesOnWithin g most (with_unopened (state_of a es (n + 1) v)) (state_of b fs k w) → GoesOnWithin g most (state_of a es n u) (state_of b fs k w)
  goes_opened {most} a b es fs n k u v w lt l more = record {
    leads = λ room. let few = len_standings es in
        leads_more g (leads_accepted {most = most} a es n 1 u v (omega arith) (omega (arith, room)) l) (more.leads (omega (arith, few, lt)));
  }

  -- a connection that was accepted is opened
  leads_opened : {most : ℕ} (a b : HubState S) (es : Talks) (m : FinMap nat_cmp Standing) (conn n : ℕ) (u v : Option (List Act)) → conn ≡ next_connection a.connections → b ≡ hub_with_connection a
      → m ≡ insert (standings_of es) conn (serving []) → Logs u v (opened conn ∷ []) → len (standings_of es) + 1 ≤ most
      → LeadsTo g most (with_unopened (state_of a es n u)) (record { desk = record { hub = b; standings = m }; log = v; accepted = n; unopened = 0 })
  leads_opened {most} a b es m conn n u v next is begins l room = record {
    deeds = record { act = opened conn; words = [] } ∷ [];
    logs = l;
    runs = (
      record { hub = b; standings = m },
      omega (arith, room),
      (refl, next, ap₂ (λ (h : HubState S) (x : FinMap nat_cmp Standing). record { hub = h; standings = x }) is begins),
      (bound, refl),
    );
    accepts = omega arith;
    opens = omega arith;
  }
    where
      bound : len m ≤ most
      bound = let same = ap len begins in let more = len_more (standings_of es) conn (serving []) in omega (arith, same, more, room)

  -- its conversation has begun
  pub goes_begun : {most : ℕ} (a b : HubState S) (es fs : Talks) (conn n k : ℕ) (u v : Option (List Act)) → conn ≡ next_connection a.connections → b ≡ hub_with_connection a
      → standings_of fs ≡ insert (standings_of es) conn (serving []) → k ≡ n → Logs u v (opened conn ∷ []) → GoesOnWithin g most (with_unopened (state_of a es n u)) (state_of b fs k v)
  goes_begun {most} a b es fs conn n k u v next is begins count l =
      subst (λ (j : ℕ). GoesOnWithin g most (with_unopened (state_of a es n u)) (state_of b fs j v)) (sym count)
      (record { leads = λ room. leads_opened a b es (standings_of fs) conn n u v next is begins l room })

  -- a connection is closed
  leads_closed : {most : ℕ} (a b : HubState S) (m k : FinMap nat_cmp Standing) (conn n : ℕ) (u v : Option (List Act)) → b ≡ hub_without conn a → k ≡ remove m conn → Logs u v (closed conn ∷ []) → len m ≤ most
      → LeadsTo g most (record { desk = record { hub = a; standings = m }; log = u; accepted = n; unopened = 0 }) (record { desk = record { hub = b; standings = k }; log = v; accepted = n; unopened = 0 })
  leads_closed {most} a b m k conn n u v gone ends l le =
      leads_one g (record { act = closed conn; words = [] }) refl refl refl (omega arith) le
      (let same = ap len ends in let fewer = len_fewer m conn in omega (arith, same, fewer, le)) l
      (refl, ap₂ (λ (h : HubState S) (x : FinMap nat_cmp Standing). record { hub = h; standings = x }) gone ends)

  pub goes_closed : {most : ℕ} (a b : HubState S) (es fs : Talks) (conn n k : ℕ) (u v : Option (List Act)) → b ≡ hub_without conn a → standings_of fs ≡ remove (standings_of es) conn → k ≡ n
      → Logs u v (closed conn ∷ []) → GoesOnWithin g most (state_of a es n u) (state_of b fs k v)
  goes_closed {most} a b es fs conn n k u v gone ends count l =
      subst (λ (j : ℕ). GoesOnWithin g most (state_of a es n u) (state_of b fs j v)) (sym count)
      (record { leads = λ room. leads_closed a b (standings_of es) (standings_of fs) conn n u v gone ends l (omega (arith, room)) })

  -- or it was opened and closed at once
  pub goes_away : {most : ℕ} (a b d : HubState S) (es fs : Talks) (conn n k : ℕ) (u v w : Option (List Act)) → conn ≡ next_connection a.connections → b ≡ hub_with_connection a → Logs u v (opened conn ∷ [])
      → d ≡ hub_without conn b → standings_of fs ≡ remove (standings_of es) conn → k ≡ n → Logs v w (closed conn ∷ []) → GoesOnWithin g most (with_unopened (state_of a es n u)) (state_of d fs k w)
  goes_away {most} a b d es fs conn n k u v w next is first gone ends count second =
      subst (λ (j : ℕ). GoesOnWithin g most (with_unopened (state_of a es n u)) (state_of d fs j w)) (sym count)
      (record {
        leads = λ room. leads_more g
            (leads_opened a b es (insert (standings_of es) conn (serving [])) conn n u v next is refl first room)
            (leads_closed b d (insert (standings_of es) conn (serving [])) (standings_of fs) conn n v w gone (ends ∙ sym (remove_again (standings_of es) conn (serving []))) second
            (let more = len_more (standings_of es) conn (serving []) in omega (arith, more, room)));
      })

  -- a conversation goes on
  pub goes_talk : {most : ℕ} (a b : HubState S) (es fs : Talks) (conn n : ℕ) (x y : Conversation) (u v : Option (List Act)) → lookup (is_at (nat_cmp conn)) es ≡ Some x → fs ≡ set_value (is_at (nat_cmp conn)) es y
      → Converses g conn (record { hub = a; standing = standing_of x; log = u }) (record { hub = b; standing = standing_of y; log = v })
      → GoesOnWithin g most (state_of a es n u) (state_of b fs n v)
  goes_talk {most} a b es fs conn n x y u v at is talks = record {
    leads = λ room.
        let was = standings_there es conn x at in
        let now = standings_set es fs conn x y at is in
        let same = ap len was in
        let l = (talks.goes_on most (standings_of es)).leads (omega (arith, same, room)) in
        record {
          deeds = l.deeds;
          logs = l.logs;
          runs = subst (λ (m : FinMap nat_cmp Standing). RunsWithin g most (record { hub = a; standings = m }) l.deeds (record { hub = b; standings = standings_of fs })) was
              (subst (λ (m : FinMap nat_cmp Standing). RunsWithin g most (record { hub = a; standings = insert (standings_of es) conn (standing_of x) }) l.deeds (record { hub = b; standings = m })) (sym now) l.runs);
          accepts = let none = l.accepts in omega (arith, none);
          opens = let few = l.opens in omega (arith, few);
        };
  }

  -- all of it from the first moment on, when there were no conversations
  pub record Begun (most : ℕ) (a b : HubState S) (fs : Talks) (k : ℕ) (u v : Option (List Act)) : Type 0 where
    pub deeds : List Deed
    pub logs : Logs u v (acts_in deeds)
    pub runs : RunsWithin g most (new_desk a) deeds (record { hub = b; standings = standings_of fs })
    pub plain : Runs g (new_desk a) deeds (record { hub = b; standings = standings_of fs })
    pub count : accepted_in (acts_in deeds) ≡ k
    pub opens : opened_count (acts_in deeds) ≤ accepted_in (acts_in deeds)

  pub begun_within : (most : ℕ) (a b : HubState S) (es fs : Talks) (n k : ℕ) (u v : Option (List Act)) → es ≡ [] → n ≡ 0 → GoesOnWithin g most (state_of a es n u) (state_of b fs k v) → Begun most a b fs k u v
  begun_within most a b es fs n k u v none zero goes =
      let same : standings_of es ≡ empty = ap standings_of none ∙ standings_none in
      let nobody = ap len same ∙ len-empty nat_cmp Standing in
      let l = goes.leads (omega (arith, nobody)) in
      let runs : RunsWithin g most (new_desk a) l.deeds (record { hub = b; standings = standings_of fs }) =
      subst (λ (m : FinMap nat_cmp Standing). RunsWithin g most (record { hub = a; standings = m }) l.deeds (record { hub = b; standings = standings_of fs })) same l.runs in
      record {
        deeds = l.deeds;
        logs = l.logs;
        runs = runs;
        plain = runs_plainly g most (new_desk a) (record { hub = b; standings = standings_of fs }) l.deeds runs;
        count = let x = l.accepts in omega (arith, x, zero);
        opens = let x = l.opens in omega (arith, x);
      }
