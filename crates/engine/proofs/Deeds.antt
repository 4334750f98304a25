-- Deeds that are logged and run, one after another.
use Rattle.std.proofs.Common.{◌≡◌, ◌∙◌, ℕ, ◌+◌, ◌≤◌, List, [], ◌∷◌, ◌++◌, Option, Some, None, refl, sym, ap, subst, append_assoc, append-nil, arith}
use Rattle.std.specs.FinMap.{len}
use Rattle.store.specs.declared.store.Store.{Ghosts}
use Rattle.engine.specs.Acts.{Act, accepted, brought, closed, opened, took, Logs}
use Rattle.engine.specs.Conversing.{GoesOnWithin, LeadsTo, ServerState}
use Rattle.engine.specs.Counts.{RunsWithin, accepted_in, opened_count}
use Rattle.engine.specs.Desks.{Deed, Desk, Does, Runs, acts_in}

-- ---- logs

pub logs_none : (a : Option (List Act)) → Logs a a []
logs_none None = tt
logs_none (Some xs) = sym (append-nil xs)

pub logs_more : (a b c : Option (List Act)) (xs ys : List Act) → Logs a b xs → Logs b c ys → Logs a c (xs ++ ys)
logs_more None b c xs ys h k = tt
logs_more (Some us) None c xs ys h k = absurd h
logs_more (Some us) (Some vs) None xs ys h k = absurd k
logs_more (Some us) (Some vs) (Some ws) xs ys h k = k ∙ ap (λ (l : List Act). l ++ ys) h ∙ append_assoc us xs ys

-- ---- acts

acts_more : (xs ys : List Deed) → acts_in (xs ++ ys) ≡ acts_in xs ++ acts_in ys
acts_more [] ys = refl
acts_more (x ∷ xs) ys = ap (λ (l : List Act). x.act ∷ l) (acts_more xs ys)

accepted_more : (xs ys : List Act) → accepted_in (xs ++ ys) ≡ accepted_in xs + accepted_in ys
accepted_more [] ys = omega arith
accepted_more (accepted ∷ xs) ys = let e = accepted_more xs ys in omega (arith, e)
accepted_more (opened c ∷ xs) ys = accepted_more xs ys
accepted_more (brought c bytes ∷ xs) ys = accepted_more xs ys
accepted_more (took c bytes ∷ xs) ys = accepted_more xs ys
accepted_more (closed c ∷ xs) ys = accepted_more xs ys

opened_more : (xs ys : List Act) → opened_count (xs ++ ys) ≡ opened_count xs + opened_count ys
opened_more [] ys = omega arith
opened_more (accepted ∷ xs) ys = opened_more xs ys
opened_more (opened c ∷ xs) ys = let e = opened_more xs ys in omega (arith, e)
opened_more (brought c bytes ∷ xs) ys = opened_more xs ys
opened_more (took c bytes ∷ xs) ys = opened_more xs ys
opened_more (closed c ∷ xs) ys = opened_more xs ys

module _ {S : Type 0} (g : Ghosts S) where
  -- ---- runs

  runs_more : (most : ℕ) (a b c : Desk S) (xs ys : List Deed) → RunsWithin g most a xs b → RunsWithin g most b ys c → RunsWithin g most a (xs ++ ys) c
  runs_more most a b c [] ys (bound, is) k = subst (λ (d : Desk S). RunsWithin g most d ys c) is k
  runs_more most a b c (x ∷ xs) ys (mid, bound, does, rest) k = (mid, bound, does, runs_more most mid b c xs ys rest k)

  -- what runs within bounds, runs
  pub runs_plainly : (most : ℕ) (a b : Desk S) (xs : List Deed) → RunsWithin g most a xs b → Runs g a xs b
  runs_plainly most a b [] (bound, is) = is
  runs_plainly most a b (x ∷ xs) (mid, bound, does, rest) = (mid, does, runs_plainly most mid b xs rest)

  -- and is within them at its end
  bound_after : (most : ℕ) (a b : Desk S) (xs : List Deed) → RunsWithin g most a xs b → len b.standings ≤ most
  bound_after most a b [] (bound, is) = subst (λ (d : Desk S). len d.standings ≤ most) (sym is) bound
  bound_after most a b (x ∷ xs) (mid, bound, does, rest) = bound_after most mid b xs rest

  -- ---- states

  -- no deed
  pub leads_none : {most : ℕ} {a b : ServerState S} → b.desk ≡ a.desk → b.accepted ≡ a.accepted → b.unopened ≤ a.unopened → len a.desk.standings ≤ most → Logs a.log b.log []
      → LeadsTo g most a b
  leads_none same count fewer le l = record { deeds = []; logs = l; runs = (le, same); accepts = omega (arith, count); opens = omega (arith, fewer) }

  -- one deed, which neither accepts a connection nor opens one
  pub leads_one : {most : ℕ} {a b : ServerState S} (d : Deed) → accepted_in (d.act ∷ []) ≡ 0 → opened_count (d.act ∷ []) ≡ 0 → b.accepted ≡ a.accepted → b.unopened ≤ a.unopened
      → len a.desk.standings ≤ most → len b.desk.standings ≤ most → Logs a.log b.log (d.act ∷ []) → Does g a.desk d.act d.words b.desk → LeadsTo g most a b
  leads_one {b = b} d quiet shut count fewer le bound l does = record {
    deeds = d ∷ [];
    logs = l;
    runs = (b.desk, le, does, (bound, refl));
    accepts = omega (arith, quiet, count);
    opens = omega (arith, shut, fewer);
  }

  pub leads_more : {most : ℕ} {a b c : ServerState S} → LeadsTo g most a b → LeadsTo g most b c → LeadsTo g most a c
  leads_more {most} {a} {b} {c} l o =
      record {
        deeds = l.deeds ++ o.deeds;
        logs = subst (λ (xs : List Act). Logs a.log c.log xs) (sym (acts_more l.deeds o.deeds)) (logs_more a.log b.log c.log (acts_in l.deeds) (acts_in o.deeds) l.logs o.logs);
        runs = runs_more most a.desk b.desk c.desk l.deeds o.deeds l.runs o.runs;
        accepts = let x = ap accepted_in (acts_more l.deeds o.deeds) ∙ accepted_more (acts_in l.deeds) (acts_in o.deeds) in
            let y = l.accepts in let z = o.accepts in omega (arith, x, y, z);
        opens = let x = ap accepted_in (acts_more l.deeds o.deeds) ∙ accepted_more (acts_in l.deeds) (acts_in o.deeds) in
            let y = ap opened_count (acts_more l.deeds o.deeds) ∙ opened_more (acts_in l.deeds) (acts_in o.deeds) in
            let z = l.opens in let t = o.opens in omega (arith, x, y, z, t);
      }

  -- how many are open at the end
  pub leads_bound : {most : ℕ} {a b : ServerState S} → LeadsTo g most a b → len b.desk.standings ≤ most
  leads_bound {most} {a} {b} l = bound_after most a.desk b.desk l.deeds l.runs

  pub goes_none : {most : ℕ} {a b : ServerState S} → b.desk ≡ a.desk → b.accepted ≡ a.accepted → b.unopened ≤ a.unopened → Logs a.log b.log [] → GoesOnWithin g most a b
  goes_none same count fewer l = record { leads = λ room. leads_none same count fewer (omega (arith, room)) l }

  -- one behind the other, where no connection is still to be opened between them
  pub goes_more : {most : ℕ} {a b c : ServerState S} → GoesOnWithin g most a b → b.unopened ≡ 0 → GoesOnWithin g most b c → GoesOnWithin g most a c
  goes_more first none second = record {
    leads = λ room. let l = first.leads room in let bound = leads_bound l in leads_more l (second.leads (omega (arith, none, bound)));
  }
