-- A run of a network in which two passes alone write is a crossing of the two.
use Rattle.std.proofs.Common.{◌≡◌, ◌≢◌, ◌≤◌, ◌⊎◌, ⊎_elim, inl, inr, ℕ, List, [], ◌∷◌, ◌++◌, Option, Some, None, refl, sym, ap, ◌∙◌, subst}
use Rattle.std.specs.Prelude.{IfSome}
use Rattle.std.specs.Coded.{Coded-set, coded_list, coded_option}
use Rattle.std.proofs.Math.Bool.{Bool-set}
use Rattle.std.proofs.Math.Logic.{∥∥₁_elim, ∥∥₁_map}
use Rattle.std.proofs.lemmas.Bool.{cases_eq}
use Rattle.couch_http.specs.Message.{Message}
use Rattle.couch_http.specs.Reply.{Reply}
use Rattle.store.specs.Contents.{Contents}
use Rattle.tree.specs.HistoryCode.{held_code}
use Rattle.tree.specs.Revision.{revision_code}
use Rattle.store.specs.Database.{Database, history_at}
use Rattle.node.specs.Runs.{Steps}
use Rattle.repl.specs.Configuration.{PassConfiguration}
use Rattle.repl.specs.Passes.{Pass, asked_of}
use Rattle.repl.specs.Turns.{after_turn}
use Rattle.passes.specs.Owed.{listed_after}
use Rattle.world.specs.Exchanging.{IsAsked}
use Rattle.world.specs.Happening.{Happening, Sight, comes, exchanges}
use Rattle.world.specs.Keeping.{StaysAt}
use Rattle.world.specs.Network.{Network, Transfer, transfer_at}
use Rattle.world.specs.Playing.{Happens, Plays}
use Rattle.world.specs.Service.{Asker, Handling, IsHandled, alike}
use Rattle.world.specs.declared.fate.Fate.{Fate}
use Rattle.replication.specs.Requests.{requests_of}
use Rattle.replication.specs.Runs.{Run}
use Rattle.replication.proofs.Again.{run_again}
use Rattle.replication.specs.Finished.{IsTold, database_at, source_of, target_of}
use Rattle.replication.proofs.Keepings.{LawfulAt, all_lawful, lawful_at}
use Rattle.replication.proofs.Places.{one_transfer, passed_elsewhere, passed_here}
use Rattle.replication.proofs.Sound.{IsSound as IsSoundPass, first_sound}
use Rattle.replication.specs.Agreement.{HaveSameTree}
use Rattle.replication.specs.Appended.{KeepsDocuments}
use Rattle.replication.specs.Converged.{HasCopiedAll, IsPair}
use Rattle.replication.specs.Crossing.{Crossed, Crosses, PairState, Move, goes_back, goes_there, others}
use Rattle.replication.specs.Networks.{AreAhead, AreOpposite, AreTheirs, BecomesAt, QuietCourse, HasEnded, IsAhead, ArrangesPasses, IsOneOf, KeepsBoth, PassesOfANetworkConverge, QuietStage, StaysOrStarts, TwoPasses, arranges, runs, AreReconcilable, CoursesKeepAgreement, CoursesKeepBoth}
use Rattle.replication.specs.Sound.{AreWritable, IsSound}
use Rattle.replication.proofs.Handlings.{Nodes, into, lawful_after}
use Rattle.replication.proofs.Others.{others_asked, others_service}
use Rattle.replication.proofs.Quiet.{same_documents}
use Rattle.replication.proofs.Crossings.{keep_pair, two_converge}
use Rattle.passes.proofs.Rounds.{turn_configured}
use Rattle.replication.proofs.Turnings.{HasTurned, has_turned, turned}

-- ---- a request of the two passes, or of others

-- A request is handled. Where neither of the two passes asks, both databases stay, and no document is written in them.
abbrev Only : ℕ → ℕ → Transfer → Handling Contents
Only p q t who old place m reply new = IsHandled Steps old place m reply new × (IsOneOf p q who ⊎ KeepsBoth t old new)

only_theirs : (two : TwoPasses) (old new : Network Contents) (run : Run (alike Steps) old new) → AreTheirs two (requests_of run)
    → Run (Only two.there_number two.back_number two.there) old new
only_theirs two old new run h =
    (run_again (alike Steps) (Only two.there_number two.back_number two.there) (λ r. IsOneOf two.there_number two.back_number r.who ⊎ KeepsBoth two.there r.old r.new)
    (λ who a place m r b handled theirs. (handled, theirs)) old new run h).0

-- ---- what others do

-- the nodes stay lawful, and both databases are as they were
record Spares (t : Transfer) (old new : Nodes) : Type 0 where
  lawful : LawfulAt old → LawfulAt new
  both : KeepsBoth t old new

documents_still : (a b c : Database) → KeepsDocuments a b → KeepsDocuments b c → KeepsDocuments a c
documents_still a b c h g = record { length = g.length ∙ h.length; documents = g.documents ∙ h.documents }

pub stays_still : (a b c : Nodes) (place : ℕ) (name : List ℕ) → StaysAt a b place name → StaysAt b c place name → StaysAt a c place name
stays_still a b c place name first then db at = let k = first db at in then k.0 k.1

pub as_is : (a : Nodes) (place : ℕ) (name : List ℕ) → BecomesAt a place name a KeepsDocuments
as_is a place name = (same_documents (database_at a place name), λ db at. (db, at))

pub becomes_still : (place : ℕ) (name : List ℕ) (a b c : Nodes) → BecomesAt a place name b KeepsDocuments → BecomesAt b place name c KeepsDocuments → BecomesAt a place name c KeepsDocuments
becomes_still place name a b c first then =
    (documents_still (database_at a place name) (database_at b place name) (database_at c place name) first.0 then.0, stays_still a b c place name first.1 then.1)

spares_itself : (t : Transfer) (a : Nodes) → Spares t a a
spares_itself t a = record { lawful = λ h. h; both = (as_is a t.from t.pass.configuration.source_db, as_is a t.to t.pass.configuration.target_db) }

spares_still : (t : Transfer) (a b c : Nodes) → Spares t a b → Spares t b c → Spares t a c
spares_still t a b c h g = record {
  lawful = λ k. g.lawful (h.lawful k);
  both = (becomes_still t.from t.pass.configuration.source_db a b c h.both.0 g.both.0, becomes_still t.to t.pass.configuration.target_db a b c h.both.1 g.both.1);
}

abbrev IsOther : ℕ → ℕ → Asker → Type 0
IsOther p q who = IsOneOf p q who → ⊥

spared : (p q : ℕ) (t : Transfer) (who : Asker) (old : Nodes) (place : ℕ) (m : Message) (r : Reply) (new : Nodes) → IsOther p q who → Only p q t who old place m r new → Spares t old new
spared p q t who old place m r new none h = record { lawful = lawful_after old new place m r h.0; both = ⊎_elim (λ k. absurd (none k)) (λ k. k) h.1 }

-- ---- where the two passes stand

-- a pass under its number, or one that is still to be started
abbrev IsHere : Transfer → Pass → Option Transfer → Type 0
IsHere t pass there = (there ≡ Some (record t { pass = pass })) ⊎ ((there ≡ None) × (pass ≡ t.pass))

-- where there is a pass under the number, it is this one
present : (t : Transfer) (pass : Pass) (x : Transfer) (there : Option Transfer) → IsHere t pass there → there ≡ Some x → there ≡ Some (record t { pass = pass })
present t pass x there (inl e) is = e
present t pass x there (inr none) is = absurd (let k : (let y : Option Transfer = None in y) ≡ Some x = sym none.0 ∙ is in cc)

here_still : (t : Transfer) (pass : Pass) (before after : Option Transfer) → after ≡ before → IsHere t pass before → IsHere t pass after
here_still t pass before after e h = subst (IsHere t pass) (sym e) h

-- this database is there, at a place and under a name whose database has stayed since the base
record StandsAt (base now : Nodes) (place : ℕ) (name : List ℕ) (db : Database) : Type 0 where
  is : database_at now place name ≡ db
  stays : StaysAt base now place name

record Stand (p q : ℕ) (t u : Transfer) (base : Nodes) (now : Network Contents) (c : PairState) : Type 0 where
  there : IsHere t c.there (transfer_at now.transfers p)
  back : IsHere u c.back (transfer_at now.transfers q)
  there_same : c.there.configuration ≡ t.pass.configuration
  back_same : c.back.configuration ≡ u.pass.configuration
  there_sound : IsSoundPass c.there
  back_sound : IsSoundPass c.back
  lawful : LawfulAt now.nodes
  one : StandsAt base now.nodes t.from t.pass.configuration.source_db c.one
  other : StandsAt base now.nodes t.to t.pass.configuration.target_db c.other

at_moved : (nodes : Nodes) (a b : ℕ) (k l : List ℕ) (db : Database) → a ≡ b → k ≡ l → database_at nodes a k ≡ db → database_at nodes b l ≡ db
at_moved nodes a b k l db e f at = subst (λ (x : ℕ). database_at nodes x l ≡ db) e (subst (λ (n : List ℕ). database_at nodes a n ≡ db) f at)

-- a database that is there after a turn, by the place and the name that a pass has for it
stands_on : (base old new : Nodes) (a b : ℕ) (k l : List ℕ) (before db : Database) → a ≡ b → k ≡ l → database_at new a k ≡ db → StaysAt old new a k → StandsAt base old b l before → StandsAt base new b l db
stands_on base old new a b k l before db e f at stays s = record {
  is = at_moved new a b k l db e f at;
  stays = stays_still base old new b l s.stays (subst (λ (x : ℕ). StaysAt old new x l) e (subst (λ (n : List ℕ). StaysAt old new a n) f stays));
}

-- some moves on
record Next (p q : ℕ) (t u : Transfer) (base : Nodes) (new : Network Contents) (c : PairState) : Type 0 where
  moves : List Move
  crossing : PairState
  crosses : Crosses moves c crossing
  stand : Stand p q t u base new crossing

crosses_more : (ms ns : List Move) (a b c : PairState) → Crosses ms a b → Crosses ns b c → Crosses (ms ++ ns) a c
crosses_more [] ns a b c is then = subst (λ (x : PairState). Crosses ns x c) is then
crosses_more (m ∷ ms) ns a b c (between, here, later) then = (between, here, crosses_more ms ns between b c later then)

-- others do what writes no document
module _ (p q : ℕ) (t u : Transfer) (base : Nodes) where
  others_move : (old new : Network Contents) (c : PairState) → Stand p q t u base old c → Spares t old.nodes new.nodes → transfer_at new.transfers p ≡ transfer_at old.transfers p
      → transfer_at new.transfers q ≡ transfer_at old.transfers q → Next p q t u base new c
  others_move old new c s spares there back =
      let a = into old.nodes t.from t.pass.configuration.source_db new.nodes KeepsDocuments spares.both.0 c.one s.one.is in
      let b = into old.nodes t.to t.pass.configuration.target_db new.nodes KeepsDocuments spares.both.1 c.other s.other.is in
      let after : PairState = record c { one = a.0; other = b.0 } in
      record {
        moves = others ∷ [];
        crossing = after;
        crosses = (after, (a.2, b.2, (refl, refl), (refl, refl)), refl);
        stand = record {
          there = here_still t c.there (transfer_at old.transfers p) (transfer_at new.transfers p) there s.there;
          back = here_still u c.back (transfer_at old.transfers q) (transfer_at new.transfers q) back s.back;
          there_same = s.there_same;
          back_same = s.back_same;
          there_sound = s.there_sound;
          back_sound = s.back_sound;
          lawful = spares.lawful s.lawful;
          one = record { is = a.1; stays = stays_still base old.nodes new.nodes t.from t.pass.configuration.source_db s.one.stays spares.both.0.1 };
          other = record { is = b.1; stays = stays_still base old.nodes new.nodes t.to t.pass.configuration.target_db s.other.stays spares.both.1.1 };
        };
      }

  no_move : (old new : Network Contents) (c : PairState) → new ≡ old → Stand p q t u base old c → Next p q t u base new c
  no_move old new c e s = record { moves = []; crossing = c; crosses = refl; stand = subst (λ (x : Network Contents). Stand p q t u base x c) (sym e) s }

  -- the pass there has a turn
  there_move : (old new : Network Contents) (c : PairState) → p ≢ q → transfer_at old.transfers p ≡ Some (record t { pass = c.there }) → Stand p q t u base old c → HasTurned p (record t { pass = c.there }) old new c.one c.other c.one_listed → Next p q t u base new c
  there_move old new c apart at s h =
      let listed = listed_after c.there.phase c.one c.one_listed h.turn in
      let pass = after_turn c.there h.turn in
      let after : PairState = record c { one = h.source_now; other = h.target_now; there = pass; one_listed = listed } in
      record {
        moves = goes_there h.turn ∷ [];
        crossing = after;
        crosses = (after, (h.is, (refl, refl)), refl);
        stand = record {
          there = inl (ap (λ (ts : List Transfer). transfer_at ts p) h.transfers ∙ passed_here old.transfers p (record t { pass = c.there }) (record t { pass = pass }) at);
          back = here_still u c.back (transfer_at old.transfers q) (transfer_at new.transfers q)
              (ap (λ (ts : List Transfer). transfer_at ts q) h.transfers ∙ passed_elsewhere old.transfers p q (record t { pass = pass }) (λ e. apart (sym e))) s.back;
          there_same = turn_configured c.there h.turn ∙ s.there_same;
          back_same = s.back_same;
          there_sound = h.sound;
          back_sound = s.back_sound;
          lawful = h.lawful;
          one = stands_on base old.nodes new.nodes t.from t.from c.there.configuration.source_db t.pass.configuration.source_db c.one h.source_now refl
              (ap (λ (k : PassConfiguration). k.source_db) s.there_same) h.source_at h.source_stays s.one;
          other = stands_on base old.nodes new.nodes t.to t.to c.there.configuration.target_db t.pass.configuration.target_db c.other h.target_now refl
              (ap (λ (k : PassConfiguration). k.target_db) s.there_same) h.target_at h.target_stays s.other;
        };
      }

  -- the pass back has a turn
  back_move : (old new : Network Contents) (c : PairState) → AreOpposite t u → p ≢ q → transfer_at old.transfers q ≡ Some (record u { pass = c.back }) → Stand p q t u base old c → HasTurned q (record u { pass = c.back }) old new c.other c.one c.other_listed → Next p q t u base new c
  back_move old new c o apart at s h =
      let listed = listed_after c.back.phase c.other c.other_listed h.turn in
      let pass = after_turn c.back h.turn in
      let after : PairState = record c { one = h.target_now; other = h.source_now; back = pass; other_listed = listed } in
      record {
        moves = goes_back h.turn ∷ [];
        crossing = after;
        crosses = (after, (h.is, (refl, refl)), refl);
        stand = record {
          there = here_still t c.there (transfer_at old.transfers p) (transfer_at new.transfers p)
              (ap (λ (ts : List Transfer). transfer_at ts p) h.transfers ∙ passed_elsewhere old.transfers q p (record u { pass = pass }) apart) s.there;
          back = inl (ap (λ (ts : List Transfer). transfer_at ts q) h.transfers ∙ passed_here old.transfers q (record u { pass = c.back }) (record u { pass = pass }) at);
          there_same = s.there_same;
          back_same = turn_configured c.back h.turn ∙ s.back_same;
          there_sound = s.there_sound;
          back_sound = h.sound;
          lawful = h.lawful;
          one = stands_on base old.nodes new.nodes u.to t.from c.back.configuration.target_db t.pass.configuration.source_db c.one h.target_now o.to
              (ap (λ (k : PassConfiguration). k.target_db) s.back_same ∙ o.target) h.target_at h.target_stays s.one;
          other = stands_on base old.nodes new.nodes u.from t.to c.back.configuration.source_db t.pass.configuration.target_db c.other h.source_now o.from
              (ap (λ (k : PassConfiguration). k.source_db) s.back_same ∙ o.source) h.source_at h.source_stays s.other;
        };
      }

  handled : (who : Asker) (old : Nodes) (place : ℕ) (m : Message) (r : Reply) (new : Nodes) → Only p q t who old place m r new → IsHandled Steps old place m r new
  handled who old place m r new h = h.0

  -- an exchange of the pass there
  there_asks : (fate : Fate) (old new : Network Contents) (c : PairState) (seen : List Sight) → AreOpposite t u → p ≢ q → transfer_at old.transfers p ≡ Some (record t { pass = c.there }) → Stand p q t u base old c
      → IsAsked (Only p q t) fate old p (record t { pass = c.there }) (asked_of c.there) seen new → Next p q t u base new c
  there_asks fate old new c seen o apart at s i =
      let x : Transfer = record t { pass = c.there } in
      let told = subst IsTold (sym s.there_same) o.there_told in
      let distinct : t.from ≡ t.to → c.there.configuration.source_db ≢ c.there.configuration.target_db = subst (λ (k : PassConfiguration). t.from ≡ t.to → k.source_db ≢ k.target_db) (sym s.there_same) o.apart in
      let one : database_at old.nodes t.from c.there.configuration.source_db ≡ c.one = subst (λ (k : PassConfiguration). database_at old.nodes t.from k.source_db ≡ c.one) (sym s.there_same) s.one.is in
      let other : database_at old.nodes t.to c.there.configuration.target_db ≡ c.other = subst (λ (k : PassConfiguration). database_at old.nodes t.to k.target_db ≡ c.other) (sym s.there_same) s.other.is in
      ⊎_elim
      (λ e. no_move old new c e s)
      (λ h. there_move old new c apart at s (has_turned p x old new c.one c.other c.one_listed s.lawful one other h))
      (turned (Only p q t) handled fate old new p x seen told distinct s.lawful s.there_sound c.there.phase i)

  -- an exchange of the pass back
  back_asks : (fate : Fate) (old new : Network Contents) (c : PairState) (seen : List Sight) → AreOpposite t u → p ≢ q → transfer_at old.transfers q ≡ Some (record u { pass = c.back }) → Stand p q t u base old c
      → IsAsked (Only p q t) fate old q (record u { pass = c.back }) (asked_of c.back) seen new → Next p q t u base new c
  back_asks fate old new c seen o apart at s i =
      let x : Transfer = record u { pass = c.back } in
      let told = subst IsTold (sym s.back_same) o.back_told in
      let distinct : u.from ≡ u.to → c.back.configuration.source_db ≢ c.back.configuration.target_db =
      λ e f.
      o.apart (sym o.to ∙ sym e ∙ o.from)
      (sym o.target ∙ sym (ap (λ (k : PassConfiguration). k.target_db) s.back_same) ∙ sym f ∙ ap (λ (k : PassConfiguration). k.source_db) s.back_same ∙ o.source) in
      let other = at_moved old.nodes t.to u.from t.pass.configuration.target_db c.back.configuration.source_db c.other (sym o.from) (sym (ap (λ (k : PassConfiguration). k.source_db) s.back_same ∙ o.source)) s.other.is in
      let one = at_moved old.nodes t.from u.to t.pass.configuration.source_db c.back.configuration.target_db c.one (sym o.to) (sym (ap (λ (k : PassConfiguration). k.target_db) s.back_same ∙ o.target)) s.one.is in
      ⊎_elim
      (λ e. no_move old new c e s)
      (λ h. back_move old new c o apart at s (has_turned q x old new c.other c.one c.other_listed s.lawful other one h))
      (turned (Only p q t) handled fate old new q x seen told distinct s.lawful s.back_sound c.back.phase i)

  exchange_moves : (number : ℕ) (fate : Fate) (old new : Network Contents) (c : PairState) (seen : List Sight) (x : Transfer) → AreOpposite t u → p ≢ q → Stand p q t u base old c
      → transfer_at old.transfers number ≡ Some x → IsAsked (Only p q t) fate old number x (asked_of x.pass) seen new → Next p q t u base new c
  exchange_moves number fate old new c seen x o apart s there i = by (cases_eq number p) (cases_eq number q)
    where
      as_there : number ≡ p → Next p q t u base new c
      as_there e =
          let at = present t c.there x (transfer_at old.transfers p) s.there (ap (transfer_at old.transfers) (sym e) ∙ there) in
          let same : x ≡ record t { pass = c.there } = one_transfer x (record t { pass = c.there }) (sym there ∙ ap (transfer_at old.transfers) e ∙ at) in
          there_asks fate old new c seen o apart at s
          (subst (λ (y : Transfer). IsAsked (Only p q t) fate old p y (asked_of y.pass) seen new) same
          (subst (λ (n : ℕ). IsAsked (Only p q t) fate old n x (asked_of x.pass) seen new) e i))

      as_back : number ≡ q → Next p q t u base new c
      as_back e =
          let at = present u c.back x (transfer_at old.transfers q) s.back (ap (transfer_at old.transfers) (sym e) ∙ there) in
          let same : x ≡ record u { pass = c.back } = one_transfer x (record u { pass = c.back }) (sym there ∙ ap (transfer_at old.transfers) e ∙ at) in
          back_asks fate old new c seen o apart at s
          (subst (λ (y : Transfer). IsAsked (Only p q t) fate old q y (asked_of y.pass) seen new) same
          (subst (λ (n : ℕ). IsAsked (Only p q t) fate old n x (asked_of x.pass) seen new) e i))

      by : (number ≡ p) ⊎ (number ≢ p) → (number ≡ q) ⊎ (number ≢ q) → Next p q t u base new c
      by (inl e) other = as_there e
      by (inr e) (inl f) = as_back f
      by (inr e) (inr f) =
          let k = others_asked (Only p q t) (Spares t) (spares_itself t) (spares_still t) (IsOther p q) (spared p q t) fate old new number x (asked_of x.pass) seen (λ one. ⊎_elim e f one) i in
          others_move old new c s k.nodes (k.passes p (λ same. e (sym same))) (k.passes q (λ same. f (sym same)))

  event_moves : (h : Happening) (old new : Network Contents) (c : PairState) (seen : List Sight) → AreOpposite t u → p ≢ q → Stand p q t u base old c → Happens (Only p q t) old h seen new → Next p q t u base new c
  event_moves (comes piece) old new c seen o apart s i =
      others_move old new c s
      (others_service (Only p q t) (Spares t) (spares_itself t) (spares_still t) (IsOther p q) (spared p q t) old.homes old.nodes new.nodes i.1.arrivals i.0 (λ conn none. none) i.1.served)
      (ap (λ (ts : List Transfer). transfer_at ts p) i.1.transfers) (ap (λ (ts : List Transfer). transfer_at ts q) i.1.transfers)
  event_moves (exchanges number fate) old new c seen o apart s i = exchange_moves number fate old new c seen i.transfer o apart s i.there i.asked

  play_moves : (hs : List Happening) (old new : Network Contents) (c : PairState) (seen : List Sight) → AreOpposite t u → p ≢ q → Stand p q t u base old c → Plays (Only p q t) old hs seen new → Next p q t u base new c
  play_moves [] old new c seen o apart s i = no_move old new c i.1 s
  play_moves (h ∷ hs) old new c seen o apart s (first, rest, between, here, later, order) =
      let k = event_moves h old between c first o apart s here in
      let l = play_moves hs between new k.crossing rest o apart k.stand later in
      record { moves = k.moves ++ l.moves; crossing = l.crossing; crosses = crosses_more k.moves l.moves c k.crossing l.crossing k.crosses l.crosses; stand = l.stand }

  -- ---- courses

  here_now : (v : Transfer) (pass : Pass) (before after : Option Transfer) → StaysOrStarts v before after → IsHere v pass before → IsHere v pass after
  here_now v pass before after (inl e) h = here_still v pass before after e h
  here_now v pass before after (inr k) (inl e) = absurd (let x : (let y : Option Transfer = None in y) ≡ Some (record v { pass = pass }) = sym k.0 ∙ e in cc)
  here_now v pass before after (inr k) (inr none) = inl (k.1 ∙ ap (λ (y : Pass). Some (record v { pass = y })) (sym none.1))

  arranged_stand : (old new : Network Contents) (c : PairState) → ArrangesPasses (record { there = t; back = u; there_number = p; back_number = q }) old new → Stand p q t u base old c
      → Stand p q t u base new c
  arranged_stand old new c k s = record {
    there = here_now t c.there (transfer_at old.transfers p) (transfer_at new.transfers p) k.there s.there;
    back = here_now u c.back (transfer_at old.transfers q) (transfer_at new.transfers q) k.back s.back;
    there_same = s.there_same;
    back_same = s.back_same;
    there_sound = s.there_sound;
    back_sound = s.back_sound;
    lawful = subst LawfulAt (sym k.nodes) s.lawful;
    one = subst (λ (n : Nodes). StandsAt base n t.from t.pass.configuration.source_db c.one) (sym k.nodes) s.one;
    other = subst (λ (n : Nodes). StandsAt base n t.to t.pass.configuration.target_db c.other) (sym k.nodes) s.other;
  }

  course_moves : (ss : List QuietStage) (old new : Network Contents) (c : PairState) → AreOpposite t u → p ≢ q → Stand p q t u base old c
      → QuietCourse (record { there = t; back = u; there_number = p; back_number = q }) ss old new → Next p q t u base new c
  course_moves [] old new c o apart s i = no_move old new c i s
  course_moves (runs ∷ ss) old new c o apart s (between, run, theirs, later) =
      let only = only_theirs (record { there = t; back = u; there_number = p; back_number = q }) old between run theirs in
      let k = play_moves only.happenings old between c only.seen o apart s only.played in
      let l = course_moves ss between new k.crossing o apart k.stand later in
      record { moves = k.moves ++ l.moves; crossing = l.crossing; crosses = crosses_more k.moves l.moves c k.crossing l.crossing k.crosses l.crosses; stand = l.stand }
  course_moves (arranges ∷ ss) old new c o apart s (between, here, later) = course_moves ss between new c o apart (arranged_stand old between c here s) later

-- ---- from the start to the end

-- the lawful databases of the nodes, and revisions that can be written
pub sound_at : (nodes : Nodes) (place : ℕ) (name : List ℕ) → LawfulAt nodes → AreWritable (database_at nodes place name) → IsSound (database_at nodes place name)
sound_at nodes place name lawful writable =
    let k = lawful_at nodes place name lawful in
    record { documents = k.documents; apart = k.apart; sequences = k.sequences; writable = writable }

batch_told : (batch : Option ℕ) → IfSome batch (λ size. (1 ≤ size) × (size ≤ 1000)) → IfSome batch (λ size. 1 ≤ size)
batch_told None h = tt
batch_told (Some size) h = h.0

same_transfer : (a b : Transfer) → (let x : Option Transfer = Some a in x) ≡ Some b → a ≡ b
same_transfer a b e = cc

abbrev first_crossing : Transfer → Transfer → Database → Database → PairState
first_crossing t u a b = record { one = a; other = b; there = t.pass; back = u.pass; one_listed = a; other_listed = b }

here_first : (t : Transfer) (there : Option Transfer) → IsAhead t there → IsHere t t.pass there
here_first t there (inl e) = inl e
here_first t there (inr e) = inr (e, refl)

stands_first : (two : TwoPasses) (old : Network Contents) → AreOpposite two.there two.back → AreAhead two old → LawfulAt old.nodes
    → Stand two.there_number two.back_number two.there two.back old.nodes old (first_crossing two.there two.back (source_of two.there old) (target_of two.there old))
stands_first two old o s lawful = record {
  there = here_first two.there (transfer_at old.transfers two.there_number) s.there;
  back = here_first two.back (transfer_at old.transfers two.back_number) s.back;
  there_same = refl;
  back_same = refl;
  there_sound = subst IsSoundPass (sym o.there_first) (first_sound two.there.pass.configuration);
  back_sound = subst IsSoundPass (sym o.back_first) (first_sound two.back.pass.configuration);
  lawful = lawful;
  one = record { is = refl; stays = λ db at. (db, at) };
  other = record { is = refl; stays = λ db at. (db, at) };
}

copied : (n : ℕ) (now : Network Contents) (t : Transfer) (p : Pass) → IsHere t p (transfer_at now.transfers n) → HasEnded n now → HasCopiedAll p
copied n now t p there ended =
    let at = present t p ended.transfer (transfer_at now.transfers n) there ended.there in
    let same : ended.transfer ≡ record t { pass = p } = one_transfer ended.transfer (record t { pass = p }) (sym ended.there ∙ at) in
    subst (λ (x : Transfer). HasCopiedAll x.pass) same ended.copied

-- the two databases, and how they came to be as they are
record Met (two : TwoPasses) (base : Nodes) (new : Network Contents) : Type 0 where
  moves : List Move
  now : PairState
  went : Crossed two.there.pass.configuration two.back.pass.configuration moves now
  begins : IsPair went.first.one went.first.other
  stand : Stand two.there_number two.back_number two.there two.back base new now

met : (two : TwoPasses) (ss : List QuietStage) (old new : Network Contents) → AreOpposite two.there two.back → AreAhead two old → QuietCourse two ss old new
    → AreReconcilable (source_of two.there old) (target_of two.there old) → LawfulAt old.nodes → Met two old.nodes new
met two ss old new o s course pair lawful =
    let t = two.there in
    let u = two.back in
    let c = first_crossing t u (source_of t old) (target_of t old) in
    let k = course_moves two.there_number two.back_number t u old.nodes ss old new c o s.apart (stands_first two old o s lawful) course in
    record {
      moves = k.moves;
      now = k.crossing;
      went = record {
        first = c;
        there = o.there_first;
        back = o.back_first;
        one_listed = refl;
        other_listed = refl;
        there_batch = batch_told t.pass.configuration.batch o.there_told.batch;
        back_batch = batch_told u.pass.configuration.batch o.back_told.batch;
        crosses = k.crosses;
      };
      begins = record {
        one = sound_at old.nodes t.from t.pass.configuration.source_db lawful pair.one;
        other = sound_at old.nodes t.to t.pass.configuration.target_db lawful pair.other;
        agree = pair.agree;
      };
      stand = k.stand;
    }

met_pair : (two : TwoPasses) (base : Nodes) (new : Network Contents) → Met two base new → IsPair (source_of two.there new) (target_of two.there new)
met_pair two base new k =
    let pair = keep_pair two.there.pass.configuration two.back.pass.configuration k.moves k.now k.went k.begins in
    subst (λ (x : Database). IsPair x (target_of two.there new)) (sym k.stand.one.is) (subst (λ (y : Database). IsPair k.now.one y) (sym k.stand.other.is) pair)

met_tree : (two : TwoPasses) (base : Nodes) (new : Network Contents) → HasEnded two.there_number new → HasEnded two.back_number new → (id : List ℕ) → Met two base new
    → HaveSameTree (history_at (source_of two.there new) id) (history_at (target_of two.there new) id)
met_tree two base new there back id k =
    let same : HaveSameTree (history_at k.now.one id) (history_at k.now.other id) =
    two_converge two.there.pass.configuration two.back.pass.configuration k.moves k.now k.went k.begins
    (copied two.there_number new two.there k.now.there k.stand.there there) (copied two.back_number new two.back k.now.back k.stand.back back) id in
    subst (λ (x : Database). HaveSameTree (history_at x id) (history_at (target_of two.there new) id)) (sym k.stand.one.is)
    (subst (λ (y : Database). HaveSameTree (history_at k.now.one id) (history_at y id)) (sym k.stand.other.is) same)

pub networks_converge : PassesOfANetworkConverge
networks_converge two ss old new o s course pair there back id =
    let all = all_lawful old.nodes s.lawful in
    let by : LawfulAt old.nodes → HaveSameTree (history_at (source_of two.there new) id) (history_at (target_of two.there new) id) =
    λ lawful. met_tree two old.nodes new there back id (met two ss old new o s course pair lawful) in
    record {
      known = λ r. ∥∥₁_elim all (Bool-set _ _) (λ lawful. (by lawful).known r);
      parents = λ r. ∥∥₁_elim all (Coded-set (coded_option revision_code) _ _) (λ lawful. (by lawful).parents r);
      leaves = ∥∥₁_elim all (Coded-set (coded_list revision_code) _ _) (λ lawful. (by lawful).leaves);
      winner = ∥∥₁_elim all (Coded-set (coded_option revision_code) _ _) (λ lawful. (by lawful).winner);
      held = λ r leaf. ∥∥₁_elim all (Coded-set (coded_option held_code) _ _) (λ lawful. (by lawful).held r leaf);
    }

pub networks_agree : CoursesKeepAgreement
networks_agree two ss old new o s course pair =
    let all = all_lawful old.nodes s.lawful in
    let by : LawfulAt old.nodes → IsPair (source_of two.there new) (target_of two.there new) = λ lawful. met_pair two old.nodes new (met two ss old new o s course pair lawful) in
    record {
      one = λ id r known. ∥∥₁_elim all (Bool-set _ _) (λ lawful. (by lawful).one.writable id r known);
      other = λ id r known. ∥∥₁_elim all (Bool-set _ _) (λ lawful. (by lawful).other.writable id r known);
      agree = λ id. record {
        parents = λ r there back. ∥∥₁_elim all (Coded-set (coded_option revision_code) _ _) (λ lawful. ((by lawful).agree id).parents r there back);
        held = λ r d e there back. ∥∥₁_elim all (Coded-set held_code _ _) (λ lawful. ((by lawful).agree id).held r d e there back);
      };
    }

pub both_stay : CoursesKeepBoth
both_stay two ss old new a b o s course ends =
    ∥∥₁_map (all_lawful old.nodes s.lawful)
    (λ lawful.
    let c = first_crossing two.there two.back (source_of two.there old) (target_of two.there old) in
    let k = course_moves two.there_number two.back_number two.there two.back old.nodes ss old new c o s.apart (stands_first two old o s lawful) course in
    let one = k.stand.one.stays a ends.source in
    let other = k.stand.other.stays b ends.target in
    (one.0, other.0, record { source = one.1; target = other.1 }))
