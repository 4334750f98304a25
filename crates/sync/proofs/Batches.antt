-- Passes one after another, each with a smaller batch.
use Rattle.std.proofs.Common.{◌≡◌, ◌∙◌, ◌<◌, ◌+◌, ◌-◌, ◌⊎◌, ℕ, zero, suc, Option, Some, None, arith, inl, inr, refl, subst, sym}
use Rattle.command_line.specs.Plan.{SyncAsked}
use Rattle.command_line.specs.declared.fault.ProgramFault.{ProgramFault}
use Rattle.command_line.specs.declared.fault.ProgramFault.TheVariants.{File, Line, Memory, Socket}
use Rattle.repl.specs.Passes.{Asked, Pass, Summary, first_pass}
use Rattle.sync.specs.Configuring.{configuration_with}
use Rattle.sync.specs.Series.{EndsSeriesEarly, Follows, FollowsEarly, IsSeries, Pair, begun, joined_end, narrowed, pair_of, reported_before}
use Rattle.sync.specs.Sides.{Answering, Between, Breaking, BreaksOff, HasTurn}
use Rattle.sync.specs.Turns.{ComesToEnd, EndsBy, EndsEarly, TurnOf}
use Rattle.sync.specs.declared.series.Manner.{Manner}
use Rattle.sync.proofs.Refusals.{sides_end_break_off}
use Rattle.sync.proofs.Turns.{stops_at_end, stops_in_turn}

module _ {F T : Type 0} (source : Answering F) (target : Answering T) (asked : SyncAsked) (count : ℕ) (manner : Manner) (earlier : Option Summary) (before : Pair F T) (said : Asked) (between : Between F T) (comes : ComesToEnd (HasTurn source target) (begun asked manner before) said between) where
  -- one that goes on, and what follows it
  pub series_more : (s : Summary) (end : Asked) (after : Pair F T) → reported_before manner.batch (joined_end earlier said) ≡ Some s
      → IsSeries source target asked count (narrowed manner between.pass.since) (Some s) (pair_of between) end after → IsSeries source target asked (suc count) manner earlier before end after
  series_more s end after is next =
      (said, between, comes, subst (λ (o : Option Summary). Follows (IsSeries source target asked count) manner (joined_end earlier said) o between end after) (sym is) next)

  -- the last one
  pub series_ends : (end : Asked) → reported_before manner.batch (joined_end earlier said) ≡ None → end ≡ joined_end earlier said
      → IsSeries source target asked (suc count) manner earlier before end (pair_of between)
  series_ends end none is =
      (said, between, comes, subst (λ (o : Option Summary). Follows (IsSeries source target asked count) manner (joined_end earlier said) o between end (pair_of between)) (sym none) (is, refl))

-- one pass more of seven, by what is known of it, and what follows it
pub series_step : {F T : Type 0} (source : Answering F) (target : Answering T) (asked : SyncAsked) (n : ℕ) (manner next : Manner) (earlier : Option Summary) (before : Pair F T)
    (said together : Asked) (pass : Pass) (between : Between F T) (s : Summary) → n < 7 → pass ≡ first_pass (configuration_with asked manner.batch manner.is_from_start)
    → ComesToEnd (HasTurn source target) (record { source = before.source; target = before.target; pass = pass }) said between → together ≡ joined_end earlier said
    → reported_before manner.batch together ≡ Some s → next ≡ narrowed manner between.pass.since → (end : Asked) (after : Pair F T)
    → IsSeries source target asked (7 - (n + 1)) next (Some s) (pair_of between) end after → IsSeries source target asked (7 - n) manner earlier before end after
series_step {F} {T} source target asked n manner next earlier before said together pass between s less is comes joins goes narrows end after rest =
    let one_more : suc (7 - (n + 1)) ≡ 7 - n = omega (arith, less) in
    let plays = subst (λ (p : Pass). ComesToEnd (HasTurn source target) (record { source = before.source; target = before.target; pass = p }) said between) is comes in
    let reports = subst (λ (a : Asked). reported_before manner.batch a ≡ Some s) joins goes in
    let follows = subst (λ (m : Manner). IsSeries source target asked (7 - (n + 1)) m (Some s) (pair_of between) end after) narrows rest in
    subst (λ (k : ℕ). IsSeries source target asked k manner earlier before end after) one_more
    (series_more source target asked (7 - (n + 1)) manner earlier before said between plays s end after reports follows)

-- the last one of seven, by what is known of it
pub series_last : {F T : Type 0} (source : Answering F) (target : Answering T) (asked : SyncAsked) (n : ℕ) (manner : Manner) (earlier : Option Summary) (before : Pair F T)
    (said together end : Asked) (pass : Pass) (between : Between F T) → n < 7 → pass ≡ first_pass (configuration_with asked manner.batch manner.is_from_start)
    → ComesToEnd (HasTurn source target) (record { source = before.source; target = before.target; pass = pass }) said between → together ≡ joined_end earlier said
    → reported_before manner.batch together ≡ None → end ≡ together → IsSeries source target asked (7 - n) manner earlier before end (pair_of between)
series_last {F} {T} source target asked n manner earlier before said together end pass between less is comes joins none same =
    let one_more : suc (7 - (n + 1)) ≡ 7 - n = omega (arith, less) in
    let plays = subst (λ (p : Pass). ComesToEnd (HasTurn source target) (record { source = before.source; target = before.target; pass = p }) said between) is comes in
    let reports = subst (λ (a : Asked). reported_before manner.batch a ≡ None) joins none in
    subst (λ (k : ℕ). IsSeries source target asked k manner earlier before end (pair_of between)) one_more
    (series_ends source target asked (7 - (n + 1)) manner earlier before said between plays end reports (same ∙ joins))

-- ---- a series that ended early

-- a pass whose end was not reached ended early, whichever fault says so
pub by_fault : {A : Type 0} (turn : TurnOf A) (breaks : A → A → Type 0) (before after : A) (fault : ProgramFault) → EndsBy turn breaks before after fault → EndsEarly turn breaks before after
by_fault turn breaks before after Memory stops = inl stops
by_fault turn breaks before after File runs = inr runs
by_fault turn breaks before after Socket none = absurd none
by_fault turn breaks before after (Line n) none = absurd none

module _ {F T : Type 0} (source : Answering F) (source_breaks : Breaking F) (target : Answering T) (target_breaks : Breaking T) (asked : SyncAsked) where
  -- where nothing more happened
  pub early_now : (count : ℕ) (manner : Manner) (earlier : Option Summary) (before : Pair F T) → EndsSeriesEarly source source_breaks target target_breaks asked count manner earlier before before
  early_now zero manner earlier before = refl
  early_now (suc count) manner earlier before =
      inl ((begun asked manner before, inl (stops_in_turn (HasTurn source target) (BreaksOff source source_breaks target target_breaks) 0 (begun asked manner before) (begun asked manner before) (begun asked manner before) (omega arith) refl (inl refl)), refl))

  -- a pass that came to its end, of which nobody was told
  at_end : (manner : Manner) (before : Pair F T) (said : Asked) (between : Between F T) → ComesToEnd (HasTurn source target) (begun asked manner before) said between
      → EndsEarly (HasTurn source target) (BreaksOff source source_breaks target target_breaks) (begun asked manner before) between
  at_end manner before said between comes =
      inl (stops_at_end (HasTurn source target) (BreaksOff source source_breaks target target_breaks) (sides_end_break_off source source_breaks target target_breaks) (begun asked manner before) between said comes)

  untold_after : (count : ℕ) (manner : Manner) (earlier : Option Summary) (before : Pair F T) (said end : Asked) (between : Between F T) (after : Pair F T)
      → ComesToEnd (HasTurn source target) (begun asked manner before) said between
      → ((m : Manner) (s : Option Summary) (b : Pair F T) → IsSeries source target asked count m s b end after → EndsSeriesEarly source source_breaks target target_breaks asked count m s b after)
      → (o : Option Summary) → reported_before manner.batch (joined_end earlier said) ≡ o → Follows (IsSeries source target asked count) manner (joined_end earlier said) o between end after
      → EndsSeriesEarly source source_breaks target target_breaks asked (suc count) manner earlier before after
  untold_after count manner earlier before said end between after comes rest None is follows = inl ((between, at_end manner before said between comes, follows.1))
  untold_after count manner earlier before said end between after comes rest (Some s) is follows =
      inr ((
        said,
        between,
        comes,
        subst (λ (o : Option Summary). FollowsEarly (EndsSeriesEarly source source_breaks target target_breaks asked count) manner o between after) (sym is)
            (rest (narrowed manner between.pass.since) (Some s) (pair_of between) follows),
      ))

  -- a series that came to its end, of which nobody was told
  pub early_untold : (count : ℕ) (manner : Manner) (earlier : Option Summary) (before : Pair F T) (end : Asked) (after : Pair F T)
      → IsSeries source target asked count manner earlier before end after → EndsSeriesEarly source source_breaks target target_breaks asked count manner earlier before after
  early_untold zero manner earlier before end after none = absurd none
  early_untold (suc count) manner earlier before end after (said, between, comes, follows) =
      untold_after count manner earlier before said end between after comes (λ m s b is. early_untold count m s b end after is)
      (reported_before manner.batch (joined_end earlier said)) refl follows

  module _ (n : ℕ) (manner : Manner) (earlier : Option Summary) (before : Pair F T) (pass : Pass) (between : Between F T) (less : n < 7) (is : pass ≡ first_pass (configuration_with asked manner.batch manner.is_from_start)) where
    one_more : suc (7 - (n + 1)) ≡ 7 - n
    one_more = omega (arith, less)

    -- a pass more of seven that ended early
    pub early_pass : EndsEarly (HasTurn source target) (BreaksOff source source_breaks target target_breaks) (record { source = before.source; target = before.target; pass = pass }) between
        → EndsSeriesEarly source source_breaks target target_breaks asked (7 - n) manner earlier before (pair_of between)
    early_pass ends =
        subst (λ (k : ℕ). EndsSeriesEarly source source_breaks target target_breaks asked k manner earlier before (pair_of between)) one_more
        (inl ((between, subst (λ (p : Pass). EndsEarly (HasTurn source target) (BreaksOff source source_breaks target target_breaks) (record { source = before.source; target = before.target; pass = p }) between) is ends, refl)))

    -- one that came to its end, which was not told
    pub early_end : (said : Asked) → ComesToEnd (HasTurn source target) (record { source = before.source; target = before.target; pass = pass }) said between
        → EndsSeriesEarly source source_breaks target target_breaks asked (7 - n) manner earlier before (pair_of between)
    early_end said comes =
        let plays = subst (λ (p : Pass). ComesToEnd (HasTurn source target) (record { source = before.source; target = before.target; pass = p }) said between) is comes in
        subst (λ (k : ℕ). EndsSeriesEarly source source_breaks target target_breaks asked k manner earlier before (pair_of between)) one_more
        (inl ((between, at_end manner before said between plays, refl)))

    -- one that goes on, and what follows it ended early
    pub early_step : (next : Manner) (said together : Asked) (s : Summary) → ComesToEnd (HasTurn source target) (record { source = before.source; target = before.target; pass = pass }) said between
        → together ≡ joined_end earlier said → reported_before manner.batch together ≡ Some s → next ≡ narrowed manner between.pass.since → (after : Pair F T)
        → EndsSeriesEarly source source_breaks target target_breaks asked (7 - (n + 1)) next (Some s) (pair_of between) after
        → EndsSeriesEarly source source_breaks target target_breaks asked (7 - n) manner earlier before after
    early_step next said together s comes joins goes narrows after rest =
        let plays = subst (λ (p : Pass). ComesToEnd (HasTurn source target) (record { source = before.source; target = before.target; pass = p }) said between) is comes in
        let reports = subst (λ (a : Asked). reported_before manner.batch a ≡ Some s) joins goes in
        let follows = subst (λ (m : Manner). EndsSeriesEarly source source_breaks target target_breaks asked (7 - (n + 1)) m (Some s) (pair_of between) after) narrows rest in
        subst (λ (k : ℕ). EndsSeriesEarly source source_breaks target target_breaks asked k manner earlier before after) one_more
        (inr ((said, between, plays, subst (λ (o : Option Summary). FollowsEarly (EndsSeriesEarly source source_breaks target target_breaks asked (7 - (n + 1))) manner o between after) (sym reports) follows)))
