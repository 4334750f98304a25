-- What is owed, act by act, within its bound.
use Rattle.std.proofs.Common.{◌≡◌, inl, inr, ℕ, ◌≤◌, Bool, true, false, cond, List, [], ◌∷◌, ◌++◌, length, Option, Some, None, sym, ap, subst, arith}
use Rattle.std.specs.BTreeMap.{is_at}
use Rattle.std.specs.FinMap.{FinMap, empty, get, get-empty, insert, remove}
use Rattle.std.specs.Ordering.{nat_cmp}
use Rattle.std.proofs.lemmas.List.{length-append}
use Rattle.store.specs.declared.store.Store.{Ghosts}
use Rattle.hub.specs.Arrival.{Piece}
use Rattle.engine.specs.Acts.{Act, accepted, opened, brought, took, closed}
use Rattle.engine.specs.Bound.{OwesWithinBound}
use Rattle.engine.specs.Desks.{Deed, Desk, Does, Runs}
use Rattle.engine.specs.Standing.{Owes, Seat, Standing, TakesPiece, ending, given_up, greatest_owed, owed_by, serving, with_owed}
use Rattle.engine.proofs.Standings.{IsSet, set_insert, set_remove}
use Rattle.engine.proofs.Takings.{left_owed}

abbrev IsBounded : Option Standing → Type 0
IsBounded o = (s : Standing) → o ≡ Some s → length (owed_by s) ≤ greatest_owed

abbrev AreBounded : FinMap nat_cmp Standing → Type 0
AreBounded m = (conn : ℕ) → IsBounded (get m conn)

bounded_none : IsBounded None
bounded_none s is = absurd cc

bounded_some : (s : Standing) → length (owed_by s) ≤ greatest_owed → IsBounded (Some s)
bounded_some s le t is = let same : s ≡ t = cc in subst (λ (x : Standing). length (owed_by x) ≤ greatest_owed) same le

bounded_either : (b : Bool) (x y : Option Standing) → IsBounded x → IsBounded y → IsBounded (cond b x y)
bounded_either true x y h k = h
bounded_either false x y h k = k

bounded_set : (m n : FinMap nat_cmp Standing) (c : ℕ) (s : Option Standing) → IsSet m c s n → IsBounded s → AreBounded m → AreBounded n
bounded_set m n c s is here there conn =
    subst (λ (o : Option Standing). IsBounded o) (sym (is conn)) (bounded_either (is_at (nat_cmp c) conn) s (get m conn) here (there conn))

owes_bounded : (now : Standing) (last : Bool) (words : List ℕ) → Owes now last words → length (owed_by now) ≤ greatest_owed
owes_bounded (serving owed) last words (is, said, bound) = bound
owes_bounded (ending owed) last words (is, said, bound) = bound
owes_bounded given_up last words o = omega arith

left_bounded : (s : Standing) (bytes left : List ℕ) → owed_by s ≡ bytes ++ left → length (owed_by s) ≤ greatest_owed → length (owed_by (with_owed s left)) ≤ greatest_owed
left_bounded s bytes left is le =
    let whole : length (owed_by s) ≡ length (bytes ++ left) = ap length is in
    let parts = length-append bytes left in
    let rest : length (owed_by (with_owed s left)) ≡ length left = ap length (left_owed s bytes left is) in
    omega (arith, whole, parts, rest, le)

module _ {S : Type 0} (g : Ghosts S) where
  piece_bounded : (old new : Seat S) (p : Piece) (words : List ℕ) → TakesPiece g old p words new → length (owed_by new.standing) ≤ greatest_owed
  piece_bounded old new p words (inl feeds) = owes_bounded new.standing feeds.last words feeds.owes
  piece_bounded old new p words (inr (inl refuses)) = owes_bounded new.standing true words refuses.owes
  piece_bounded old new p words (inr (inr (stood, said, is))) =
      let still = ap (λ (s : Seat S). length (owed_by s.standing)) is in
      let none : length (owed_by old.standing) ≡ 0 = ap (λ (s : Standing). length (owed_by s)) stood in
      omega (arith, still, none)

  does_bounded : (old new : Desk S) (a : Act) (words : List ℕ) → Does g old a words new → AreBounded old.standings → AreBounded new.standings
  does_bounded old new accepted words (said, is) there = subst (λ (d : Desk S). AreBounded d.standings) (sym is) there
  does_bounded old new (opened c) words (said, next, is) there =
      subst (λ (d : Desk S). AreBounded d.standings) (sym is)
      (bounded_set old.standings (insert old.standings c (serving [])) c (Some (serving [])) (set_insert old.standings c (serving [])) (bounded_some (serving []) (omega arith)) there)
  does_bounded old new (closed c) words (said, is) there =
      subst (λ (d : Desk S). AreBounded d.standings) (sym is)
      (bounded_set old.standings (remove old.standings c) c None (set_remove old.standings c) bounded_none there)
  does_bounded old new (brought c bytes) words (was, now, at, takes, is) there =
      subst (λ (d : Desk S). AreBounded d.standings) (sym is)
      (bounded_set old.standings (insert old.standings c now.standing) c (Some now.standing) (set_insert old.standings c now.standing)
      (bounded_some now.standing (piece_bounded (record { hub = old.hub; standing = was }) now (record { conn = c; bytes = bytes }) words takes)) there)
  does_bounded old new (took c bytes) words (was, left, at, owed, said, is) there =
      subst (λ (d : Desk S). AreBounded d.standings) (sym is)
      (bounded_set old.standings (insert old.standings c (with_owed was left)) c (Some (with_owed was left)) (set_insert old.standings c (with_owed was left))
      (bounded_some (with_owed was left) (left_bounded was bytes left owed (there c was at))) there)

  runs_bounded : (old new : Desk S) (deeds : List Deed) → Runs g old deeds new → AreBounded old.standings → AreBounded new.standings
  runs_bounded old new [] is there = subst (λ (d : Desk S). AreBounded d.standings) (sym is) there
  runs_bounded old new (d ∷ deeds) (between, does, rest) there = runs_bounded between new deeds rest (does_bounded old between d.act d.words does there)

  pub owes_all_bounded : OwesWithinBound g
  owes_all_bounded hub deeds new conn s runs at =
      runs_bounded (record { hub = hub; standings = empty }) new deeds runs (λ q. subst (λ (o : Option Standing). IsBounded o) (sym (get-empty nat_cmp q)) bounded_none) conn s at
