-- The routes of the server are read, and no two of them conflict.
use Rattle.std.proofs.Common.{◌≡◌, ℕ, Bool, true, false, cond, List, [], ◌∷◌, ◌++◌, Global, Option, Some, None, Result, Ok, Err, String, codes, refl, ap, subst, ◌∙◌}
use Rattle.std.specs.Prelude.{⊤, ◌||◌}
use Rattle.std.specs.List.{list_any}
use Rattle.matchit.proofs.OnLiterals.{matchit_on_literals}
use Rattle.matchit.specs.Conflict.{conflicts}
use Rattle.matchit.specs.Order.{common_len, placed}
use Rattle.matchit.specs.Route.{Scan, parse_route}
use Rattle.matchit.specs.Router.{Inserted, InsertsRead, RouteOf, nearer, nearest_from, route_from}
use Rattle.matchit.specs.Rows.{comes_before, param_token}
use Rattle.matchit.specs.declared.error.InsertError.{InsertError}
use Rattle.matchit.specs.declared.error.InsertError.TheVariants.{Conflict}
use Rattle.api.specs.Routing.{AreApart, Fits, Table, is_in_conflict, routes, with_read}
use Rattle.api.specs.declared.page.Page.{Page}

-- ---- a table that has one route more

neither : (a b : Bool) → a ≡ false → b ≡ false → (a || b) ≡ false
neither true b h k = absurd cc
neither false b h k = k

first_not : (a b : Bool) → (a || b) ≡ false → a ≡ false
first_not true b h = h
first_not false b h = refl

second_not : (a b : Bool) → (a || b) ≡ false → b ≡ false
second_not true b h = absurd cc
second_not false b h = h

-- a pattern that conflicts neither with the route nor with those before it
placed_clear : (p : List ℕ) (r : List ℕ × RouteOf Page) (rows : Table) → conflicts p r.0 ≡ false → is_in_conflict p rows ≡ false → is_in_conflict p (placed r rows) ≡ false
placed_clear p r [] h k = neither (conflicts p r.0) false h refl
placed_clear p r (x ∷ rows) h k = by (comes_before r.0 x.0) (placed_clear p r rows h (second_not (conflicts p x.0) _ k))
  where
    by : (b : Bool) → is_in_conflict p (placed r rows) ≡ false → is_in_conflict p (cond b (r ∷ x ∷ rows) (x ∷ placed r rows)) ≡ false
    by true rest = neither (conflicts p r.0) (is_in_conflict p (x ∷ rows)) h k
    by false rest = neither (conflicts p x.0) (is_in_conflict p (placed r rows)) (first_not (conflicts p x.0) _ k) rest

-- so an insert has no conflict to tell of
no_nearest : (p : List ℕ) (best : Option (RouteOf Page) × ℕ) (rows : Table) → is_in_conflict p rows ≡ false → nearest_from p best rows ≡ best.0
no_nearest p best [] h = refl
no_nearest p best ((t, key) ∷ rows) h =
    ap (λ b. nearest_from p (cond b (nearer best (common_len p t) key) best) rows) (first_not (conflicts p t) _ h) ∙ no_nearest p best rows (second_not (conflicts p t) _ h)

inserted_without : (r : RouteOf Page) (old new : Table) (with : String Global) → is_in_conflict r.pattern old ≡ false → Inserted r old new (Err (Conflict with)) → ⊥
inserted_without r old new with h inserted = let none = no_nearest r.pattern (None, 0) old h in let some = inserted.1.1 in cc

pub no_conflict : (x : Result Scan InsertError) (page : Page) (old new : Table) (r : Result (Unit {0}) InsertError) (with : String Global) → Fits x old → InsertsRead x page old new r → r ≡ Err (Conflict with) → ⊥
no_conflict (Err e) page old new r with fits inserts is = fits
no_conflict (Ok s) page old new r with fits inserts is =
    inserted_without (route_from s page) old new with fits (subst (λ (q : Result (Unit {0}) InsertError). Inserted (route_from s page) old new q) is inserts)

-- ---- patterns one after another

-- one of them conflicts with one before it
abbrev some_conflict : List (List ℕ) → List (List ℕ) → Bool
some_conflict [] before = false
some_conflict (p ∷ ps) before = list_any (λ q. conflicts p q) before || some_conflict ps (p ∷ before)

-- what conflicts with none of these patterns is in no conflict with the table
abbrev IsOver : List (List ℕ) → Table → Type 0
IsOver before rows = (p : List ℕ) → list_any (λ q. conflicts p q) before ≡ false → is_in_conflict p rows ≡ false

abbrev pattern_read : Result Scan InsertError → Option (List ℕ)
pattern_read (Ok s) = Some s.pattern
pattern_read (Err e) = None

-- these routes are read as these patterns
abbrev AreRead : List (List ℕ × Page) → List (List ℕ) → Type 0
AreRead [] [] = ⊤
AreRead [] (p ∷ ps) = ⊥
AreRead (r ∷ rs) [] = ⊥
AreRead (r ∷ rs) (p ∷ ps) = (pattern_read (parse_route r.0) ≡ Some p) × AreRead rs ps

apart : (rs : List (List ℕ × Page)) (ps before : List (List ℕ)) (rows : Table) → AreRead rs ps → some_conflict ps before ≡ false → IsOver before rows → AreApart rs rows
apart [] ps before rows are clear over = tt
apart (r ∷ rs) [] before rows are clear over = absurd are
apart (r ∷ rs) (p ∷ ps) before rows are clear over = by (parse_route r.0) are.0 (λ more. apart rs ps (p ∷ before) more are.1 (second_not _ _ clear))
  where
    by : (x : Result Scan InsertError) → pattern_read x ≡ Some p → ((more : Table) → IsOver (p ∷ before) more → AreApart rs more) → Fits x rows × AreApart rs (with_read x r.1 rows)
    by (Err e) is rest = absurd cc
    by (Ok s) is rest =
        let same : s.pattern ≡ p = cc in (
          ap (λ q. is_in_conflict q rows) same ∙ over p (first_not _ _ clear),
          rest (placed (s.pattern, route_from s r.1) rows) (λ q h. placed_clear q (s.pattern, route_from s r.1) rows (ap (conflicts q) same ∙ first_not _ _ h) (over q (second_not _ _ h))),
        )

-- ---- those of the server

-- a name in braces, in a pattern
abbrev any : List ℕ
any = param_token ∷ []

abbrev patterns : List (List ℕ)
patterns =
    codes "/"
    ∷ codes "/_all_dbs"
    ∷ (codes "/" ++ any)
    ∷ (codes "/" ++ any ++ codes "/")
    ∷ (codes "/" ++ any ++ codes "/_security")
    ∷ (codes "/" ++ any ++ codes "/_bulk_docs")
    ∷ (codes "/" ++ any ++ codes "/_all_docs")
    ∷ (codes "/" ++ any ++ codes "/_changes")
    ∷ (codes "/" ++ any ++ codes "/_revs_diff")
    ∷ (codes "/" ++ any ++ codes "/_find")
    ∷ (codes "/" ++ any ++ codes "/_index")
    ∷ (codes "/" ++ any ++ codes "/_design/" ++ any ++ codes "/_view/" ++ any)
    ∷ (codes "/" ++ any ++ codes "/_design/" ++ any)
    ∷ (codes "/" ++ any ++ codes "/_local/" ++ any)
    ∷ (codes "/" ++ any ++ codes "/" ++ any)
    ∷ []

are_read : AreRead routes patterns
unfolding matchit_on_literals
are_read = (refl, (refl, (refl, (refl, (refl, (refl, (refl, (refl, (refl, (refl, (refl, (refl, (refl, (refl, (refl, tt)))))))))))))))

clear : some_conflict patterns [] ≡ false
clear = refl

pub routes_apart : AreApart routes []
routes_apart = apart routes patterns [] [] are_read clear (λ p h. refl)
