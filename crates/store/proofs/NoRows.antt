-- Where no write is of a document in a range, no row is.
use Rattle.std.proofs.Common.{◌≡◌, ◌∙◌, ◌+◌, ◌||◌, ℕ, Bool, true, false, cond, List, [], ◌∷◌, Option, Some, None, Ordering, refl, ap, sym, filter, drop, take, inl, inr}
use Rattle.std.specs.Prelude.{⊤}
use Rattle.std.proofs.Math.Seq.{drop-nil, take-nil}
use Rattle.std.specs.List.{list_any}
use Rattle.std.specs.declared.cmp.Ordering.TheVariants.{Less, Equal, Greater}
use Rattle.std.specs.Ordering.{nat_cmp}
use Rattle.std.specs.Cmp.Lexicographic.{slice_cmp}
use Rattle.std.specs.FinMap.{put}
use Rattle.std.specs.FinMap.Entries.{by_order}
use Rattle.tree.specs.Revision.{Revision}
use Rattle.store.specs.Database.{Document}
use Rattle.store.specs.Pages.{IdPage, id_page, if_counted, in_direction, is_within, live_rev, live_rows, row_counts, rows_within, up_to_limit, with_row}
use Rattle.store.specs.Plain.{gathered_after, with_write_at}
use Rattle.store.specs.Writing.{Addition}
use Rattle.store.specs.declared.listing.IdRange.{IdRange}
use Rattle.store.specs.declared.listing.IdRow.{IdRow}
use Rattle.store.proofs.Directed.{from_directed}
use Rattle.store.proofs.Listings.{In}

-- none of the documents has an id that passes the test
abbrev Fail : (List ℕ → Bool) → List (List ℕ × Document) → Type 0
Fail p [] = ⊤
Fail p (e ∷ es) = (p e.0 ≡ false) × Fail p es

put_fails : (p : List ℕ → Bool) (k : List ℕ) (v : Document) (es : List (List ℕ × Document)) → p k ≡ false → Fail p es → Fail p (put (slice_cmp nat_cmp) k v es)
put_fails p k v [] never f = (never, tt)
put_fails p k v (e ∷ es) never f = by (put_fails p k v es never f.1) (slice_cmp nat_cmp k e.0)
  where
    by : Fail p (put (slice_cmp nat_cmp) k v es) → (o : Ordering) → Fail p (by_order o ((k, v) ∷ e ∷ es) ((e.0, v) ∷ es) (e ∷ put (slice_cmp nat_cmp) k v es))
    by more Less = (never, f)
    by more Equal = (f.0, f.1)
    by more Greater = (f.0, more)

neither : (a b : Bool) → (a || b) ≡ false → (a ≡ false) × (b ≡ false)
neither true b e = absurd cc
neither false b e = (refl, e)

gathered_fail : (p : List ℕ → Bool) (n : ℕ) (es : List (List ℕ × Document)) (all : List Addition) → list_any (λ a. p a.id) all ≡ false → Fail p es → Fail p (gathered_after n es all)
gathered_fail p n es [] never f = f
gathered_fail p n es (a ∷ more) never f =
    let k = neither (p a.id) (list_any (λ b. p b.id) more) never in
    gathered_fail p (n + 1) (with_write_at (n + 1) es a) more k.1 (put_fails p a.id _ es k.0 f)

row_fails : (p : List ℕ → Bool) (id : List ℕ) (o : Option Revision) (rs : List IdRow) → p id ≡ false → ((r : IdRow) → In rs r → p r.id ≡ false) → (r : IdRow) → In (with_row id o rs) r → p r.id ≡ false
row_fails p id None rs never f r i = f r i
row_fails p id (Some rev) rs never f r (inl e) = ap (λ (q : IdRow). p q.id) (sym e) ∙ never
row_fails p id (Some rev) rs never f r (inr i) = f r i

rows_fail : (p : List ℕ → Bool) (es : List (List ℕ × Document)) → Fail p es → (r : IdRow) → In (live_rows es) r → p r.id ≡ false
rows_fail p [] f r i = absurd i
rows_fail p (e ∷ es) f r i = row_fails p e.0 (live_rev e.1.history) (live_rows es) f.0 (rows_fail p es f.1) r i

filter_nothing : (q : IdRow → Bool) (rs : List IdRow) → ((r : IdRow) → In rs r → q r ≡ false) → filter q rs ≡ []
filter_nothing q [] f = refl
filter_nothing q (r ∷ rs) f = ap (λ b. cond b (r ∷ filter q rs) (filter q rs)) (f r (inl refl)) ∙ filter_nothing q rs (λ s i. f s (inr i))

cut_nothing : (limit : Option ℕ) (n : ℕ) → up_to_limit limit (drop n (let none : List IdRow = [] in none)) ≡ []
cut_nothing None n = drop-nil n
cut_nothing (Some m) n = ap (take m) (drop-nil n) ∙ take-nil m

pub no_rows : (range : IdRange) (all : List Addition) → list_any (λ a. is_within range a.id) all ≡ false → range.counted ≡ false
    → (let none : IdPage = record { rows = []; counts = None } in none) ≡ id_page range (live_rows (gathered_after 0 [] all))
no_rows range all never uncounted =
    let rs = live_rows (gathered_after 0 [] all) in
    let fails = rows_fail (is_within range) (gathered_after 0 [] all) (gathered_fail (is_within range) 0 [] all never tt) in
    let none : rows_within range rs ≡ [] = filter_nothing (λ r. is_within range r.id) (in_direction range.descending rs) (λ r i. fails r (from_directed range.descending rs r i)) in
    let cut : [] ≡ up_to_limit range.limit (drop range.skip (rows_within range rs)) = sym (ap (λ (xs : List IdRow). up_to_limit range.limit (drop range.skip xs)) none ∙ cut_nothing range.limit range.skip) in
    let counts : None ≡ if_counted range.counted (row_counts range rs) = sym (ap (λ b. if_counted b (row_counts range rs)) uncounted) in
    λ i. record { rows = cut i; counts = counts i }
