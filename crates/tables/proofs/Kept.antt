-- Rows stay fit for a change as some are taken out, and as one is put in.
use Rattle.tables.proofs.Common.{AllByRecursion, AreKeyed, AreNumbered, Blob, Bool, Int, IsAscending, IsKeyed, List, Row, [], above_all, all-append, all-filter, all_weaker, ascending-append, ascending-filter, filter, next_number, number_of, refl, rowid, with_cells, ℤ, ◌<ℤ◌, ◌∷◌, ◌≡◌}

-- each number is below the next
pub below_next : (rows : List Row) → IsAscending (λ a b. number_of a <ℤ number_of b) rows → AllByRecursion (λ r. number_of r <ℤ next_number rows) rows
below_next [] up = tt
below_next (r ∷ rows) up = above_all number_of rows r up

pub keyed-filter : (p : Row → Bool) (rows : List Row) → AreKeyed rows → AreKeyed (filter p rows)
keyed-filter p rows h = record { keyed = all-filter IsKeyed p rows h.keyed; rising = ascending-filter (λ a b. number_of a <ℤ number_of b) p rows h.rising }

-- the numbers rise on to the next one
next_rises : (rows : List Row) (cells : Row) → IsAscending (λ a b. number_of a <ℤ number_of b) rows → IsAscending (λ a b. number_of a <ℤ number_of b) (with_cells rows cells)
next_rises rows cells up =
    ascending-append (λ a b. number_of a <ℤ number_of b) rows _ up (tt, tt)
    (all_weaker (λ r. number_of r <ℤ next_number rows) (λ r. AllByRecursion (λ b. number_of r <ℤ number_of b) ((Int (next_number rows) ∷ cells) ∷ [])) (λ r k. (k, tt)) rows (below_next rows up))

pub keyed-with_cells : (rows : List Row) (db : ℤ) (id : List _) (rest : Row) → AreKeyed rows → AreKeyed (with_cells rows (Int db ∷ Blob id ∷ rest))
keyed-with_cells rows db id rest h = record { keyed = all-append IsKeyed rows _ h.keyed (record { number = refl; db = refl; id = refl }, tt); rising = next_rises rows (Int db ∷ Blob id ∷ rest) h.rising }

-- ---- rows with numbers

pub numbered-filter : (p : Row → Bool) (rows : List Row) → AreNumbered rows → AreNumbered (filter p rows)
numbered-filter p rows h = record { numbers = all-filter _ p rows h.numbers; rising = ascending-filter (λ a b. number_of a <ℤ number_of b) p rows h.rising }

pub numbered-with_cells : (rows : List Row) (cells : Row) → AreNumbered rows → AreNumbered (with_cells rows cells)
numbered-with_cells rows cells h = record { numbers = all-append (λ r. rowid r ≡ Int (number_of r)) rows _ h.numbers (refl, tt); rising = next_rises rows cells h.rising }
