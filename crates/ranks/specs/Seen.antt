-- What ranks are seen as, and a code that tells any two of them apart.
use Rattle.std.specs.Prelude.{List, ℕ, refl}
use Rattle.std.specs.Coded.{Coded, code_by, coded×, coded_list, coded_ℕ}

pub record Ranks : Type 0 where
  -- how many keys there are
  pub total : ℕ
  -- how many of them are below the first boundary
  pub head : ℕ
  -- each boundary, and how many keys there are from it on, up to the next one
  pub segments : List (List ℕ × ℕ)

abbrev pub ranks_code : Coded Ranks
ranks_code = code_by (ℕ × (ℕ × List (List ℕ × ℕ))) (coded× coded_ℕ (coded× coded_ℕ (coded_list (coded× (coded_list coded_ℕ) coded_ℕ)))) (λ r. (r.total, (r.head, r.segments))) (λ p. record { total = p.0; head = p.1.0; segments = p.1.1 }) (λ _. refl)
