-- The first segment of the path of a page: the database.
use Rattle.std.proofs.Common.{◌≡◌, ◌++◌, ◌∷◌, ◌∙◌, ℕ, Bool, true, false, All, List, length, ap, arith, sym, append_assoc, refl}
use Rattle.std.proofs.lemmas.Bool.Decides.{nat_tests}
use Rattle.std.proofs.lemmas.List.{length-append, get_or_append_left, get_or_at, take_at}
use Rattle.std.proofs.lemmas.List.Sums.{position_or_len_is}
use Rattle.std.specs.List.{position_or_len}
use Rattle.percent_encoding.proofs.PercentLemmas.{All-percent_encode, IsEscapeByte}
use Rattle.percent_encoding.specs.AsciiSet.{should_percent_encode}
use Rattle.repl.specs.Calls.{page_path}
use Rattle.repl.specs.Spelling.{reserved_bytes, segment}
use Rattle.sync.specs.Information.{first_segment, is_slash}

abbrev IsNoSlash : ℕ → Type 0
IsNoSlash b = is_slash b ≡ false

slash_is_escaped : should_percent_encode reserved_bytes 47 ≡ true
unfolding should_percent_encode
slash_is_escaped = refl

kept_is_no_slash : (b : ℕ) → should_percent_encode reserved_bytes b ≡ false → IsNoSlash b
kept_is_no_slash b kept = by (is_slash b) refl
  where
    by : (is : Bool) → is_slash b ≡ is → is_slash b ≡ false
    by false e = e
    by true e =
        let slash : b ≡ 47 = grind (arith, nat_tests) in
        absurd (cc (slash, kept, slash_is_escaped))

escape_is_no_slash : (b : ℕ) → IsEscapeByte b → IsNoSlash b
escape_is_no_slash b e = grind (arith, nat_tests)

segment_has_no_slash : (name : List ℕ) → All IsNoSlash (segment name)
segment_has_no_slash name = All-percent_encode IsNoSlash reserved_bytes name kept_is_no_slash escape_is_no_slash

module _ (name page : List ℕ) where
  -- the first slash behind the database is the one before the page
  slash_behind : position_or_len is_slash (segment name ++ 47 ∷ page) ≡ length (segment name)
  slash_behind =
      position_or_len_is is_slash (segment name ++ 47 ∷ page) (length (segment name)) 0
      (omega (arith, length-append (segment name) (47 ∷ page)))
      (λ k lt. ap is_slash (get_or_append_left (segment name) (47 ∷ page) 0 k lt) ∙ segment_has_no_slash name k 0 lt)
      (λ lt. ap is_slash (get_or_at (segment name) 47 page 0 (length (segment name)) refl))

  pub database_is_first : first_segment (page_path name page) ≡ segment name
  database_is_first =
      let spelled : page_path name page ≡ 47 ∷ (segment name ++ (47 ∷ page)) = grind (arith, append_assoc) in
      ap first_segment spelled ∙ take_at (segment name) (47 ∷ page) _ (sym slash_behind)
