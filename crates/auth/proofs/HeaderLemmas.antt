-- The values of a name among headers that are taken one at a time.
use Rattle.std.proofs.Common.{◌≡◌, ℕ, ◌+◌, ◌<◌, Bool, true, false, cond, List, ◌∷◌, ◌++◌, length, drop, get_or, Option, Some, None, is_some, option_to_list, option_copied, nat_lt, sym, ◌∙◌, ap, arith, Bor}
use Rattle.std.proofs.lemmas.List.{at_drop_more}
use Rattle.std.proofs.lemmas.Bool.Decides.{nat_tests}
use Rattle.std.specs.Str.{str_eq_ignore_ascii_case}
use Rattle.auth.specs.Headers.{fields_of, header_values}

module _ {N V : Type 0} (read_name : N → List ℕ) (read_value : V → List ℕ) (name : List ℕ) (headers : List (N × V)) (i : ℕ) (h : N × V) where
  -- the values of the headers after the i-th
  abbrev later : List (List ℕ)
  later = header_values name (fields_of read_name read_value (drop (i + 1) headers))

  -- the values from the i-th header on, by whether its name, here `header`, is the one looked for
  values_of-drop : (header : List ℕ) (same : Bool) → i < length headers → h ≡ get_or headers i h → header ≡ read_name h.0
      → same ≡ str_eq_ignore_ascii_case header name → header_values name (fields_of read_name read_value (drop i headers)) ≡ cond same (read_value h.1 ∷ later) later
  values_of-drop header same small is read tested =
      at_drop_more (λ hs. header_values name (fields_of read_name read_value hs)) headers i h small
      ∙ (ap (λ x. header_values name (fields_of read_name read_value (x ∷ drop (i + 1) headers))) (sym is)
      ∙ ap (λ t. cond t (read_value h.1 ∷ later) later) (ap (λ b. str_eq_ignore_ascii_case b name) (sym read) ∙ sym tested))

  pub values_of-drop_named : (header : List ℕ) → i < length headers → h ≡ get_or headers i h → header ≡ read_name h.0 → true ≡ str_eq_ignore_ascii_case header name
      → header_values name (fields_of read_name read_value (drop i headers)) ≡ read_value h.1 ∷ header_values name (fields_of read_name read_value (drop (i + 1) headers))
  values_of-drop_named header = values_of-drop header true

  pub values_of-drop_other : (header : List ℕ) → i < length headers → h ≡ get_or headers i h → header ≡ read_name h.0 → false ≡ str_eq_ignore_ascii_case header name
      → header_values name (fields_of read_name read_value (drop i headers)) ≡ header_values name (fields_of read_name read_value (drop (i + 1) headers))
  values_of-drop_other header = values_of-drop header false

-- a value found and one more are two
pub repeated : (found : Option (Bor (List ℕ))) (value : List ℕ) (rest from values : List (List ℕ)) → is_some found ≡ true → from ≡ value ∷ rest → option_to_list (option_copied found) ++ from ≡ values → nat_lt 1 (length values) ≡ true
repeated None value rest from values some e is = cc
repeated (Some x) value rest from values some e is =
    let two : 1 < length values = omega (arith, ap length is, ap length e) in
    grind (arith, nat_tests)

-- the first value found
pub found_first : (before after : Option (Bor (List ℕ))) (x : Bor (List ℕ)) (value : List ℕ) (rest from values : List (List ℕ)) → is_some before ≡ false → after ≡ Some x → x.now ≡ value → from ≡ value ∷ rest → option_to_list (option_copied before) ++ from ≡ values → option_to_list (option_copied after) ++ rest ≡ values
found_first None after x value rest from values none is same e all =
    ap (λ a. option_to_list (option_copied a) ++ rest) is ∙ (ap (λ v. v ∷ rest) same ∙ (sym e ∙ all))
found_first (Some y) after x value rest from values none is same e all = cc
