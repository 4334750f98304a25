-- The header fields of a request, and the values that came under one name.
-- RFC 9110, section 5.1, decides: field names go without case. The three names are those of CouchDB's manual, api/server/authn, "Proxy Authentication".
use Rattle.std.specs.Prelude.{ℕ, Bool, Option, List, [], ◌∷◌, length, map, slice_get, nat_lt, if◌then◌else◌, codes}
use Rattle.std.specs.Str.{str_eq_ignore_ascii_case}

-- the headers by which a proxy says who calls
abbrev pub user_name_header : List ℕ
user_name_header = codes "X-Auth-CouchDB-UserName"

-- the field that lists roles
abbrev pub roles_header : List ℕ
roles_header = codes "X-Auth-CouchDB-Roles"

-- the field with the token that vouches for the name
abbrev pub token_header : List ℕ
token_header = codes "X-Auth-CouchDB-Token"

-- the headers of a request, each as the bytes of its name and those of its value, by what reads the two
abbrev pub fields_of : {N V : Type 0} → (N → List ℕ) → (V → List ℕ) → List (N × V) → List (List ℕ × List ℕ)
fields_of read_name read_value headers = map (λ h. (read_name h.0, read_value h.1)) headers

-- the values of the headers of this name, in the order that they came
abbrev pub header_values : List ℕ → List (List ℕ × List ℕ) → List (List ℕ)
header_values name [] = []
header_values name (h ∷ hs) =
    if str_eq_ignore_ascii_case h.0 name then h.1 ∷ header_values name hs else header_values name hs

-- whether more than one header has this name
abbrev pub is_repeated : List ℕ → List (List ℕ × List ℕ) → Bool
is_repeated name headers = nat_lt 1 (length (header_values name headers))

-- the value of the first header of this name, where there is one
abbrev pub header_value : List ℕ → List (List ℕ × List ℕ) → Option (List ℕ)
header_value name headers = slice_get (header_values name headers) 0
