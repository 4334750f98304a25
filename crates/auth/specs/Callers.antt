-- Who calls: the caller of a request, by its headers, the server's secret and its admins.
-- CouchDB's manual decides, api/server/authn, "Proxy Authentication", but for the token (Hmac) and the refusals, which are this server's own choice.
use Rattle.std.specs.Prelude.{◌≡◌, ℕ, ◌==◌, Bool, false, ◌&&◌, ◌||◌, not, Option, Some, None, Result, Ok, Err, List, [], length, bytes_eq, unwrap_or, if◌then◌else◌}
use Rattle.std.specs.Str.{is_utf8}
use Rattle.auth.specs.declared.auth_fault.AuthFault.{AuthFault}
use Rattle.auth.specs.declared.auth_fault.AuthFault.TheVariants.{Token, Repeated, Memory}
use Rattle.auth.specs.Headers.{user_name_header, roles_header, token_header, is_repeated, header_value}
use Rattle.auth.specs.Hmac.{token_of}
use Rattle.auth.specs.Roles.{roles_in, roles_of}

-- who calls: a name, or None for an anonymous caller, and roles, each a text's bytes
pub record Identity : Type 0 where
  pub name : Option (List ℕ)
  pub roles : List (List ℕ)

-- what a server knows of its users: the secret under which tokens are made, and the names of its admins
pub record Configuration : Type 0 where
  pub secret : List ℕ
  pub admins : List (List ℕ)

-- the caller of whom nothing is known
abbrev pub anonymous : Identity
anonymous = record { name = None; roles = [] }

-- whether a token came, and is the one wanted, byte by byte
abbrev pub is_token : Option (List ℕ) → List ℕ → Bool
is_token None wanted = false
is_token (Some given) wanted = bytes_eq given wanted

-- whether a name and roles are texts, the name not empty, and the token that came is the name's
abbrev pub is_vouched_for : List ℕ → List ℕ → Option (List ℕ) → List ℕ → Bool
is_vouched_for name roles token secret =
    not (length name == 0) && is_utf8 name && is_utf8 roles && is_token token (token_of secret name)

-- the caller by the values of the three headers: the name's, the roles' and the token's
abbrev pub caller_by : Option (List ℕ) → List ℕ → Option (List ℕ) → List ℕ → List (List ℕ) → Result Identity AuthFault
caller_by None roles token secret admins = Ok anonymous
caller_by (Some name) roles token secret admins =
    if is_vouched_for name roles token secret
    then Ok (record { name = Some name; roles = roles_of name (roles_in roles) admins })
    else Err Token

-- the caller of a request with these headers, each a name and a value: refused where one of the three headers is repeated.
-- Unfoldable, since the layers above compare it and don't look into it
unfoldable pub caller_of : List (List ℕ × List ℕ) → List ℕ → List (List ℕ) → Result Identity AuthFault
caller_of headers secret admins =
    if is_repeated user_name_header headers || is_repeated roles_header headers || is_repeated token_header headers
    then Err Repeated
    else caller_by (header_value user_name_header headers) (unwrap_or (header_value roles_header headers) [])
    (header_value token_header headers) secret admins

-- the fault is the definition's refusal, or want of memory, which may come whatever the definition says
abbrev pub IsRefusedWith : AuthFault → Result Identity AuthFault → Type 0
IsRefusedWith Token defined = defined ≡ Err Token
IsRefusedWith Repeated defined = defined ≡ Err Repeated
IsRefusedWith Memory defined = Unit {0}
