-- The roles that a header lists, and the role that makes a server admin.
-- CouchDB's manual decides, api/server/authn, "Proxy Authentication": roles are separated by commas. That spaces and tabs round a role and empty roles don't count is this server's own choice.
use Rattle.std.specs.Prelude.{ℕ, ◌==◌, Bool, ◌&&◌, ◌||◌, not, List, [], ◌∷◌, ◌++◌, length, map, reverse, bytes_eq, if◌then◌else◌, codes}
use Rattle.std.specs.List.{filter, list_any, slice_split}

-- a space or a tab
abbrev pub is_blank : ℕ → Bool
is_blank b = b == 32 || b == 9

-- the text without the spaces and tabs at its start
abbrev pub without_leading_blanks : List ℕ → List ℕ
without_leading_blanks [] = []
without_leading_blanks (b ∷ bs) = if is_blank b then without_leading_blanks bs else b ∷ bs

-- the text without the spaces and tabs at its end
abbrev pub without_trailing_blanks : List ℕ → List ℕ
without_trailing_blanks bs = reverse (without_leading_blanks (reverse bs))

-- the text without the spaces and tabs at either end
abbrev pub without_blanks : List ℕ → List ℕ
without_blanks bs = without_trailing_blanks (without_leading_blanks bs)

-- the roles of a header: what stands between its commas (byte 44), trimmed, without what is empty
abbrev pub roles_in : List ℕ → List (List ℕ)
roles_in value = filter (λ role. not (length role == 0)) (map without_blanks (slice_split (λ b. b == 44) value))

-- the role of server admins
abbrev pub admin_role : List ℕ
admin_role = codes "_admin"

-- whether the text is among the texts
abbrev pub is_among : List ℕ → List (List ℕ) → Bool
is_among text texts = list_any (λ t. bytes_eq t text) texts

-- the roles of a user: one whom the server names as an admin has the admins' role too, at the end where it isn't there yet
abbrev pub roles_of : List ℕ → List (List ℕ) → List (List ℕ) → List (List ℕ)
roles_of name roles admins =
    if is_among name admins && not (is_among admin_role roles) then roles ++ admin_role ∷ [] else roles
