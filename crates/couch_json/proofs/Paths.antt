-- The names of a field path beside its text.
use Rattle.std.proofs.Common.{◌≡◌, ℕ, ◌==◌, List, [], ◌∷◌, ◌++◌, Bool, true, false, cond, refl, sym, ap, ◌∙◌, append_assoc, append-nil}
use Rattle.std.proofs.lemmas.Bool.{eqb-true}
use Rattle.std.specs.Prelude.{⊤}
use Rattle.couch_json.specs.FieldPath.{dot, backslash, with_held, names_from, names_in, name_text, path_text, ends_in_backslash, CanBeJoined}

-- ---- from the text to the names and back

abbrev held_text : Bool → List ℕ → List ℕ
held_text true bytes = backslash ∷ bytes
held_text false bytes = bytes

name_text-cond : (is_dot : Bool) (byte : ℕ) (rest other : List ℕ)
    → cond is_dot (backslash ∷ byte ∷ rest) (byte ∷ rest) ++ other ≡ cond is_dot (backslash ∷ byte ∷ (rest ++ other)) (byte ∷ (rest ++ other))
name_text-cond true byte rest other = refl
name_text-cond false byte rest other = refl

name_text-append : (a b : List ℕ) → name_text (a ++ b) ≡ name_text a ++ name_text b
name_text-append [] b = refl
name_text-append (byte ∷ a) b =
    ap (λ bytes. cond (byte == dot) (backslash ∷ byte ∷ bytes) (byte ∷ bytes)) (name_text-append a b)
    ∙ sym (name_text-cond (byte == dot) byte (name_text a) (name_text b))

name_text-with_held : (held : Bool) (name bytes : List ℕ) → name_text (with_held held name) ++ bytes ≡ name_text name ++ held_text held bytes
name_text-with_held true name bytes = ap (λ t. t ++ bytes) (name_text-append name (backslash ∷ [])) ∙ append_assoc (name_text name) (backslash ∷ []) bytes
name_text-with_held false name bytes = refl

-- a byte more, behind the backslash that was held
name_text-byte : (held : Bool) (name : List ℕ) (byte : ℕ) (bytes : List ℕ) → (byte == dot) ≡ false
    → name_text (with_held held name ++ byte ∷ []) ++ bytes ≡ name_text name ++ held_text held (byte ∷ bytes)
name_text-byte held name byte bytes no_dot =
    let one : name_text (byte ∷ []) ≡ byte ∷ [] = rw no_dot in
    ap (λ t. t ++ bytes) (name_text-append (with_held held name) (byte ∷ []) ∙ ap (λ t. name_text (with_held held name) ++ t) one)
    ∙ append_assoc (name_text (with_held held name)) (byte ∷ []) bytes ∙ name_text-with_held held name (byte ∷ bytes)

abbrev IsFilled : List (List ℕ) → Type 0
IsFilled [] = ⊥
IsFilled (name ∷ names) = ⊤

IsFilled-cond : (test : Bool) (a b : List (List ℕ)) → IsFilled a → IsFilled b → IsFilled (cond test a b)
IsFilled-cond true a b h g = h
IsFilled-cond false a b h g = g

IsFilled-names_from : (held : Bool) (name bytes : List ℕ) → IsFilled (names_from held name bytes)
IsFilled-names_from held name [] = tt
IsFilled-names_from held name (byte ∷ bytes) =
    IsFilled-cond (byte == dot) _ _
    (IsFilled-cond held _ _ (IsFilled-names_from false (name ++ dot ∷ []) bytes) tt)
    (IsFilled-cond (byte == backslash) _ _
    (IsFilled-names_from true (with_held held name) bytes)
    (IsFilled-names_from false (with_held held name ++ byte ∷ []) bytes))

-- a name before others
path_text-more : (name : List ℕ) (names : List (List ℕ)) → IsFilled names → path_text (name ∷ names) ≡ name_text name ++ dot ∷ path_text names
path_text-more name [] h = absurd h
path_text-more name (next ∷ names) h = refl

-- what is left of a text, behind a name that has begun
abbrev Stands : Bool → List ℕ → List ℕ → List (List ℕ) → Type 0
Stands held name bytes names = path_text names ≡ name_text name ++ held_text held bytes

at_dot : (held : Bool) (name bytes : List ℕ) (byte : ℕ) → (byte == dot) ≡ true
    → Stands false (name ++ dot ∷ []) bytes (names_from false (name ++ dot ∷ []) bytes) → Stands false [] bytes (names_from false [] bytes)
    → Stands held name (byte ∷ bytes) (cond held (names_from false (name ++ dot ∷ []) bytes) (name ∷ names_from false [] bytes))
at_dot true name bytes byte is inside after =
    rw (eqb-true byte dot is) (inside ∙ ap (λ t. t ++ bytes) (name_text-append name (dot ∷ [])) ∙ append_assoc (name_text name) (backslash ∷ dot ∷ []) bytes)
at_dot false name bytes byte is inside after =
    rw (eqb-true byte dot is) (path_text-more name (names_from false [] bytes) (IsFilled-names_from false [] bytes) ∙ ap (λ t. name_text name ++ dot ∷ t) after)

at_backslash : (is_backslash held : Bool) (name bytes : List ℕ) (byte : ℕ) → (byte == dot) ≡ false → (byte == backslash) ≡ is_backslash
    → Stands true (with_held held name) bytes (names_from true (with_held held name) bytes)
    → Stands false (with_held held name ++ byte ∷ []) bytes (names_from false (with_held held name ++ byte ∷ []) bytes)
    → Stands held name (byte ∷ bytes) (cond is_backslash (names_from true (with_held held name) bytes) (names_from false (with_held held name ++ byte ∷ []) bytes))
at_backslash true held name bytes byte no_dot is behind plain = rw (eqb-true byte backslash is) (behind ∙ name_text-with_held held name (backslash ∷ bytes))
at_backslash false held name bytes byte no_dot is behind plain = plain ∙ name_text-byte held name byte bytes no_dot

by_dot : (is_dot : Bool) (held : Bool) (name bytes : List ℕ) (a b : List (List ℕ)) → (is_dot ≡ true → Stands held name bytes a) → (is_dot ≡ false → Stands held name bytes b)
    → Stands held name bytes (cond is_dot a b)
by_dot true held name bytes a b h g = h refl
by_dot false held name bytes a b h g = g refl

path_text-names_from : (held : Bool) (name bytes : List ℕ) → Stands held name bytes (names_from held name bytes)
path_text-names_from held name [] = sym (append-nil (name_text (with_held held name))) ∙ name_text-with_held held name []
path_text-names_from held name (byte ∷ bytes) =
    by_dot (byte == dot) held name (byte ∷ bytes) _ _
    (λ is. at_dot held name bytes byte is (path_text-names_from false (name ++ dot ∷ []) bytes) (path_text-names_from false [] bytes))
    (λ no_dot. at_backslash (byte == backslash) held name bytes byte no_dot refl (path_text-names_from true (with_held held name) bytes) (path_text-names_from false (with_held held name ++ byte ∷ []) bytes))

pub path_text-names_in : (path : List ℕ) → path_text (names_in path) ≡ path
path_text-names_in path = path_text-names_from false [] path

-- ---- from the names to the text and back

-- a name that has begun, behind which no dot may stand where a backslash is held
abbrev CanBegin : Bool → List ℕ → Type 0
CanBegin held name = held ≡ false → ends_in_backslash false name ≡ false

ends-append : (ends : Bool) (name : List ℕ) (byte : ℕ) → ends_in_backslash ends (name ++ byte ∷ []) ≡ (byte == backslash)
ends-append ends [] byte = refl
ends-append ends (b ∷ name) byte = ends-append (b == backslash) name byte

CanBeJoined-cond : (test : Bool) (a b : List (List ℕ)) → (test ≡ true → CanBeJoined a) → (test ≡ false → CanBeJoined b) → CanBeJoined (cond test a b)
CanBeJoined-cond true a b h g = h refl
CanBeJoined-cond false a b h g = g refl

CanBeJoined-more : (name : List ℕ) (names : List (List ℕ)) → ends_in_backslash false name ≡ false → IsFilled names → CanBeJoined names → CanBeJoined (name ∷ names)
CanBeJoined-more name [] h filled g = absurd filled
CanBeJoined-more name (next ∷ names) h filled g = (h, g)

CanBeJoined-names_from : (held : Bool) (name bytes : List ℕ) → CanBegin held name → CanBeJoined (names_from held name bytes)
CanBeJoined-names_from held name [] h = tt
CanBeJoined-names_from held name (byte ∷ bytes) h =
    CanBeJoined-cond (byte == dot) _ _
    (λ is. CanBeJoined-cond held _ _
    (λ behind. CanBeJoined-names_from false (name ++ dot ∷ []) bytes (λ e. ends-append false name dot))
    (λ free. CanBeJoined-more name (names_from false [] bytes) (h free) (IsFilled-names_from false [] bytes) (CanBeJoined-names_from false [] bytes (λ e. refl))))
    (λ no_dot. CanBeJoined-cond (byte == backslash) _ _
    (λ is. CanBeJoined-names_from true (with_held held name) bytes (λ e. absurd (cc)))
    (λ other. CanBeJoined-names_from false (with_held held name ++ byte ∷ []) bytes (λ e. ends-append false (with_held held name) byte ∙ other)))

pub CanBeJoined-names_in : (path : List ℕ) → CanBeJoined (names_in path)
CanBeJoined-names_in path = CanBeJoined-names_from false [] path (λ e. refl)

-- the name without the backslash that is held behind its bytes
abbrev name_after : Bool → List ℕ → List ℕ → List ℕ
name_after held name [] = name
name_after held name (byte ∷ bytes) =
    cond (byte == backslash) (name_after true (with_held held name) bytes) (name_after false (with_held held name ++ byte ∷ []) bytes)

with_held-name_after_cond : (is_backslash held : Bool) (name n : List ℕ) (byte : ℕ) → (byte == backslash) ≡ is_backslash
    → ((h : Bool) (m : List ℕ) → with_held (ends_in_backslash h n) (name_after h m n) ≡ with_held h m ++ n)
    → with_held (ends_in_backslash is_backslash n) (cond is_backslash (name_after true (with_held held name) n) (name_after false (with_held held name ++ byte ∷ []) n))
    ≡ with_held held name ++ byte ∷ n
with_held-name_after_cond true held name n byte is after =
    rw (eqb-true byte backslash is) (after true (with_held held name) ∙ append_assoc (with_held held name) (backslash ∷ []) n)
with_held-name_after_cond false held name n byte is after =
    after false (with_held held name ++ byte ∷ []) ∙ append_assoc (with_held held name) (byte ∷ []) n

with_held-name_after : (n : List ℕ) (held : Bool) (name : List ℕ) → with_held (ends_in_backslash held n) (name_after held name n) ≡ with_held held name ++ n
with_held-name_after [] held name = sym (append-nil (with_held held name))
with_held-name_after (byte ∷ n) held name = with_held-name_after_cond (byte == backslash) held name n byte refl (with_held-name_after n)

-- what is read of a name's text, and of what stands behind it
abbrev Reads : List ℕ → List ℕ → Type 0
Reads n rest = (held : Bool) (name : List ℕ) → names_from held name (name_text n ++ rest) ≡ names_from (ends_in_backslash held n) (name_after held name n) rest

reads_other : (is_backslash held : Bool) (name n rest : List ℕ) (byte : ℕ) → (byte == dot) ≡ false → (byte == backslash) ≡ is_backslash → Reads n rest
    → names_from held name (byte ∷ (name_text n ++ rest))
    ≡ names_from (ends_in_backslash is_backslash n) (cond is_backslash (name_after true (with_held held name) n) (name_after false (with_held held name ++ byte ∷ []) n)) rest
reads_other true held name n rest byte no_dot is reads = rw (no_dot, is) (reads true (with_held held name))
reads_other false held name n rest byte no_dot is reads = rw (no_dot, is) (reads false (with_held held name ++ byte ∷ []))

reads_byte : (is_dot held : Bool) (name n rest : List ℕ) (byte : ℕ) → (byte == dot) ≡ is_dot → Reads n rest
    → names_from held name (cond is_dot (backslash ∷ byte ∷ name_text n) (byte ∷ name_text n) ++ rest)
    ≡ names_from (ends_in_backslash held (byte ∷ n)) (name_after held name (byte ∷ n)) rest
reads_byte true held name n rest byte is reads = rw (eqb-true byte dot is) (reads false (with_held held name ++ dot ∷ []))
reads_byte false held name n rest byte no_dot reads = reads_other (byte == backslash) held name n rest byte no_dot refl reads

names_from-name_text : (n rest : List ℕ) → Reads n rest
names_from-name_text [] rest held name = refl
names_from-name_text (byte ∷ n) rest held name = reads_byte (byte == dot) held name n rest byte refl (names_from-name_text n rest)

pub names_in-path_text : (names : List (List ℕ)) → CanBeJoined names → names_in (path_text names) ≡ names
names_in-path_text [] h = absurd h
names_in-path_text (name ∷ []) h =
    ap names_in (sym (append-nil (name_text name))) ∙ names_from-name_text name [] false [] ∙ ap (λ n. n ∷ []) (with_held-name_after name false [])
names_in-path_text (name ∷ next ∷ names) h =
    let rest = dot ∷ path_text (next ∷ names) in
    let begun : name_after false [] name ≡ name = sym (ap (λ e. with_held e (name_after false [] name)) h.0) ∙ with_held-name_after name false [] in
    names_from-name_text name rest false [] ∙ ap (λ e. names_from e (name_after false [] name) rest) h.0
    ∙ (λ i. begun i ∷ names_in-path_text (next ∷ names) h.1 i)
