-- What a path says of its revisions is read back from the rows that are put in for them.
use Rattle.tables.proofs.Common.{AllByRecursion, Bool, Entry, IsAscending, IsBody, List, None, Option, Revision, Some, StandsIn, [], all_weaker, ap, ap₂, arith, body_cell, counts_down, entry_of, eqb-true, false, flag, head, if◌then◌else◌, inl, inr, inside, is_held, is_held_deleted, is_revision, is_set, json_in_cell, length, option_map, parent_cell, parent_in, parts, path_entries, refl, revision_row, suc, text_cell, true, ℕ, ℤ, ◌-◌, ◌↔◌, ◌∷◌, ◌≡◌, ◌≢◌, ◌≤◌}
use Rattle.couch_json.specs.Lawful as lawful
use Rattle.couch_json.specs.Value as json
use Rattle.tree.specs.declared.entry.Held.{Held}
use Rattle.tables.proofs.Rests.{spelled}

-- a body that a row can hold
pub record IsKept (held : Held) : Type 0 where
  pub body : IsBody held.body
  pub lawful : lawful.IsLawful held.body

-- an entry of a path that is written
pub record IsPathEntry (path : List Revision) (e : Revision × Entry) : Type 0 where
  pub lawful : is_revision e.0 ≡ true
  pub again : parent_in e.0.number (parent_cell e.1.parent) ≡ e.1.parent
  pub first : (e.1.parent ≡ None) ↔ (e.0.number ≡ 1)
  pub follows : (p : Revision) → e.1.parent ≡ Some p → StandsIn path p
  pub kept : (held : Held) → e.1.held ≡ Some held → IsKept held

first_number : (r : Revision) (rest : List Revision) → counts_down (r ∷ rest) ≡ true → r.number ≡ suc (length rest)
first_number r rest counts = eqb-true r.number (suc (length rest)) (parts _ _ counts).0

rest_counts : (r : Revision) (rest : List Revision) → counts_down (r ∷ rest) ≡ true → counts_down rest ≡ true
rest_counts r rest counts = (parts _ _ counts).1

parent_again : (r : Revision) (rest : List Revision) → counts_down (r ∷ rest) ≡ true → parent_in r.number (parent_cell (head rest)) ≡ head rest
parent_again r [] counts = refl
parent_again r (s ∷ rest) counts =
    let n : r.number ≡ suc (length (s ∷ rest)) = first_number r (s ∷ rest) counts in
    let m : s.number ≡ suc (length rest) = first_number s rest (rest_counts r (s ∷ rest) counts) in
    let less : r.number - 1 ≡ s.number = omega (arith, n, m) in
    ap (λ (k : ℕ). Some (record { number = k; hash = s.hash })) less

first_is : (r : Revision) (rest : List Revision) → counts_down (r ∷ rest) ≡ true → (head rest ≡ None) ↔ (r.number ≡ 1)
first_is r [] counts = (λ _. first_number r [] counts, λ _. refl)
first_is r (s ∷ rest) counts =
    let n : r.number ≡ suc (length (s ∷ rest)) = first_number r (s ∷ rest) counts in
    (λ none. absurd (cc), λ one. absurd (omega arith))

head_stands : (rest : List Revision) (p : Revision) → head rest ≡ Some p → StandsIn rest p
head_stands [] p is = cc
head_stands (s ∷ rest) p is = inl (inside s p is)

-- each entry of a path, or of its end
pub path_entries_are : (whole path : List Revision) (d : Option Held) → ((p : Revision) → StandsIn path p → StandsIn whole p) → counts_down path ≡ true → AllByRecursion (λ v. is_revision v ≡ true) path
    → ((held : Held) → d ≡ Some held → IsKept held) → AllByRecursion (IsPathEntry whole) (path_entries d path)
path_entries_are whole [] d within counts lawful kept = tt
path_entries_are whole (r ∷ rest) d within counts lawful kept = (
  record { lawful = lawful.0; again = parent_again r rest counts; first = first_is r rest counts; follows = λ p up. within p (inr (head_stands rest p up)); kept = kept },
  path_entries_are whole rest None (λ p stands. within p (inr stands)) (rest_counts r rest counts) lawful.1 (λ held none. cc),
)

-- ---- no revision stands twice in a path

numbers_below : (path : List Revision) (d : Option Held) → counts_down path ≡ true → AllByRecursion (λ e. e.0.number ≤ length path) (path_entries d path)
numbers_below [] d counts = tt
numbers_below (r ∷ rest) d counts =
    let n : r.number ≡ suc (length rest) = first_number r rest counts in
    (omega arith, all_weaker (λ e. e.0.number ≤ length rest) (λ e. e.0.number ≤ length (r ∷ rest)) (λ e k. omega arith) _ (numbers_below rest None (rest_counts r rest counts)))

pub entries_apart : (path : List Revision) (d : Option Held) → counts_down path ≡ true → IsAscending (λ a b. a.0 ≢ b.0) (path_entries d path)
entries_apart [] d counts = tt
entries_apart (r ∷ rest) d counts =
    let n : r.number ≡ suc (length rest) = first_number r rest counts in
    let less : counts_down rest ≡ true = rest_counts r rest counts in (
      all_weaker (λ e. e.0.number ≤ length rest) (λ e. r ≢ e.0) (λ e k same. omega (arith, ap (λ (x : Revision). x.number) same)) _ (numbers_below rest None less),
      entries_apart rest None less,
    )

-- ---- the row of an entry

pub flag_again : (b : Bool) → is_set (flag b) ≡ b
flag_again true = refl
flag_again false = refl

body_again : (held : Held) → IsKept held → json_in_cell (text_cell held.body) ≡ held.body
body_again held kept = spelled held.body kept.lawful (omega (arith, kept.body.shallow))

held_again : (held : Option Held) → ((some : Held) → held ≡ Some some → IsKept some)
    → option_map (λ (d : Bool × json.Value). record { deleted = d.0; body = d.1 }) (if is_set (flag (is_held held)) then Some (is_set (flag (is_held_deleted held)), json_in_cell (body_cell held)) else None) ≡ held
held_again None kept = refl
held_again (Some held) kept = ap₂ (λ (b : Bool) (v : json.Value). Some (record { deleted = b; body = v })) (flag_again held.deleted) (body_again held (kept held refl))

pub entry_again : (path : List Revision) (e : Revision × Entry) (k db : ℤ) (id : List ℕ) → IsPathEntry path e → entry_of (revision_row k db id e.0 e.1) ≡ e.1
entry_again path e k db id is = ap₂ (λ (p : Option Revision) (h : Option Held). record { parent = p; held = h }) is.again (held_again e.1.held is.kept)
