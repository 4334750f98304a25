-- When a row is sound, by its cells.
use Rattle.tables.proofs.Common.{Blob, Bool, Int, Real, int_lt, ints, negsuc, IsBody, IsDatabaseRow, IsTrue, List, None, Null, Option, Row, Some, Text, Value, [], ap, arith, body_cell, bytes, canonical, column, cond, count_in_cell, db_of, entry_of, false, flag, id_of, is_database_name, is_document_id, is_gone_row, is_held, is_held_deleted, is_set, json_in_cell, sequence_of_database, length, local_of, name_of, nat_tests, number_of, suc, option_map, pos, refl, security_of, security_text, sequence_of_row, subst, sym, true, read_or_null, Err, whole_in_cell, winner_text, ℕ, ℤ, ◌<◌, ◌^◌, ◌∙◌, ◌∷◌, ◌≡◌, ◌≢◌, ◌≤◌, ◌⊎◌, inl, inr, IsUtf8}
use Rattle.std.proofs.lemmas.Bool.{false≢true}
use Rattle.std.proofs.lemmas.List.{get_or_past}
use Rattle.std.specs.Ordering.{int_eq}
use Rattle.std.specs.Prelude.{int_le, is_none, zero, ◌||◌}
use Rattle.couch_json.specs.Lawful as json
use Rattle.couch_json.specs.Value as json_value
use Rattle.couch_json.specs.Reading.{reading}
use Rattle.couch_json.specs.declared.fault.JsonFault.{JsonFault}
use Rattle.couch_json.proofs.ReadingBack.{reading-canonical}
use Rattle.policy.specs.Security.{is_security}
use Rattle.tree.specs.DocumentId.{is_local_id}
use Rattle.tree.specs.Revision.{greatest_number}
use Rattle.tree.specs.declared.entry.Held.{Held}
use Rattle.tree.proofs.Shown.{inside}
use Rattle.tree.specs.History.{HistoryContent}
use Rattle.file_check.specs.inner.Rows.{IsEndedDatabase, IsHeldSo, IsIdOfDocument, IsIdOfLocal, IsLawfulDocument, IsLawfulLocal, IsOwnedDocument, IsWinning, ShowsNothing}
use Rattle.file_check.specs.Tables.{HasDatabaseCells, HasDocumentCells, HasHeldLeaves, HasLocalCells}
use Rattle.file_check.specs.inner.Texts.{IsBodyText, IsSecurityText}

-- ---- databases

module _ (r : Row) (name text : List ℕ) (name_is : column r 2 ≡ Blob name) (text_is : column r 3 ≡ Text text) where
  pub database_sound : HasDatabaseCells r → (n : ℕ) → column r 4 ≡ Int (pos n) → n < 2 ^ 63 → is_database_name name ≡ true → IsSecurityText text → IsDatabaseRow r
  database_sound cells n number small named k =
      let spelled : security_text r ≡ canonical (security_of r) = ap bytes text_is ∙ k.canonical ∙ ap (λ v. canonical (json_in_cell v)) (sym text_is) in
      let counted : whole_in_cell (column r 4) ≡ pos (sequence_of_database r) = ap whole_in_cell number ∙ ap pos (sym (ap count_in_cell number)) in
      record {
        is = cells ∙ (λ i. Int (number_of r) ∷ Null ∷ Blob (name_of r) ∷ Text (spelled i) ∷ Int (counted i) ∷ []);
        named = ap is_database_name (ap bytes name_is) ∙ named;
        security = ap (λ v. is_security (json_in_cell v)) text_is ∙ k.security;
        bounded = subst (λ m. m < 2 ^ 63) (sym (ap count_in_cell number)) small;
      }

  pub database_unnamed : is_database_name name ≡ false → ¬ IsDatabaseRow r
  database_unnamed out k = false≢true (sym out ∙ ap is_database_name (sym (ap bytes name_is)) ∙ k.named)

  pub database_unspelled : ¬ IsSecurityText text → ¬ IsDatabaseRow r
  database_unspelled out k =
      out (record {
        canonical = sym (ap bytes text_is) ∙ ap (λ x. bytes (column x 3)) k.is ∙ ap (λ v. canonical (json_in_cell v)) text_is;
        security = ap (λ v. is_security (json_in_cell v)) (sym text_is) ∙ k.security;
      })

pub database_uncounted : (r : Row) → ((n : ℕ) → column r 4 ≢ Int (pos n)) → ¬ IsDatabaseRow r
database_uncounted r out k = out (sequence_of_database r) (ap (λ x. column x 4) k.is)

-- ---- where databases end

pub ended_so : (r : Row) (there : Bool) → IsDatabaseRow r → (int_eq (whole_in_cell (column r 4)) (pos 0) || there) ≡ true → IsEndedDatabase r there
ended_so r there row ends = record { row = row; ends = ends }

pub ended_unsound : (r : Row) (there : Bool) → ¬ IsDatabaseRow r → ¬ IsEndedDatabase r there
ended_unsound r there out k = out k.row

pub ended_nowhere : (r : Row) (there : Bool) → (int_eq (whole_in_cell (column r 4)) (pos 0) || there) ≡ false → ¬ IsEndedDatabase r there
ended_nowhere r there out k = false≢true (sym out ∙ k.ends)

-- ---- local documents

module _ (r : Row) (id text : List ℕ) (id_is : column r 2 ≡ Blob id) (text_is : column r 4 ≡ Text text) where
  pub local_sound : HasLocalCells r → (n : ℕ) → column r 3 ≡ Int (pos n) → 1 ≤ n → n ≤ greatest_number → IsIdOfLocal id → IsBodyText text → IsLawfulLocal r
  local_sound cells n number first last named k =
      let spelled : bytes (column r 4) ≡ canonical (local_of r).body = ap bytes text_is ∙ k.canonical ∙ ap (λ v. canonical (json_in_cell v)) (sym text_is) in
      let counted : whole_in_cell (column r 3) ≡ pos (local_of r).number = ap whole_in_cell number ∙ ap pos (sym (ap count_in_cell number)) in
      record {
        is = cells ∙ (λ i. Int (number_of r) ∷ Int (db_of r) ∷ Blob (id_of r) ∷ Int (counted i) ∷ Text (spelled i) ∷ []);
        named = ap is_document_id (ap bytes id_is) ∙ named.named;
        local = record {
          named = ap is_local_id (ap bytes id_is) ∙ named.local;
          first = subst (λ m. 1 ≤ m) (sym (ap count_in_cell number)) first;
          last = subst (λ m. m ≤ greatest_number) (sym (ap count_in_cell number)) last;
          body = subst (λ v. IsBody (json_in_cell v)) (sym text_is) k.body;
        };
      }

  pub local_unnamed : ¬ IsIdOfLocal id → ¬ IsLawfulLocal r
  local_unnamed out k = out (record { named = ap is_document_id (sym (ap bytes id_is)) ∙ k.named; local = ap is_local_id (sym (ap bytes id_is)) ∙ k.local.named })

  pub local_unspelled : ¬ IsBodyText text → ¬ IsLawfulLocal r
  local_unspelled out k =
      out (record {
        canonical = sym (ap bytes text_is) ∙ ap (λ x. bytes (column x 4)) k.is ∙ ap (λ v. canonical (json_in_cell v)) text_is;
        body = subst (λ v. IsBody (json_in_cell v)) text_is k.local.body;
      })

pub local_uncounted : (r : Row) → ((n : ℕ) → column r 3 ≢ Int (pos n)) → ¬ IsLawfulLocal r
local_uncounted r out k = out (local_of r).number (ap (λ x. column x 3) k.is)

pub local_too_small : (r : Row) (n : ℕ) → column r 3 ≡ Int (pos n) → n < 1 → ¬ IsLawfulLocal r
local_too_small r n is small k = let same : count_in_cell (column r 3) ≡ n = ap count_in_cell is in omega (arith, small, k.local.first, same)

pub local_too_great : (r : Row) (n : ℕ) → column r 3 ≡ Int (pos n) → greatest_number < n → ¬ IsLawfulLocal r
local_too_great r n is great k = let same : count_in_cell (column r 3) ≡ n = ap count_in_cell is in omega (arith, great, k.local.last, same)

-- ---- documents

mark_is : (v : Value) (n : ℕ) → v ≡ Int (pos n) → n ≤ 1 → v ≡ flag (is_set v)
mark_is v n is small = by n is small
  where
    by : (m : ℕ) → v ≡ Int (pos m) → m ≤ 1 → v ≡ flag (is_set v)
    by zero e low = e ∙ ap (λ x. flag (is_set x)) (sym e)
    by (suc zero) e low = e ∙ ap (λ x. flag (is_set x)) (sym e)
    by (suc (suc m)) e low = absurd (omega (arith, low))

flag_small : (b : Bool) (n : ℕ) → flag b ≡ Int (pos n) → n ≤ 1
flag_small true n e = let z : 1 ≡ n = ap count_in_cell e in omega (arith, z)
flag_small false n e = let z : 0 ≡ n = ap count_in_cell e in omega (arith, z)

flag_is_count : (v : Value) (b : Bool) → v ≡ flag b → ((n : ℕ) → v ≢ Int (pos n)) → ⊥
flag_is_count v true is none = none 1 is
flag_is_count v false is none = none 0 is

pub document_sound : (r : Row) (id : List ℕ) (n m : ℕ) → HasDocumentCells r → column r 2 ≡ Blob id → column r 3 ≡ Int (pos n) → column r 5 ≡ Int (pos m) → m ≤ 1 → 1 ≤ n → IsIdOfDocument id → IsLawfulDocument r
document_sound r id n m cells id_is number mark small low named =
    let counted : whole_in_cell (column r 3) ≡ pos (sequence_of_row r) = ap whole_in_cell number ∙ ap pos (sym (ap count_in_cell number)) in
    let flagged : Int (whole_in_cell (column r 5)) ≡ flag (is_gone_row r) = ap (λ v. Int (whole_in_cell v)) mark ∙ sym mark ∙ mark_is (column r 5) m mark small in
    record {
      is = cells ∙ (λ i. Int (number_of r) ∷ Int (db_of r) ∷ Blob (id_of r) ∷ Int (counted i) ∷ Text (winner_text r) ∷ flagged i ∷ []);
      named = ap is_document_id (ap bytes id_is) ∙ named.named;
      apart = ap is_local_id (ap bytes id_is) ∙ named.apart;
      text = subst IsUtf8 (sym (ap bytes id_is)) named.text;
      positive = subst (λ k. 1 ≤ k) (sym (ap count_in_cell number)) low;
    }

pub document_uncounted : (r : Row) → ((n : ℕ) → column r 3 ≢ Int (pos n)) → ¬ IsLawfulDocument r
document_uncounted r out k = out (sequence_of_row r) (ap (λ x. column x 3) k.is)

pub document_unmarked : (r : Row) → ((n : ℕ) → column r 5 ≢ Int (pos n)) → ¬ IsLawfulDocument r
document_unmarked r out k = flag_is_count (column r 5) (is_gone_row r) (ap (λ x. column x 5) k.is) out

pub document_overmarked : (r : Row) (m : ℕ) → column r 5 ≡ Int (pos m) → 1 < m → ¬ IsLawfulDocument r
document_overmarked r m is over k = let low = flag_small (is_gone_row r) m (sym (ap (λ x. column x 5) k.is) ∙ is) in omega (arith, over, low)

pub document_unnumbered : (r : Row) (n : ℕ) → column r 3 ≡ Int (pos n) → n < 1 → ¬ IsLawfulDocument r
document_unnumbered r n is low k = let same : count_in_cell (column r 3) ≡ n = ap count_in_cell is in omega (arith, low, k.positive, same)

pub document_unnamed : (r : Row) (id : List ℕ) → column r 2 ≡ Blob id → ¬ IsIdOfDocument id → ¬ IsLawfulDocument r
document_unnamed r id is out k =
    out (record { named = ap is_document_id (sym (ap bytes is)) ∙ k.named; apart = ap is_local_id (sym (ap bytes is)) ∙ k.apart; text = subst IsUtf8 (ap bytes is) k.text })

-- ---- what is held of a revision

abbrev held_made : Option (Bool × json_value.Value) → Option Held
held_made o = option_map (λ (d : Bool × json_value.Value). record { deleted = d.0; body = d.1 }) o

held_by_mark : (r : Row) (b : Bool) → is_set (column r 6) ≡ b → (entry_of r).held ≡ held_made (cond b (Some (is_set (column r 7), json_in_cell (column r 8))) None)
held_by_mark r b is = ap (λ c. held_made (cond c (Some (is_set (column r 7), json_in_cell (column r 8))) None)) is

pub held_none : (r : Row) → ShowsNothing r → IsHeldSo r
held_none r k =
    let nothing : (entry_of r).held ≡ None = held_by_mark r false (ap is_set k.held) in
    record {
      held = k.held ∙ ap (λ o. flag (is_held o)) (sym nothing);
      mark = k.mark ∙ ap (λ o. flag (is_held_deleted o)) (sym nothing);
      text = k.text ∙ ap body_cell (sym nothing);
      body = λ h is. absurd (let z : None ≡ Some h = sym nothing ∙ is in cc);
      spelled = λ h is. absurd (let z : None ≡ Some h = sym nothing ∙ is in cc);
    }

pub held_some : (r : Row) (m : ℕ) (text : List ℕ) → column r 6 ≡ Int (pos 1) → column r 7 ≡ Int (pos m) → m ≤ 1 → column r 8 ≡ Text text → IsBodyText text → json.IsLawful (json_in_cell (Text text)) → IsHeldSo r
held_some r m text held mark small text_is k lawful =
    let it : Held = record { deleted = is_set (column r 7); body = json_in_cell (column r 8) } in
    let some : (entry_of r).held ≡ Some it = held_by_mark r true (ap is_set held) in
    record {
      held = held ∙ ap (λ o. flag (is_held o)) (sym some);
      mark = mark_is (column r 7) m mark small ∙ ap (λ o. flag (is_held_deleted o)) (sym some);
      text = text_is ∙ ap Text (k.canonical ∙ ap (λ v. canonical (json_in_cell v)) (sym text_is)) ∙ ap body_cell (sym some);
      body = λ h is. subst (λ (x : Held). IsBody x.body) (inside it h (sym some ∙ is)) (subst (λ v. IsBody (json_in_cell v)) (sym text_is) k.body);
      spelled = λ h is. subst (λ (x : Held). json.IsLawful x.body) (inside it h (sym some ∙ is)) (subst (λ v. json.IsLawful (json_in_cell v)) (sym text_is) lawful);
    }

-- the cells of a revision of which this is held
record ShowsHeld (r : Row) : Type 0 where
  held : Held
  entry : (entry_of r).held ≡ Some held
  first : column r 6 ≡ Int (pos 1)
  text : column r 8 ≡ Text (canonical held.body)

shows_so : (r : Row) → IsHeldSo r → ShowsNothing r ⊎ ShowsHeld r
shows_so r k = by (entry_of r).held refl
  where
    by : (o : Option Held) → (entry_of r).held ≡ o → ShowsNothing r ⊎ ShowsHeld r
    by None is = inl (record { held = k.held ∙ ap (λ o. flag (is_held o)) is; mark = k.mark ∙ ap (λ o. flag (is_held_deleted o)) is; text = k.text ∙ ap body_cell is })
    by (Some h) is = inr (record { held = h; entry = is; first = k.held ∙ ap (λ o. flag (is_held o)) is; text = k.text ∙ ap body_cell is })

-- where not nothing is shown, something is held
shows_held : (r : Row) → ¬ ShowsNothing r → IsHeldSo r → ShowsHeld r
shows_held r some k = by (shows_so r k)
  where
    by : ShowsNothing r ⊎ ShowsHeld r → ShowsHeld r
    by (inl nothing) = absurd (some nothing)
    by (inr held) = held

pub held_uncounted : (r : Row) → ((n : ℕ) → column r 6 ≢ Int (pos n)) → ¬ IsHeldSo r
held_uncounted r out k = flag_is_count (column r 6) (is_held (entry_of r).held) k.held out

pub held_otherwise : (r : Row) (n : ℕ) → ¬ ShowsNothing r → column r 6 ≡ Int (pos n) → n ≢ 1 → ¬ IsHeldSo r
held_otherwise r n some is other k = let h = shows_held r some k in other (ap count_in_cell (sym is ∙ h.first))

pub held_unmarked : (r : Row) → ((n : ℕ) → column r 7 ≢ Int (pos n)) → ¬ IsHeldSo r
held_unmarked r out k = flag_is_count (column r 7) (is_held_deleted (entry_of r).held) k.mark out

pub held_overmarked : (r : Row) (m : ℕ) → column r 7 ≡ Int (pos m) → 1 < m → ¬ IsHeldSo r
held_overmarked r m is over k = let low = flag_small (is_held_deleted (entry_of r).held) m (sym k.mark ∙ is) in omega (arith, over, low)

pub held_untold : (r : Row) → ¬ ShowsNothing r → ((t : List ℕ) → column r 8 ≢ Text t) → ¬ IsHeldSo r
held_untold r some out k = let h = shows_held r some k in out (canonical h.held.body) h.text

pub held_unspelled : (r : Row) (text : List ℕ) → ¬ ShowsNothing r → column r 8 ≡ Text text → ¬ IsBodyText text → ¬ IsHeldSo r
held_unspelled r text some text_is out k =
    let h = shows_held r some k in
    let made : record { deleted = is_set (column r 7); body = json_in_cell (column r 8) } ≡ h.held = inside _ h.held (sym (held_by_mark r true (ap is_set h.first)) ∙ h.entry) in
    let body : h.held.body ≡ json_in_cell (Text text) = ap (λ (x : Held). x.body) (sym made) ∙ ap json_in_cell text_is in
    out (record {
      canonical = ap bytes (sym text_is ∙ h.text) ∙ ap canonical body;
      body = subst IsBody body (k.body h.held h.entry);
    })

-- ---- texts

-- a text that is not read is not canonical
pub unspelled : (text : List ℕ) (fault : JsonFault) → reading text ≡ Err fault → text ≢ canonical (json_in_cell (Text text))
unspelled text fault read is =
    let empty : json_in_cell (Text text) ≡ json_value.null = ap read_or_null read in
    let spelled : text ≡ canonical json_value.null = is ∙ ap canonical empty in
    let back = sym (ap reading spelled) ∙ read in
    let whole = reading-canonical json_value.null tt (omega arith) in
    absurd (cc)

-- ---- the mark and the owner of a document

pub gone_is : (r : Row) (n : ℤ) → column r 5 ≡ Int n → int_lt (pos 0) n ≡ is_gone_row r
gone_is r n is = by n ∙ ap is_set (sym is)
  where
    by : (m : ℤ) → int_lt (pos 0) m ≡ is_set (Int m)
    by (pos k) = grind (arith, ints, nat_tests)
    by (negsuc k) = grind (arith, ints, nat_tests)

pub gone_not : (r : Row) → ((n : ℤ) → column r 5 ≢ Int n) → false ≡ is_gone_row r
gone_not r none = by (column r 5) none
  where
    by : (v : Value) → ((n : ℤ) → v ≢ Int n) → false ≡ is_set v
    by Null none = refl
    by (Int n) none = absurd (none n refl)
    by (Real x) none = refl
    by (Text t) none = refl
    by (Blob b) none = refl

-- the sequence of a document is one of its database
abbrev IsWithin : Row → Option ℤ → Type 0
IsWithin r length = (n : ℤ) × (length ≡ Some n) × (int_le (whole_in_cell (column r 3)) n ≡ true)

module _ (r : Row) (length : Option ℤ) (h : HistoryContent) where
  pub owned_so : IsWithin r length → IsWinning h (winner_text r) (is_gone_row r) → HasHeldLeaves h → IsOwnedDocument r length h
  owned_so within winning leaves = record { within = within; winning = winning; leaves = leaves }

  pub owned_nowhere : is_none length ≡ true → ¬ IsOwnedDocument r length h
  owned_nowhere none k = let some = ap is_none k.within.1 in false≢true (sym some ∙ none)

  pub owned_not_within : ¬ IsWithin r length → ¬ IsOwnedDocument r length h
  owned_not_within out k = out k.within

  pub owned_not_winning : ¬ IsWinning h (winner_text r) (is_gone_row r) → ¬ IsOwnedDocument r length h
  owned_not_winning out k = out k.winning

  pub owned_not_held : ¬ HasHeldLeaves h → ¬ IsOwnedDocument r length h
  owned_not_held out k = out k.leaves

pub owned_by : (r : Row) (length : Option ℤ) (h k : HistoryContent) → h ≡ k → IsOwnedDocument r length h → IsOwnedDocument r length k
owned_by r length h k is owned = subst (IsOwnedDocument r length) is owned

pub not_owned_by : (r : Row) (length : Option ℤ) (h k : HistoryContent) → h ≡ k → ¬ IsOwnedDocument r length h → ¬ IsOwnedDocument r length k
not_owned_by r length h k is out owned = out (subst (IsOwnedDocument r length) (sym is) owned)

-- ---- cells

pub past_is_null : (r : Row) (at : ℕ) → length r ≤ at → column r at ≡ Null
past_is_null r at past = get_or_past r at Null past

-- ---- what says of each part of a row whether it is sound
pub ruleset database_forms = (database_sound, database_uncounted, database_unnamed, database_unspelled)

pub ruleset ended_forms = (ended_so, ended_unsound, ended_nowhere)

pub ruleset document_forms = (document_sound, document_uncounted, document_unmarked, document_overmarked, document_unnumbered, document_unnamed)

pub ruleset owner_forms = (owned_so, owned_nowhere, owned_not_within, owned_not_winning, owned_not_held)

pub ruleset local_forms = (local_sound, local_uncounted, local_too_small, local_too_great, local_unnamed, local_unspelled)

pub ruleset held_forms = (held_none, held_some, held_uncounted, held_otherwise, held_unmarked, held_overmarked, held_untold, held_unspelled)
