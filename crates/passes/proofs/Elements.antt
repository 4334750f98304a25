-- Opened revisions, as a pass reads them back: each came, or is reported.
use Rattle.std.proofs.Common.{◌≡◌, inl, inr, ⊎_elim, ◌||◌, ℕ, List, [], ◌∷◌, map, Bool, true, false, Option, Some, None, option_map, option_and_then, codes, bytes_eq, refl, sym, ap, ◌∙◌, subst}
use Rattle.std.specs.List.{list_any}
use Rattle.couch_json.specs.Value.{Value, Members, object, text, member_at, put}
use Rattle.couch_json.specs.View.{items_of}
use Rattle.couch_json.specs.Parts.{text_in}
use Rattle.tree.specs.History.{HistoryContent, chain, held_of}
use Rattle.tree.specs.Revision.{Revision, text_of}
use Rattle.tree.specs.ShownDocument.{body_members, shown_members, with_mark}
use Rattle.tree.specs.Write.{StandsIn}
use Rattle.tree.specs.declared.entry.Held.{Held}
use Rattle.store.specs.Database.{Database, history_at}
use Rattle.read.specs.OpenRevisions.{element, open_revision, open_revisions}
use Rattle.read.specs.Path.{with_path, with_revisions}
use Rattle.api.specs.Queries.{revisions_listed}
use Rattle.repl.specs.Calls.{Revisions, texts_value}
use Rattle.repl.specs.Replies.{Opened, document, documents_of_opened, missing, missing_report, missing_reports, opened_in}
use Rattle.repl.specs.Shapes.{before, each_in, list_in}
use Rattle.passes.proofs.MemberLemmas.{put_at_other, put_at_same}
use Rattle.passes.proofs.Missing.{and_both, and_so, equal_bytes, or_left, or_parts, or_right, same_bytes, stands}
use Rattle.passes.specs.Owed.{Opens}
use Rattle.passes.specs.Settled.{is_document_of, is_report_entry_of, is_reported, is_sent, is_this_text}

-- the document that a revision is shown as
abbrev pub shown : List ℕ → HistoryContent → Revision → Held → Value
shown id h r held = object (with_revisions true h r (shown_members id r held))

-- what is read of one revision
abbrev pub read_by : List ℕ → HistoryContent → Revision → Option Held → Opened
read_by id h r None = missing (text_of r)
read_by id h r (Some held) = document (shown id h r held)

one_read : (id : List ℕ) (h : HistoryContent) (r : Revision) (o : Option Held) → opened_in (element r (option_map (λ held. shown id h r held) o)) ≡ Some (read_by id h r o)
one_read id h r None = refl
one_read id h r (Some held) = refl

pub all_read : (id : List ℕ) (h : HistoryContent) (rs : List Revision) → each_in opened_in (items_of (map (open_revision id h true) rs)) ≡ Some (map (λ r. read_by id h r (held_of h r)) rs)
all_read id h [] = refl
all_read id h (r ∷ rs) = (λ i. before (one_read id h r (held_of h r) i) (all_read id h rs i))

-- ---- the members of a shown document

marked : (b : Bool) (name : List ℕ) (ms : Members) → bytes_eq name (codes "_deleted") ≡ false → member_at name (with_mark b ms) ≡ member_at name ms
marked true name ms h = put_at_other name (codes "_deleted") _ ms h
marked false name ms h = refl

pathed : (r : Revision) (o : Option (List Revision)) (name : List ℕ) (ms : Members) → bytes_eq name (codes "_revisions") ≡ false → member_at name (with_path r o ms) ≡ member_at name ms
pathed r None name ms h = refl
pathed r (Some path) name ms h = put_at_other name (codes "_revisions") _ ms h

id_at : (id : List ℕ) (h : HistoryContent) (r : Revision) (held : Held) → member_at (codes "_id") (with_revisions true h r (shown_members id r held)) ≡ Some (text id)
id_at id h r held =
    pathed r (chain h r) (codes "_id") (shown_members id r held) refl
    ∙ marked held.deleted (codes "_id") (put (codes "_rev") (text (text_of r)) (put (codes "_id") (text id) (body_members held.body))) refl
    ∙ put_at_other (codes "_id") (codes "_rev") (text (text_of r)) (put (codes "_id") (text id) (body_members held.body)) refl
    ∙ put_at_same (codes "_id") (text id) (body_members held.body)

rev_at : (id : List ℕ) (h : HistoryContent) (r : Revision) (held : Held) → member_at (codes "_rev") (with_revisions true h r (shown_members id r held)) ≡ Some (text (text_of r))
rev_at id h r held =
    pathed r (chain h r) (codes "_rev") (shown_members id r held) refl
    ∙ marked held.deleted (codes "_rev") (put (codes "_rev") (text (text_of r)) (put (codes "_id") (text id) (body_members held.body))) refl
    ∙ put_at_same (codes "_rev") (text (text_of r)) (put (codes "_id") (text id) (body_members held.body))

came : (id : List ℕ) (h : HistoryContent) (r : Revision) (held : Held) → is_document_of id r (shown id h r held) ≡ true
came id h r held =
    and_so _ _
    (ap (λ (o : Option Value). is_this_text id (option_and_then (λ w. text_in w) o)) (id_at id h r held) ∙ equal_bytes id id refl)
    (ap (λ (o : Option Value). is_this_text (text_of r) (option_and_then (λ w. text_in w) o)) (rev_at id h r held) ∙ equal_bytes (text_of r) (text_of r) refl)

told : (id : List ℕ) (r : Revision) → is_report_entry_of id r (missing_report id (text_of r)) ≡ true
told id r = and_so (bytes_eq id id) (bytes_eq (text_of r) (text_of r)) (equal_bytes id id refl) (equal_bytes (text_of r) (text_of r) refl)

abbrev Whole : List ℕ → Revision → List Opened → Type 0
Whole id r opened = (is_sent id r (documents_of_opened opened) || is_reported id r (missing_reports id opened)) ≡ true

whole_first : (id : List ℕ) (h : HistoryContent) (r : Revision) (o : Option Held) (rest : List Opened) → Whole id r (read_by id h r o ∷ rest)
whole_first id h r None rest = or_right (is_sent id r (documents_of_opened rest)) _ (or_left (is_report_entry_of id r (missing_report id (text_of r))) (is_reported id r (missing_reports id rest)) (told id r))
whole_first id h r (Some held) rest =
    or_left _ (is_reported id r (missing_reports id rest)) (or_left (is_document_of id r (shown id h r held)) (is_sent id r (documents_of_opened rest)) (came id h r held))

whole_more : (id : List ℕ) (r : Revision) (o : Opened) (rest : List Opened) → Whole id r rest → Whole id r (o ∷ rest)
whole_more id r (document v) rest w =
    ⊎_elim
    (λ k. or_left _ (is_reported id r (missing_reports id rest)) (or_right (is_document_of id r v) (is_sent id r (documents_of_opened rest)) k))
    (λ k. or_right _ (is_reported id r (missing_reports id rest)) k)
    (or_parts (is_sent id r (documents_of_opened rest)) (is_reported id r (missing_reports id rest)) w)
whole_more id r (missing rev) rest w =
    ⊎_elim
    (λ k. or_left (is_sent id r (documents_of_opened rest)) _ k)
    (λ k. or_right (is_sent id r (documents_of_opened rest)) _ (or_right (is_report_entry_of id r (missing_report id rev)) (is_reported id r (missing_reports id rest)) k))
    (or_parts (is_sent id r (documents_of_opened rest)) (is_reported id r (missing_reports id rest)) w)

whole_all : (id : List ℕ) (h : HistoryContent) (rs : List Revision) (r : Revision) → StandsIn rs r → Whole id r (map (λ s. read_by id h s (held_of h s)) rs)
whole_all id h [] r s = absurd s
whole_all id h (x ∷ xs) r (inl e) =
    subst (λ (y : Revision). Whole id y (read_by id h x (held_of h x) ∷ map (λ s. read_by id h s (held_of h s)) xs)) e (whole_first id h x (held_of h x) (map (λ s. read_by id h s (held_of h s)) xs))
whole_all id h (x ∷ xs) r (inr s) = whole_more id r (read_by id h x (held_of h x)) (map (λ s. read_by id h s (held_of h s)) xs) (whole_all id h xs r s)

pub whole_opening : (db : Database) (row : Revisions) (asked : List Revision) (opened : List Opened) → revisions_listed (texts_value row.revisions) ≡ Some asked
    → list_in opened_in (open_revisions row.id (history_at db row.id) (Some asked) true) ≡ Some opened → Opens row opened
whole_opening db row asked opened says read id r good among =
    let h = history_at db row.id in
    let is : map (λ s. read_by row.id h s (held_of h s)) asked ≡ opened = (let k : Some (map (λ s. read_by row.id h s (held_of h s)) asked) ≡ Some opened = sym (all_read row.id h asked) ∙ read in cc) in
    let one = and_both (bytes_eq row.id id) (list_any (λ t. bytes_eq t (text_of r)) row.revisions) (alone _ among) in
    let same : row.id ≡ id = same_bytes row.id id one.0 in
    let here = stands row.revisions asked r good says one.1 in
    subst (λ (i : List ℕ). (is_sent i r (documents_of_opened opened) || is_reported i r (missing_reports row.id opened)) ≡ true) same
    (subst (λ (os : List Opened). Whole row.id r os) is (whole_all row.id h asked r here))
  where
    alone : (b : Bool) → (b || false) ≡ true → b ≡ true
    alone true e = refl
    alone false e = e
