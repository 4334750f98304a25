-- A call to open revisions that is answered with 200 opens them.
use Rattle.std.proofs.Common.{◌≡◌, ⊎_elim, ℕ, ◌==◌, List, [], ◌∷◌, ◌++◌, map, drop, Bool, true, false, cond, not, Option, Some, None, option_map, option_and_then, Result, Ok, Err, codes, IsUtf8, slice_get, nat_eq, nat_lt, ltb-true, ◌<◌, eqb-true, refl, sym, ap, ◌∙◌, arith}
use Rattle.std.specs.List.{list_all, starts_with}
use Rattle.std.specs.Cmp.{first_so, second_so}
use Rattle.std.specs.Str.{is_utf8}
use Rattle.std.specs.Str.Lossy.{utf8_lossy}
use Rattle.std.proofs.lemmas.List.Elements.{All-nil, All-cons, All-drop, All-weaker}
use Rattle.std.proofs.lemmas.List.Sums.{AllPass-from_list_all}
use Rattle.std.proofs.lemmas.List.Splits.{slice_split_none}
use Rattle.std.proofs.lemmas.Str.{IsUtf8-from_ascii, IsUtf8-from_is_utf8, is_utf8-from_IsUtf8, utf8_lossy-IsUtf8}
use Rattle.std.proofs.lemmas.Str.Ascii.{IsAscii-from_all}
use Rattle.std.specs.FinMap.{get}
use Rattle.auth.specs.Callers as auth
use Rattle.couch_http.specs.Message.{Message}
use Rattle.couch_json.specs.Canonical.{canonical}
use Rattle.couch_json.specs.Lawful.{IsLawful}
use Rattle.couch_json.specs.Nesting.{nests_too_deep}
use Rattle.couch_json.specs.Reading.{reading, value_or_fault, value_read}
use Rattle.couch_json.specs.Value.{Value, text, items_depth}
use Rattle.couch_json.specs.View.{items_of}
use Rattle.couch_json.specs.declared.fault.JsonFault.{JsonFault}
use Rattle.couch_json.specs.declared.fault.JsonFault.TheVariants.{Depth}
use Rattle.couch_json.proofs.ReadingBack.{reading-canonical}
use Rattle.serde_json.specs.Read.{read}
use Rattle.form_urlencoded.specs.Form.{decode, extend_pairs, parse, raw_pairs}
use Rattle.form_urlencoded.proofs.FormLemmas.{IsBytePair, round_trip}
use Rattle.percent_encoding.proofs.OnLiterals.{percent_encoding_on_literals}
use Rattle.percent_encoding.specs.Percent.{percent_decode}
use Rattle.tree.specs.DocumentId.{is_document_id, is_local_id}
use Rattle.tree.specs.Revision.{Revision}
use Rattle.store.specs.Contents.{Contents}
use Rattle.store.specs.Database.{Database, history_at}
use Rattle.read.specs.Changes.{changes_in}
use Rattle.read.specs.OpenRevisions.{open_revisions}
use Rattle.api.specs.Asking.{is_nothing}
use Rattle.api.specs.Listings.{changes_asked, changes_query, range_asked}
use Rattle.api.specs.Paths.{decoded_text, document_id_in, id_text_by, id_text_in, joined_by_slash, named_id_in, part_at, parts_of, slash, text_if}
use Rattle.api.specs.Queries.{RequestedRevisions, DocumentQuery, asked_of_document, document_query, parameter_of, parameters_in, revisions, revisions_listed}
use Rattle.api.specs.Refusals.{and_then, there_or}
use Rattle.api.specs.Views.{keys_asked}
use Rattle.api.specs.declared.method.RequestMethod.TheVariants.{Get}
use Rattle.api.specs.declared.page.Page.{Page}
use Rattle.api.specs.declared.refusal.Refusal.TheVariants.{Id, Query}
use Rattle.node.specs.Answer.{Outcome, Task, reply, task_of, task_outcome}
use Rattle.node.specs.Works.{change_list, document_read, refusal_of_read, read_by}
use Rattle.node.proofs.Tasks.{named as was_named, same, went}
use Rattle.repl.specs.Calls.{Revisions, page_path, request_of, revisions_query, texts_value}
use Rattle.repl.specs.Calls as call
use Rattle.repl.specs.Configuration.{PassConfiguration, database_of_side}
use Rattle.repl.specs.Spelling.{document_segments, segment}
use Rattle.repl.specs.declared.side.Side.{Side}
use Rattle.repl.proofs.Segments.{percent_decode-segment}
use Rattle.passes.proofs.GetReads.{HasOwnParameters, changes_or_document}
use Rattle.passes.proofs.Judged.{WasRead, judged, there_never}
use Rattle.passes.proofs.Spellings.{leads_into, parts-path, slashless, text_was}
use Rattle.passes.specs.Spelled.{AreBytes, RevisionsAreOpened}

-- ---- the query

abbrev lossy_pair : List ℕ × List ℕ → List ℕ × List ℕ
lossy_pair pair = (utf8_lossy pair.0, utf8_lossy pair.1)

abbrev decode_pair : List ℕ × List ℕ → List ℕ × List ℕ
decode_pair pair = (decode pair.0, decode pair.1)

lossy_parsed : (ps : List (List ℕ × List ℕ)) → map parameter_of ps ≡ map lossy_pair (map decode_pair ps)
lossy_parsed [] = refl
lossy_parsed (p ∷ ps) = ap (λ (qs : List (List ℕ × List ℕ)). parameter_of p ∷ qs) (lossy_parsed ps)

abbrev pairs_of : List ℕ → List (List ℕ × List ℕ)
pairs_of list = (codes "open_revs", list) ∷ (codes "revs", codes "true") ∷ []

below : (bs : List ℕ) → list_all (λ b. nat_lt b 256) bs ≡ true → AreBytes bs
below bs e = All-weaker (λ b. nat_lt b 256 ≡ true) (λ b. b < 256) (λ b h. ltb-true b 256 h) bs (AllPass-from_list_all (λ b. nat_lt b 256) bs e)

ascii_text : (bs : List ℕ) → list_all (λ b. nat_lt b 128) bs ≡ true → IsUtf8 bs
ascii_text bs e =
    IsUtf8-from_ascii bs (IsAscii-from_all bs (All-weaker (λ b. nat_lt b 128 ≡ true) (λ b. b < 128) (λ b h. ltb-true b 128 h) bs (AllPass-from_list_all (λ b. nat_lt b 128) bs e)))

lossless : (bs : List ℕ) → list_all (λ b. nat_lt b 128) bs ≡ true → utf8_lossy bs ≡ bs
lossless bs e = utf8_lossy-IsUtf8 bs (ascii_text bs e)

query_parsed : (list : List ℕ) → AreBytes list → parse (extend_pairs [] (pairs_of list)) ≡ pairs_of list
query_parsed list small =
    let name : AreBytes (codes "open_revs") = below (codes "open_revs") refl in
    let with : AreBytes (codes "revs") = below (codes "revs") refl in
    let so : AreBytes (codes "true") = below (codes "true") refl in
    round_trip (pairs_of list) (All-cons IsBytePair (codes "open_revs", list) ((codes "revs", codes "true") ∷ []) (name, small)
    (All-cons IsBytePair (codes "revs", codes "true") [] (with, so) (All-nil IsBytePair)))

parameters_are : (list : List ℕ) → AreBytes list → IsUtf8 list → parameters_in (Some (extend_pairs [] (pairs_of list))) ≡ pairs_of list
parameters_are list small utf8 =
    let q = extend_pairs [] (pairs_of list) in
    lossy_parsed (raw_pairs q) ∙ ap (map lossy_pair) (query_parsed list small)
    ∙ (λ i. (lossless (codes "open_revs") refl i, utf8_lossy-IsUtf8 list utf8 i) ∷ (lossless (codes "revs") refl i, lossless (codes "true") refl i) ∷ [])

some_pairs : (ps : List (List ℕ × List ℕ)) (p : List ℕ × List ℕ) (qs : List (List ℕ × List ℕ)) → map decode_pair ps ≡ p ∷ qs → is_nothing ps ≡ false
some_pairs [] p qs e = absurd cc
some_pairs (r ∷ rs) p qs e = refl

-- ---- a list of texts as JSON

flat : (ts : List (List ℕ)) → items_depth (items_of (map text ts)) ≡ 0
flat [] = refl
flat (t ∷ ts) = omega (arith, flat ts)

-- a list of texts is read back
pub read_back : (ts : List (List ℕ)) → IsLawful (texts_value ts) → reading (canonical (texts_value ts)) ≡ Ok (texts_value ts)
read_back ts lawful = reading-canonical (texts_value ts) lawful (omega (arith, flat ts))

read_text : (deep text_ok : Bool) (bytes : List ℕ) (v : Value) → is_utf8 bytes ≡ text_ok → cond deep (Err Depth) (value_or_fault (cond text_ok (read bytes) None)) ≡ Ok v → is_utf8 bytes ≡ true
read_text true text_ok bytes v is e = absurd cc
read_text false true bytes v is e = is
read_text false false bytes v is e = absurd cc

-- what was read is UTF-8
pub utf8_read : (bytes : List ℕ) (v : Value) → reading bytes ≡ Ok v → IsUtf8 bytes
utf8_read bytes v e = IsUtf8-from_is_utf8 bytes (read_text (nests_too_deep bytes) (is_utf8 bytes) bytes v refl e)

-- ---- the path

behind : (prefix rest : List ℕ) → starts_with nat_eq rest prefix ≡ true → (more : List ℕ) × (rest ≡ prefix ++ more)
behind [] rest h = (rest, refl)
behind (p ∷ prefix) [] h = cc
behind (p ∷ prefix) (t ∷ rest) h =
    let more = behind prefix rest (second_so (nat_eq p t) _ h) in
    let first : t ≡ p = sym (eqb-true p t (first_so (nat_eq p t) _ h)) in
    (more.0, λ i. first i ∷ more.1 i)

abbrev pub decoded_part : List (List ℕ) → ℕ → Option (List ℕ)
decoded_part ps k = option_and_then (λ part. decoded_text part) (slice_get ps k)

abbrev pub id_by_parts : Option (List ℕ) → List (List ℕ) → Option (List ℕ)
id_by_parts None ps = decoded_part ps 2
id_by_parts (Some part) ps = joined_by_slash (decoded_part ps 2) (decoded_part ps 3)

pub id_of_parts : (o : Option (List ℕ)) (path : List ℕ) → id_text_by o path ≡ id_by_parts o (parts_of path)
id_of_parts None path = refl
id_of_parts (Some part) path = refl

decoded-segment : (name : List ℕ) → AreBytes name → decoded_text (segment name) ≡ text_if (is_utf8 name) name
decoded-segment name small = ap (λ (t : List ℕ). text_if (is_utf8 t) t) (percent_decode-segment name small)

design_literal : percent_decode (codes "_design") ≡ codes "_design"
unfolding percent_encoding_on_literals
design_literal = refl

decoded_design : decoded_text (codes "_design") ≡ Some (codes "_design")
decoded_design =
    ap (λ (t : List ℕ). text_if (is_utf8 t) t) design_literal
    ∙ ap (λ (b : Bool). text_if b (codes "_design")) (is_utf8-from_IsUtf8 (codes "_design") (ascii_text (codes "_design") refl))

one_part : (name : List ℕ) → parts_of (segment name) ≡ segment name ∷ []
one_part name = slice_split_none (λ b. b == slash) (segment name) (slashless name)

joined_was : (good : Bool) (rest id : List ℕ) → option_map (λ b. codes "_design" ++ slash ∷ b) (text_if good rest) ≡ Some id → codes "_design/" ++ rest ≡ id
joined_was true rest id e = cc
joined_was false rest id e = absurd cc

-- the text of an id that a path leads to
text_there : (db id t : List ℕ) (design : Bool) → AreBytes id → starts_with nat_eq id (codes "_design/") ≡ design
    → id_text_in (page_path db (cond design (codes "_design/" ++ segment (drop 8 id)) (segment id))) ≡ Some t → id ≡ t
text_there db id t true small is e =
    let rest = drop 8 id in
    let page = codes "_design/" ++ segment rest in
    let path = page_path db page in
    let parts : parts_of path ≡ [] ∷ segment db ∷ codes "_design" ∷ segment rest ∷ [] = parts-path db page ∙ ap (λ (ps : List (List ℕ)). [] ∷ segment db ∷ codes "_design" ∷ ps) (one_part rest) in
    let text : id_text_in path ≡ option_map (λ b. codes "_design" ++ slash ∷ b) (text_if (is_utf8 rest) rest) =
    id_of_parts (part_at 3 path) path
    ∙ ap (λ (ps : List (List ℕ)). id_by_parts (slice_get ps 3) ps) parts
    ∙ (λ i. joined_by_slash (decoded_design i) (decoded-segment rest (All-drop (λ b. b < 256) 8 id small) i)) in
    let b = behind (codes "_design/") id is in
    let same : rest ≡ b.0 = ap (drop 8) b.1 in
    b.1 ∙ ap (λ (x : List ℕ). codes "_design/" ++ x) (sym same) ∙ joined_was (is_utf8 rest) rest t (sym text ∙ e)
text_there db id t false small is e =
    let path = page_path db (segment id) in
    let parts : parts_of path ≡ [] ∷ segment db ∷ segment id ∷ [] = parts-path db (segment id) ∙ ap (λ (ps : List (List ℕ)). [] ∷ segment db ∷ ps) (one_part id) in
    let text : id_text_in path ≡ text_if (is_utf8 id) id =
    id_of_parts (part_at 3 path) path ∙ ap (λ (ps : List (List ℕ)). id_by_parts (slice_get ps 3) ps) parts ∙ decoded-segment id small in
    text_was (is_utf8 id) id t (sym text ∙ e)

sifted : (test : List ℕ → Bool) (o : Option (List ℕ)) (named : List ℕ) → option_and_then (λ t. text_if (test t) t) o ≡ Some named → o ≡ Some named
sifted test None named e = absurd cc
sifted test (Some t) named e = ap Some (text_was (test t) t named e)

-- it is the document of the id that is named
leads_to : (db id named : List ℕ) → AreBytes id → document_id_in (page_path db (document_segments id)) ≡ Some named → id ≡ named
leads_to db id named small e =
    let path = page_path db (document_segments id) in
    let first = sifted (λ t. not (is_local_id t)) (named_id_in path) named e in
    let second = sifted is_document_id (id_text_in path) named first in
    text_there db id named (starts_with nat_eq id (codes "_design/")) small refl second

-- ---- the call

abbrev with_histories : RequestedRevisions → DocumentQuery
with_histories asked = record { asked = asked; revs = true }

record AsksOpened (m : Message) (ts : List (List ℕ)) : Type 0 where
  own : HasOwnParameters m
  changes : changes_query m.query ≡ None
  document : document_query m.query ≡ option_map with_histories (option_map revisions (revisions_listed (texts_value ts)))

no_changes : (m : Message) (ts : List (List ℕ)) → AsksOpened m ts → (db : Database) (v : Value) → change_list m db ≡ Ok v → ⊥
no_changes m ts asks db v e = there_never Query (changes_query m.query) (λ r. Ok (changes_in r db)) v asks.changes e

abbrev Opened : Contents → Message → Outcome → Type 0
Opened a m o = WasRead a m (λ name. document_read m) o

at_page : (page : Page) (caller : auth.Identity) (a : Contents) (m : Message) (ts : List (List ℕ)) (task : Task) (o : Outcome) → AsksOpened m ts
    → task_of page (Some Get) caller m ≡ Ok task → task_outcome caller a task ≡ Ok o → Opened a m o
at_page page caller a m ts task o asks e f =
    ⊎_elim (λ w. absurd (no_changes m ts asks w.db w.value w.was)) (λ w. w) (changes_or_document page caller a m task o asks.own e f)

asks_opened : (k : PassConfiguration) (side : Side) (r : Revisions) → AreBytes (canonical (texts_value r.revisions)) → IsLawful (texts_value r.revisions)
    → AsksOpened (request_of k side (call.open_revisions r)) r.revisions
asks_opened k side r small lawful =
    let list = canonical (texts_value r.revisions) in
    let back = read_back r.revisions lawful in
    let parameters = parameters_are list small (utf8_read list (texts_value r.revisions) back) in
    record {
      own = record {
        some = some_pairs (raw_pairs (revisions_query r.revisions)) (codes "open_revs", list) ((codes "revs", codes "true") ∷ []) (query_parsed list small);
        listing = ap range_asked parameters;
        view = ap keys_asked parameters;
      };
      changes = ap changes_asked parameters;
      document = ap asked_of_document parameters
          ∙ ap (λ (x : Result Value JsonFault). option_map with_histories (option_map revisions (option_and_then (λ v. revisions_listed v) (value_read x)))) back;
    }

record WasAsked (o : Option (List Revision)) (query : DocumentQuery) : Type 0 where
  list : List Revision
  was : o ≡ Some list
  is : query ≡ with_histories (revisions list)

was_asked : (o : Option (List Revision)) (query : DocumentQuery)
    → option_map with_histories (option_map revisions o) ≡ Some query → WasAsked o query
was_asked None query e = absurd cc
was_asked (Some rs) query e = record { list = rs; was = refl; is = cc }

pub opened_by : RevisionsAreOpened
opened_by c a k side r small id_small list_small lawful ok =
    let m = request_of k side (call.open_revisions r) in
    let j = judged c a m (omega (arith, ok)) in
    let says = asks_opened k side r list_small lawful in
    let w = at_page j.page j.caller a m r.revisions j.task j.outcome says j.asked j.came in
    let into : database_of_side k side ≡ w.name = leads_into (database_of_side k side) (document_segments r.id) w.name small w.own in
    let p = went (there_or Id (document_id_in m.path)) (λ id. and_then (there_or Query (document_query m.query)) (λ query. refusal_of_read (read_by id query.revs query.asked w.db))) w.value w.was in
    let l = went (there_or Query (document_query m.query)) (λ query. refusal_of_read (read_by p.first query.revs query.asked w.db)) w.value p.then in
    let to : r.id ≡ p.first = leads_to (database_of_side k side) r.id p.first id_small (was_named Id (document_id_in m.path) p.first p.was) in
    let q = was_asked (revisions_listed (texts_value r.revisions)) l.first (sym says.document ∙ was_named Query (document_query m.query) l.first l.was) in
    let value : open_revisions r.id (history_at w.db r.id) (Some q.list) true ≡ w.value =
    ap (λ (id : List ℕ). open_revisions id (history_at w.db id) (Some q.list) true) to
    ∙ same {A = Value} _ w.value (ap (λ (x : DocumentQuery). refusal_of_read (read_by p.first x.revs x.asked w.db)) (sym q.is) ∙ l.then) in
    record {
      db = w.db;
      asked = q.list;
      there = ap (get a) into ∙ w.there;
      says = q.was;
      is = j.told ∙ w.is ∙ ap reply (sym value);
    }
