-- Documents that were pushed, as a pass reads the reply back: each is known afterwards, or reported.
use Rattle.std.proofs.Common.{◌≡◌, ◌==◌, ◌||◌, ⊎_elim, ℕ, suc, List, [], ◌∷◌, length, Bool, true, false, cond, Option, Some, None, option_map, option_and_then, Result, Ok, Err, codes, bytes_eq, eqb-true, refl, sym, ap, ◌∙◌, subst, arith}
use Rattle.std.specs.Prelude.{⊤, IsTrue}
use Rattle.auth.specs.Callers.{Identity}
use Rattle.couch_json.specs.Parts.{items_in, text_in}
use Rattle.couch_json.specs.Value.{Value, Items, no_items, item, no_members, member_of, object, put, text}
use Rattle.couch_json.specs.View.{items_of}
use Rattle.tree.specs.History.{HistoryContent, is_known, placement}
use Rattle.tree.specs.Revision.{Revision, is_revision, revision_of, revision_read, text_of}
use Rattle.tree.specs.Write.{head}
use Rattle.tree.specs.declared.placement.Placed.{Placed}
use Rattle.tree.specs.declared.placement.Placed.TheVariants.{Added, Known as KnownPlace}
use Rattle.tree.specs.declared.placement.TreeFault.{TreeFault}
use Rattle.tree.specs.declared.placement.TreeFault.TheVariants.{BadPath}
use Rattle.tree.proofs.RevisionText.{read_of_text}
use Rattle.store.specs.Database.{DocumentWrite}
use Rattle.write.specs.Admission.{given, replicated_outcome}
use Rattle.write.specs.Bulk.{DocumentOutcome, Histories, Told, after, all_told, document_outcome, outcome_in, outcome_told, outcomes, result_told}
use Rattle.write.specs.Document.{Ancestry, ancestry_alone, ancestry_by, ancestry_in, body_for, item_count, fits_id, given_revisions, id_in_bulk, id_in, ids_in, is_bulk_id, is_newest, mark_in, member_text, onto, path_of_hashes, given_revision, revisions_if, ancestry_given, sent_with, start_in, words_in, words_said}
use Rattle.write.specs.Settling.{AreKnownOrRefused, IsKnownIn, IsKnownOrRefused, revision_brought}
use Rattle.write.specs.Terms.{Terms}
use Rattle.write.specs.declared.fault.WriteFault.TheVariants.{BadDocument}
use Rattle.write.specs.declared.planned.Outcome.{Outcome}
use Rattle.write.specs.declared.planned.Outcome.TheVariants.{Made, Known, Refused}
use Rattle.write.proofs.Outcomes.{IsReplicated, replicated_accepted}
use Rattle.api.specs.Refusals.{error_of, reason_of, rule_of, members_with_rule}
use Rattle.node.specs.Bulk.{failure_listed, failures_listed, if_failed}
use Rattle.node.specs.Edits.{refusal_of_edit}
use Rattle.repl.specs.Replies.{failure_in, failure_report}
use Rattle.repl.specs.Shapes.{before, each_in, text_at}
use Rattle.passes.proofs.Missing.{and_both, and_so, equal_bytes, or_left, or_parts, or_right, same_bytes}
use Rattle.passes.specs.Settled.{is_document_of, is_report_entry_of, is_reported, is_sent, is_this_text}

-- ---- the id and the revision that a document names

text_is : (t : List ℕ) (o : Option (List ℕ)) → is_this_text t o ≡ true → o ≡ Some t
text_is t None e = absurd cc
text_is t (Some s) e = ap Some (same_bytes s t e)

id_same : (o : Option (List ℕ)) (id named : List ℕ) → o ≡ Some id → option_and_then (λ t. id_in_bulk t) o ≡ Some named → named ≡ id
id_same o id named is e = by (is_bulk_id id) (ap (λ (x : Option (List ℕ)). option_and_then (λ t. id_in_bulk t) x) (sym is) ∙ e)
  where
    by : (b : Bool) → cond b (Some id) None ≡ Some named → named ≡ id
    by true k = cc
    by false k = absurd cc

-- the revision that `_rev` spells
rev_read : (m : Option Value) (r : Revision) → IsTrue (is_revision r) → option_and_then (λ w. text_in w) m ≡ Some (text_of r) → given_revision m ≡ Some (Some r)
rev_read None r good e = absurd cc
rev_read (Some m) r good e =
    ap (λ (o : Option (List ℕ)). option_and_then (λ t. option_map (λ s. Some s) (revision_read t)) o) e
    ∙ ap (λ (o : Option Revision). option_map (λ s. Some s) o) (read_of_text r good)

words_rev : (rev : Option (Option Revision)) (mark : Option Bool) (words : Option Revision × Bool) → option_and_then (λ s. option_map (λ deleted. (s, deleted)) mark) rev ≡ Some words → rev ≡ Some words.0
words_rev None mark words e = absurd cc
words_rev (Some s) None words e = absurd cc
words_rev (Some s) (Some d) words e = let k : (s, d) ≡ words = cc in ap (λ (x : Option Revision × Bool). Some x.0) k

words_if : (b : Bool) (o : Option (Option Revision × Bool)) (words : Option Revision × Bool) → cond b o None ≡ Some words → o ≡ Some words
words_if true o words e = e
words_if false o words e = absurd cc

record SaidBy {A : Type 0} (rev : A → Option Revision) (words : Option (Option Revision × Bool)) (sent : A) : Type 0 where
  said : Option Revision × Bool
  are : words ≡ Some said
  is : rev sent ≡ said.0

said_by : {A : Type 0} (with_words : Option Revision × Bool → Value → A) (rev : A → Option Revision) (same : (w : Option Revision × Bool) (body : Value) → rev (with_words w body) ≡ w.0)
    (words : Option (Option Revision × Bool)) (body : Option Value) (sent : A) → option_and_then (λ w. option_map (λ b. with_words w b) body) words ≡ Some sent → SaidBy rev words sent
said_by with_words rev same None body sent e = absurd cc
said_by with_words rev same (Some w) None sent e = absurd cc
said_by with_words rev same (Some w) (Some b) sent e = let k : with_words w b ≡ sent = cc in record { said = w; are = refl; is = sym (ap rev k) ∙ same w b }

-- the revision that a document which is no bad one says is the one that `_rev` spells
rev_said : {A : Type 0} (with_words : Option Revision × Bool → Value → A) (rev : A → Option Revision) (same : (w : Option Revision × Bool) (body : Value) → rev (with_words w body) ≡ w.0)
    (v : Value) (id : List ℕ) (r : Revision) (sent : A) → IsTrue (is_revision r) → text_at (codes "_rev") v ≡ Some (text_of r)
    → option_and_then (λ w. option_map (λ b. with_words w b) (body_for id v)) (words_in id v) ≡ Some sent → rev sent ≡ Some r
rev_said with_words rev same v id r sent good named e =
    let s = said_by with_words rev same (words_in id v) (body_for id v) sent e in
    let words : words_said v ≡ Some s.said = words_if (fits_id id (member_of v (codes "_id"))) (words_said v) s.said s.are in
    let is : given_revision (member_of v (codes "_rev")) ≡ Some s.said.0 = words_rev (given_revision (member_of v (codes "_rev"))) (mark_in (member_of v (codes "_deleted"))) s.said words in
    s.is ∙ sym (one_of (Some r) s.said.0 (sym (rev_read (member_of v (codes "_rev")) r good named) ∙ is))
  where
    one_of : (a b : Option Revision) → (let x : Option (Option Revision) = Some a in x) ≡ Some b → a ≡ b
    one_of a b k = cc

-- ---- the revision that it brings

rev_number : (n : ℕ) (o : Option (List ℕ)) (q : Revision) → option_and_then (λ hash. revision_of n hash) o ≡ Some q → q.number ≡ n
rev_number n None q e = absurd cc
rev_number n (Some hash) q e = by (is_revision (record { number = n; hash = hash })) e
  where
    by : (b : Bool) → cond b (Some (record { number = n; hash = hash })) None ≡ Some q → q.number ≡ n
    by true k = let made : Revision = record { number = n; hash = hash } in let same : made ≡ q = cc in sym (ap (λ (x : Revision). x.number) same)
    by false k = absurd cc

abbrev HasNumber : List Revision → Type 0
HasNumber [] = ⊤
HasNumber (q ∷ rest) = q.number ≡ length (q ∷ rest)

path_numbers : (vs : Items) (path : List Revision) → path_of_hashes vs ≡ Some path → (length path ≡ item_count vs) × HasNumber path
path_numbers no_items path e = let k : (let x : List Revision = [] in x) ≡ path = cc in subst (λ (p : List Revision). (length p ≡ 0) × HasNumber p) k (refl, tt)
path_numbers (item v vs) path e = by (option_and_then (λ hash. revision_of (suc (item_count vs)) hash) (text_in v)) refl (path_of_hashes vs) (λ (p : List Revision) (is : path_of_hashes vs ≡ Some p). path_numbers vs p is) refl e
  where
    by : (o : Option Revision) → option_and_then (λ hash. revision_of (suc (item_count vs)) hash) (text_in v) ≡ o → (rest : Option (List Revision))
        → ((p : List Revision) → path_of_hashes vs ≡ Some p → (length p ≡ item_count vs) × HasNumber p) → path_of_hashes vs ≡ rest → onto o rest ≡ Some path → (length path ≡ suc (item_count vs)) × HasNumber path
    by None is rest onward rest_is k = absurd cc
    by (Some q) is None onward rest_is k = absurd cc
    by (Some q) is (Some p) onward rest_is k =
        let same : q ∷ p ≡ path = cc in
        let long : length p ≡ item_count vs = (onward p rest_is).0 in
        subst (λ (x : List Revision). (length x ≡ suc (item_count vs)) × HasNumber x) same
        (omega (arith, long), omega (arith, long, rev_number (suc (item_count vs)) (text_in v) q is))

newest_is : (start : ℕ) (path : List Revision) (r : Revision) → HasNumber path → (start == length path) ≡ true → is_newest start path (Some r) ≡ true → head path ≡ Some r
newest_is start [] r number whole e = absurd cc
newest_is start (q ∷ rest) r number whole e =
    let k = and_both (r.number == start) (bytes_eq r.hash q.hash) e in
    let long : start ≡ length (q ∷ rest) = eqb-true start (length (q ∷ rest)) whole in
    let numbers : q.number ≡ r.number = number ∙ sym long ∙ sym (eqb-true r.number start k.0) in
    let hashes : q.hash ≡ r.hash = sym (same_bytes r.hash q.hash k.1) in
    ap Some (λ i. let x : Revision = record { number = numbers i; hash = hashes i } in x)

ids_items : (o : Option Items) (path : List Revision) → option_and_then (λ vs. path_of_hashes vs) o ≡ Some path → HasNumber path
ids_items None path e = absurd cc
ids_items (Some vs) path e = (path_numbers vs path e).1

said_path : (start : Option ℕ) (path : Option (List Revision)) (said : Ancestry) → option_and_then (λ s. option_map (λ p. let x : Ancestry = record { start = s; path = p } in x) path) start ≡ Some said → path ≡ Some said.path
said_path None path said e = absurd cc
said_path (Some s) None said e = absurd cc
said_path (Some s) (Some p) said e = let made : Ancestry = record { start = s; path = p } in let k : made ≡ said = cc in ap (λ (x : Ancestry). Some x.path) k

revisions_number : (b : Bool) (m : Value) (said : Ancestry) → revisions_if b m ≡ Some said → HasNumber said.path
revisions_number true m said e = ids_items (option_and_then (λ x. items_in x) (member_of m (codes "ids"))) said.path (said_path (start_in m) (ids_in m) said e)
revisions_number false m said e = absurd cc

given_number : (m : Option Value) (said : Ancestry) → option_map ancestry_given m ≡ Some (Some said) → HasNumber said.path
given_number None said e = absurd cc
given_number (Some m) said e = let k : ancestry_given m ≡ Some said = cc in revisions_number _ m said k

newest_said : (b : Bool) (said ancestry : Ancestry) → cond b (Some said) None ≡ Some ancestry → (b ≡ true) × (said ≡ ancestry)
newest_said true said ancestry e = (refl, cc)
newest_said false said ancestry e = absurd cc

brings_by : (given : Option (Option Ancestry)) (r : Revision) (ancestry : Ancestry) → ((said : Ancestry) → given ≡ Some (Some said) → HasNumber said.path) → ancestry_by given (Some r) ≡ Some ancestry
    → (ancestry.start == length ancestry.path) ≡ true → head ancestry.path ≡ Some r
brings_by None r ancestry number e whole = let k : ancestry_alone r ≡ ancestry = cc in ap (λ (x : Ancestry). head x.path) (sym k)
brings_by (Some None) r ancestry number e whole = absurd cc
brings_by (Some (Some said)) r ancestry number e whole =
    let k = newest_said (is_newest said.start said.path (Some r)) said ancestry e in
    let fits : (said.start == length said.path) ≡ true = ap (λ (x : Ancestry). x.start == length x.path) k.1 ∙ whole in
    ap (λ (x : Ancestry). head x.path) (sym k.1) ∙ newest_is said.start said.path r (number said refl) fits k.0

brings_of : (v : Value) (rev : Option Revision) (r : Revision) (ancestry : Ancestry) → rev ≡ Some r → ancestry_in v rev ≡ Some ancestry → (ancestry.start == length ancestry.path) ≡ true → head ancestry.path ≡ Some r
brings_of v rev r ancestry is e whole =
    brings_by (given_revisions v) r ancestry (λ said k. given_number (member_of v (codes "_revisions")) said k) (ap (ancestry_in v) (sym is) ∙ e) whole

-- ---- what a document that is accepted brings

-- it brings the revision that it names
pub record IsFit (v : Value) : Type 0 where
  id : List ℕ
  named : id_in v ≡ Some id
  brings : (r : Revision) → IsTrue (is_revision r) → text_at (codes "_rev") v ≡ Some (text_of r) → revision_brought id v ≡ Some r

abbrev IsFitOrRefused : Value → DocumentOutcome → Type 0
IsFitOrRefused v (Ok w) = IsFit v
IsFitOrRefused v (Err fault) = ⊤

abbrev AreFit : List Value → List DocumentOutcome → Type 0
AreFit [] [] = ⊤
AreFit [] (o ∷ os) = ⊥
AreFit (v ∷ vs) [] = ⊥
AreFit (v ∷ vs) (o ∷ os) = IsFitOrRefused v o × AreFit vs os

abbrev no_place : Result Placed TreeFault
no_place = Err BadPath

placed_whole : (b : Bool) (h : HistoryContent) (path : List Revision) (placed : Placed) → cond b (placement h path) no_place ≡ placement h path → placement h path ≡ Ok placed → b ≡ true
placed_whole true h path placed e f = refl
placed_whole false h path placed e f = absurd (let k : no_place ≡ Ok placed = e ∙ f in cc)

-- its history has as many revisions as it says
fit_whole : (terms : Terms) (id : List ℕ) (h : HistoryContent) (v : Value) (w : Option DocumentWrite) (k : IsReplicated terms id h v w) → (k.ancestry.start == length k.ancestry.path) ≡ true
fit_whole terms id h v (Some x) k = placed_whole (k.ancestry.start == length k.ancestry.path) h k.ancestry.path Added k.whole k.taken.0
fit_whole terms id h v None k = placed_whole (k.ancestry.start == length k.ancestry.path) h k.ancestry.path KnownPlace k.whole k.taken

fit_brings : (terms : Terms) (id : List ℕ) (h : HistoryContent) (v : Value) (w : Option DocumentWrite) (k : IsReplicated terms id h v w) (r : Revision) → IsTrue (is_revision r)
    → text_at (codes "_rev") v ≡ Some (text_of r) → revision_brought id v ≡ Some r
fit_brings terms id h v w k r good named =
    let rev : k.sent.rev ≡ Some r = rev_said sent_with (λ s. s.rev) (λ words body. refl) v id r k.sent good named k.says in
    let first : head k.ancestry.path ≡ Some r = brings_of v k.sent.rev r k.ancestry rev k.leads (fit_whole terms id h v w k) in
    rw (k.says, k.leads, first) refl

fit_result : (terms : Terms) (histories : Histories) (id : List ℕ) (v : Value) (o : DocumentOutcome) → id_in v ≡ Some id → replicated_outcome terms id (histories id) v ≡ o → IsFitOrRefused v o
fit_result terms histories id v (Err fault) named e = tt
fit_result terms histories id v (Ok w) named e =
    record { id = id; named = named; brings = fit_brings terms id (histories id) v w (replicated_accepted terms id (histories id) v w e) }

fit_one : (terms : Terms) (histories : Histories) (v : Value) (id : Option (List ℕ)) → id_in v ≡ id → IsFitOrRefused v (given BadDocument id (λ k. document_outcome terms false k (histories k) v))
fit_one terms histories v None named = tt
fit_one terms histories v (Some id) named = fit_result terms histories id v (replicated_outcome terms id (histories id) v) named refl

pub all_fit : (terms : Terms) (documents : List Value) (histories : Histories) → AreFit documents (outcomes terms false histories documents)
all_fit terms [] histories = tt
all_fit terms (v ∷ vs) histories =
    let o : DocumentOutcome = outcome_in terms false histories v in
    (fit_one terms histories v (id_in v) refl, all_fit terms vs (after histories o))

-- a document that was accepted is known by the id and the revision that it names
known_one : (h : Histories) (v : Value) (id : List ℕ) (r : Revision) → IsTrue (is_revision r) → is_document_of id r v ≡ true → IsFit v → IsKnownIn h v → is_known (h id) r ≡ true
known_one h v id r good is fit k =
    let named = and_both (is_this_text id (text_at (codes "_id") v)) (is_this_text (text_of r) (text_at (codes "_rev") v)) is in
    let id_is : text_at (codes "_id") v ≡ Some id = text_is id (text_at (codes "_id") v) named.0 in
    let rev_is : text_at (codes "_rev") v ≡ Some (text_of r) = text_is (text_of r) (text_at (codes "_rev") v) named.1 in
    let fit_id : fit.id ≡ id = id_same (member_text (codes "_id") v) id fit.id id_is fit.named in
    let known_id : k.id ≡ id = id_same (member_text (codes "_id") v) id k.id id_is k.named in
    let brought : revision_brought fit.id v ≡ Some r = fit.brings r good rev_is in
    let both : Some k.rev ≡ Some r = sym k.brought ∙ ap (λ (i : List ℕ). revision_brought i v) (known_id ∙ sym fit_id) ∙ brought in
    let same : k.rev ≡ r = cc in
    ap (λ (i : List ℕ). is_known (h i) r) (sym known_id) ∙ ap (is_known (h k.id)) (sym same) ∙ k.known

-- ---- what the reply says of one that was refused

read_failure : (rule : Option (List ℕ)) (reason error id rev : List ℕ)
    → failure_in (object (put (codes "rev") (text rev) (put (codes "id") (text id) (members_with_rule rule (put (codes "reason") (text reason) (put (codes "error") (text error) no_members))))))
    ≡ Some (failure_report error (Some id) reason (Some rev) rule)
read_failure None reason error id rev = refl
read_failure (Some rule) reason error id rev = refl

entry_of : (rule : Option (List ℕ)) (reason error id : List ℕ) (r : Revision) → is_report_entry_of id r (failure_report error (Some id) reason (Some (text_of r)) rule) ≡ true
entry_of None reason error id r = and_so (bytes_eq id id) (bytes_eq (text_of r) (text_of r)) (equal_bytes id id refl) (equal_bytes (text_of r) (text_of r) refl)
entry_of (Some rule) reason error id r = and_so (bytes_eq id id) (bytes_eq (text_of r) (text_of r)) (equal_bytes id id refl) (equal_bytes (text_of r) (text_of r) refl)

record Parts (first : Option Value) (rest : Option (List Value)) (all : List Value) : Type 0 where
  one : Value
  others : List Value
  first_is : first ≡ Some one
  rest_is : rest ≡ Some others
  are : all ≡ one ∷ others

parts_of : (first : Option Value) (rest : Option (List Value)) (all : List Value) → before first rest ≡ Some all → Parts first rest all
parts_of None rest all e = absurd cc
parts_of (Some v) None all e = absurd cc
parts_of (Some v) (Some vs) all e = record { one = v; others = vs; first_is = refl; rest_is = refl; are = cc }

abbrev IsRefusal : Outcome → Type 0
IsRefusal (Made r) = ⊥
IsRefusal Known = ⊥
IsRefusal (Refused fault) = ⊤

-- what is read of one document, and of those behind it
record Element (told : Told) (out : Outcome) (rest : List Value) (failures : List Value) : Type 0 where
  others : List Value
  read : each_in failure_in (items_of rest) ≡ Some others
  more : (id : List ℕ) (r : Revision) → is_reported id r others ≡ true → is_reported id r failures ≡ true
  own : IsRefusal out → (id : List ℕ) (r : Revision) → told.id ≡ Some id → told.rev ≡ Some (text_of r) → is_reported id r failures ≡ true

element_of : (caller : Identity) (told : Told) (out : Outcome) (rest failures : List Value) → each_in failure_in (items_of (if_failed caller told out rest)) ≡ Some failures → Element told out rest failures
element_of caller told (Made r) rest failures e = record { others = failures; read = e; more = λ id r k. k; own = λ none. absurd none }
element_of caller told Known rest failures e = record { others = failures; read = e; more = λ id r k. k; own = λ none. absurd none }
element_of caller told (Refused fault) rest failures e =
    let p = parts_of (failure_in (failure_listed caller told.id told.rev fault)) (each_in failure_in (items_of rest)) failures e in
    let refusal = refusal_of_edit caller fault in
    record {
      others = p.others;
      read = p.rest_is;
      more = λ id r k. ap (is_reported id r) p.are ∙ or_right (is_report_entry_of id r p.one) (is_reported id r p.others) k;
      own = λ refused id r id_is rev_is.
          let report = failure_report (error_of refusal) (Some id) (reason_of refusal) (Some (text_of r)) (rule_of refusal) in
          let says : failure_in (failure_listed caller told.id told.rev fault) ≡ Some report =
          (λ i. failure_in (failure_listed caller (id_is i) (rev_is i) fault)) ∙ read_failure (rule_of refusal) (reason_of refusal) (error_of refusal) id (text_of r) in
          let both : Some p.one ≡ Some report = sym p.first_is ∙ says in
          let same : p.one ≡ report = cc in
          ap (is_reported id r) p.are
          ∙ or_left (is_report_entry_of id r p.one) (is_reported id r p.others) (ap (is_report_entry_of id r) same ∙ entry_of (rule_of refusal) (reason_of refusal) (error_of refusal) id r);
    }

-- ---- all of them

first_settled : (h : Histories) (v : Value) (o : DocumentOutcome) (rest failures : List Value) (id : List ℕ) (r : Revision) → IsKnownOrRefused h v o → IsFitOrRefused v o
    → Element (result_told v o) (outcome_told o) rest failures → IsTrue (is_revision r) → is_document_of id r v ≡ true → (is_known (h id) r || is_reported id r failures) ≡ true
first_settled h v (Ok w) rest failures id r known fit element good is = or_left (is_known (h id) r) (is_reported id r failures) (known_one h v id r good is fit known)
first_settled h v (Err fault) rest failures id r known fit element good is =
    let named = and_both (is_this_text id (text_at (codes "_id") v)) (is_this_text (text_of r) (text_at (codes "_rev") v)) is in
    or_right (is_known (h id) r) (is_reported id r failures)
    (element.own tt id r (text_is id (text_at (codes "_id") v) named.0) (text_is (text_of r) (text_at (codes "_rev") v) named.1))

pub all_pushed : (caller : Identity) (h : Histories) (vs : List Value) (os : List DocumentOutcome) (failures : List Value) → AreKnownOrRefused h vs os → AreFit vs os
    → each_in failure_in (items_of (failures_listed caller (all_told vs os))) ≡ Some failures → (id : List ℕ) (r : Revision) → IsTrue (is_revision r) → is_sent id r vs ≡ true
    → (is_known (h id) r || is_reported id r failures) ≡ true
all_pushed caller h [] os failures known fit e id r good sent = absurd cc
all_pushed caller h (v ∷ vs) [] failures known fit e id r good sent = absurd known
all_pushed caller h (v ∷ vs) (o ∷ os) failures known fit e id r good sent =
    let element = element_of caller (result_told v o) (outcome_told o) (failures_listed caller (all_told vs os)) failures e in
    ⊎_elim
    (λ here. first_settled h v o (failures_listed caller (all_told vs os)) failures id r known.0 fit.0 element good here)
    (λ later. ⊎_elim
    (λ k. or_left (is_known (h id) r) (is_reported id r failures) k)
    (λ k. or_right (is_known (h id) r) (is_reported id r failures) (element.more id r k))
    (or_parts (is_known (h id) r) (is_reported id r element.others) (all_pushed caller h vs os element.others known.1 fit.1 element.read id r good later)))
    (or_parts (is_document_of id r v) (is_sent id r vs) sent)
