-- A reply of a node that a pass takes in says the truth.
use Rattle.std.proofs.Common.{◌≡◌, ◌≤◌, ◌==◌, inl, inr, ℕ, List, Bool, true, false, cond, Option, Some, None, option_and_then, Result, Ok, Err, eqb-true, refl, sym, ap, ◌∙◌, arith}
use Rattle.std.specs.FinMap.{get, get-insert, insert}
use Rattle.std.proofs.lemmas.Cmp.{nat_list_cmp_total}
use Rattle.std.proofs.lemmas.Map.Text.{is_eq-slice_cmp}
use Rattle.std.proofs.lemmas.Slice.Eq.{bytes_eq-Decides}
use Rattle.auth.specs.Callers as auth
use Rattle.couch_http.specs.Message.{Message}
use Rattle.couch_http.specs.Reply.{Reply}
use Rattle.couch_json.specs.Lawful.{IsLawful}
use Rattle.couch_json.specs.Reading.{reading}
use Rattle.couch_json.specs.Value.{Value}
use Rattle.couch_json.specs.declared.fault.JsonFault.{JsonFault}
use Rattle.couch_json.proofs.ReadingBack.{what_was_read}
use Rattle.store.specs.Contents.{Contents}
use Rattle.store.specs.Database.{Database, history_at, with_all}
use Rattle.read.specs.Changes.{changes_in}
use Rattle.node.specs.Answer.{Outcome, answer, with_change, with_effect_at}
use Rattle.node.specs.Bulk.{bulk_reply}
use Rattle.node.specs.Work.{appended}
use Rattle.write.specs.Bulk.{all_told, outcomes, writes_in}
use Rattle.write.specs.Terms.{terms_in}
use Rattle.write.proofs.Settlings.{all_settled_in}
use Rattle.passes.proofs.Pushes.{all_fit, all_pushed}
use Rattle.passes.proofs.Pushing.{pushed_by}
use Rattle.read.specs.Differences.{revision_differences}
use Rattle.read.specs.OpenRevisions.{open_revisions}
use Rattle.repl.specs.Calls.{Revisions, compare_revisions, push_documents, list_changes, request_of}
use Rattle.repl.specs.Calls as call
use Rattle.repl.specs.Shapes.{list_in}
use Rattle.repl.specs.declared.side.Side.TheVariants.{Target, Source}
use Rattle.passes.proofs.Comparing.{compared_by}
use Rattle.passes.proofs.Opening.{opened_by}
use Rattle.passes.proofs.Missing.{whole_comparison}
use Rattle.passes.proofs.Elements.{whole_opening}
use Rattle.passes.specs.Told.{ComparisonsAreTrue, ListingsAreTrue, OpeningsAreTrue, PushesAreTrue}
use Rattle.node.specs.Runs.{Steps}
use Rattle.node.specs.Step.{reply_to}
use Rattle.repl.specs.Replies as replies
use Rattle.repl.specs.Replies.{said_at, said_or_reply, value_in}
use Rattle.couch_json.specs.Reading.{value_read}
use Rattle.repl.specs.declared.why.Why.{Why}
use Rattle.repl.specs.declared.why.Why.TheVariants.{Status}
use Rattle.passes.proofs.Listing.{changes_listed_by}
use Rattle.passes.proofs.Listings.{whole_listing}
use Rattle.passes.specs.Spelled.{changes_after}

-- a reply that is taken in by a shape has the status and a value of that shape
pub record Said {A : Type 0} (expected : ℕ) (shape : Value → Option A) (status : ℕ) (body : List ℕ) (a : A) : Type 0 where
  pub value : Value
  pub right : status ≡ expected
  pub was : reading body ≡ Ok value
  pub shaped : shape value ≡ Some a

abbrev pub fine : {A : Type 0} → A → Result A Why
fine a = Ok a

shape_of : {A : Type 0} (o : Option A) (a : A) → said_or_reply o ≡ fine a → o ≡ Some a
shape_of None a e = absurd cc
shape_of (Some b) a e = cc

pub said : {A : Type 0} (expected : ℕ) (shape : Value → Option A) (status : ℕ) (body : List ℕ) (a : A) → said_at expected shape status body ≡ fine a → Said expected shape status body a
said {A} expected shape status body a e = by (status == expected) refl e
  where
    value : (r : Result Value JsonFault) → reading body ≡ r → status ≡ expected → option_and_then (λ v. shape v) (value_read r) ≡ Some a → Said expected shape status body a
    value (Ok v) is right shaped = record { value = v; right = right; was = is; shaped = shaped }
    value (Err fault) is right shaped = absurd cc

    by : (b : Bool) → (status == expected) ≡ b → cond b (said_or_reply (option_and_then (λ v. shape v) (value_in body))) (Err (Status status)) ≡ fine a → Said expected shape status body a
    by true is k = value (reading body) refl (eqb-true status expected is) (shape_of (option_and_then (λ v. shape v) (value_in body)) a k)
    by false is k = absurd cc

-- a step whose reply has this status is the answer
pub record Answered (c : auth.Configuration) (a : Contents) (m : Message) (r : Reply) (after : Contents) : Type 0 where
  pub left : after ≡ with_change (answer c a m).change a
  pub reply : r ≡ reply_to (answer c a m) m.last
  pub lawful : IsLawful (answer c a m).value

pub was_answered : (c : auth.Configuration) (a : Contents) (m : Message) (r : Reply) (after : Contents) → r.status ≤ 499 → Steps c a m r after → Answered c a m r after
was_answered c a m r after low (inl done) = record { left = done.1; reply = done.0; lawful = done.2 }
was_answered c a m r after low (inr (inl none)) = absurd (omega (arith, low, ap (λ (x : Reply). x.status) none.0))
was_answered c a m r after low (inr (inr failed)) = absurd (omega (arith, low, ap (λ (x : Reply). x.status) failed.0))

pub true_listing : ListingsAreTrue
true_listing c a k since most r after listed small few bound step e =
    let m = request_of k Source (list_changes since most) in
    let s = said 200 replies.changes_in_reply r.status r.body listed e in
    let told = was_answered c a m r after (omega (arith, s.right)) step in
    let ok : (answer c a m).status ≡ 200 = sym (ap (λ (x : Reply). x.status) told.reply) ∙ s.right in
    let h = changes_listed_by c a k Source since most small few bound ok in
    let value : (answer c a m).value ≡ changes_in (changes_after since most) h.db = ap (λ (o : Outcome). o.value) h.is in
    let read : (answer c a m).value ≡ s.value = what_was_read (answer c a m).value s.value told.lawful (ap (λ (x : Reply). reading x.body) (sym told.reply) ∙ s.was) in
    record {
      db = h.db;
      there = h.there;
      same = told.left ∙ ap (λ (o : Outcome). with_change o.change a) h.is;
      says = λ has. whole_listing h.db since most listed has (ap replies.changes_in_reply (sym value ∙ read) ∙ s.shaped);
    }

pub true_comparison : ComparisonsAreTrue
true_comparison c a k leaves missing r after small distinct lawful step e =
    let m = request_of k Target (compare_revisions leaves) in
    let s = said 200 (λ v. replies.differences_in_reply leaves v) r.status r.body missing e in
    let told = was_answered c a m r after (omega (arith, s.right)) step in
    let ok : (answer c a m).status ≡ 200 = sym (ap (λ (x : Reply). x.status) told.reply) ∙ s.right in
    let h = compared_by c a k Target leaves small lawful ok in
    let value : (answer c a m).value ≡ revision_differences h.asked h.db = ap (λ (o : Outcome). o.value) h.is in
    let read : (answer c a m).value ≡ s.value = what_was_read (answer c a m).value s.value told.lawful (ap (λ (x : Reply). reading x.body) (sym told.reply) ∙ s.was) in
    record {
      db = h.db;
      there = h.there;
      same = told.left ∙ ap (λ (o : Outcome). with_change o.change a) h.is;
      says = whole_comparison h.db leaves missing h.asked distinct lawful h.says (ap (λ (v : Value). replies.differences_in_reply leaves v) (sym value ∙ read) ∙ s.shaped);
    }

pub true_opening : OpeningsAreTrue
true_opening c a k row opened r after small id_small list_small lawful step e =
    let m = request_of k Source (call.open_revisions row) in
    let s = said 200 (λ v. list_in replies.opened_in v) r.status r.body opened e in
    let told = was_answered c a m r after (omega (arith, s.right)) step in
    let ok : (answer c a m).status ≡ 200 = sym (ap (λ (x : Reply). x.status) told.reply) ∙ s.right in
    let h = opened_by c a k Source row small id_small list_small lawful ok in
    let value : (answer c a m).value ≡ open_revisions row.id (history_at h.db row.id) (Some h.asked) true = ap (λ (o : Outcome). o.value) h.is in
    let read : (answer c a m).value ≡ s.value = what_was_read (answer c a m).value s.value told.lawful (ap (λ (x : Reply). reading x.body) (sym told.reply) ∙ s.was) in
    record {
      db = h.db;
      there = h.there;
      same = told.left ∙ ap (λ (o : Outcome). with_change o.change a) h.is;
      says = whole_opening h.db row h.asked opened h.says (ap (λ (v : Value). list_in replies.opened_in v) (sym value ∙ read) ∙ s.shaped);
    }

got_back : (a : Contents) (name : List ℕ) (db : Database) → get (insert a name db) name ≡ Some db
got_back a name db =
    get-insert nat_list_cmp_total a name db name ∙ ap (λ (b : Bool). cond b (Some db) (get a name)) (is_eq-slice_cmp name name ∙ (bytes_eq-Decides name name).1 refl)

pub true_push : PushesAreTrue
true_push c a k documents failures r after small lawful step e =
    let m = request_of k Target (push_documents documents) in
    let s = said 201 (λ v. list_in replies.failure_in v) r.status r.body failures e in
    let told = was_answered c a m r after (omega (arith, s.right)) step in
    let ok : (answer c a m).status ≡ 201 = sym (ap (λ (x : Reply). x.status) told.reply) ∙ s.right in
    let h = pushed_by c a k Target documents small lawful ok in
    let os = outcomes (terms_in h.caller k.target_db h.db) false (history_at h.db) documents in
    let left = with_all h.db (writes_in os) in
    let value : (answer c a m).value ≡ bulk_reply h.caller false (all_told documents os) = ap (λ (o : Outcome). o.value) h.is in
    let read : (answer c a m).value ≡ s.value = what_was_read (answer c a m).value s.value told.lawful (ap (λ (x : Reply). reading x.body) (sym told.reply) ∙ s.was) in
    let becomes : after ≡ with_effect_at a k.target_db (appended (writes_in os)) (get a k.target_db) = told.left ∙ ap (λ (o : Outcome). with_change o.change a) h.is in
    let now : after ≡ insert a k.target_db left = becomes ∙ ap (λ (o : Option Database). with_effect_at a k.target_db (appended (writes_in os)) o) h.there in
    record {
      db = left;
      there = ap (λ (x : Contents). get x k.target_db) now ∙ got_back a k.target_db left;
      says = all_pushed h.caller (history_at left) documents os failures (all_settled_in (terms_in h.caller k.target_db h.db) h.db documents)
          (all_fit (terms_in h.caller k.target_db h.db) documents (history_at h.db)) (ap (λ (v : Value). list_in replies.failure_in v) (sym value ∙ read) ∙ s.shaped);
    }
