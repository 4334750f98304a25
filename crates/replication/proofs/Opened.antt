-- The documents of opened revisions are shown by the source.
use Rattle.std.proofs.Common.{◌≡◌, ℕ, List, [], ◌∷◌, map, true, Option, Some, None, option_map, refl, sym, ap, ◌∙◌, subst, arith}
use Rattle.std.specs.List.{AllByRecursion}
use Rattle.couch_http.specs.Reply.{Reply}
use Rattle.couch_json.specs.Reading.{reading}
use Rattle.couch_json.specs.Value.{Value}
use Rattle.couch_json.proofs.ReadingBack.{what_was_read}
use Rattle.tree.specs.History.{held_of}
use Rattle.tree.specs.Revision.{Revision}
use Rattle.tree.specs.declared.entry.Held.{Held}
use Rattle.store.specs.Database.{Database, history_at}
use Rattle.read.specs.OpenRevisions.{open_revisions}
use Rattle.node.specs.Answer.{Outcome, answer, with_change}
use Rattle.repl.specs.Calls as call
use Rattle.repl.specs.Calls.{Revisions, request_of}
use Rattle.repl.specs.Replies.{Opened, documents_of_opened, opened_in}
use Rattle.repl.specs.Shapes.{list_in}
use Rattle.repl.specs.declared.side.Side.TheVariants.{Source}
use Rattle.passes.proofs.Elements.{all_read, read_by, shown}
use Rattle.passes.proofs.Opening.{opened_by}
use Rattle.passes.proofs.Told.{said, was_answered}
use Rattle.replication.specs.Appended.{IsShownBy}
use Rattle.replication.specs.Written.{OpenedAreShown}

more_shown : (db : Database) (id : List ℕ) (r : Revision) (o : Option Held) (rest : List Opened) → held_of (history_at db id) r ≡ o → AllByRecursion (IsShownBy db id) (documents_of_opened rest)
    → AllByRecursion (IsShownBy db id) (documents_of_opened (read_by id (history_at db id) r o ∷ rest))
more_shown db id r None rest is h = h
more_shown db id r (Some held) rest is h = (record { rev = r; is = ap (λ (o : Option Held). option_map (λ d. shown id (history_at db id) r d) o) is }, h)

all_shown : (db : Database) (id : List ℕ) (rs : List Revision) → AllByRecursion (IsShownBy db id) (documents_of_opened (map (λ r. read_by id (history_at db id) r (held_of (history_at db id) r)) rs))
all_shown db id [] = tt
all_shown db id (r ∷ rs) = more_shown db id r (held_of (history_at db id) r) _ refl (all_shown db id rs)

pub opened_shown : OpenedAreShown
opened_shown c a k row opened r after small id_small list_small lawful step e =
    let m = request_of k Source (call.open_revisions row) in
    let s = said 200 (λ v. list_in opened_in v) r.status r.body opened e in
    let told = was_answered c a m r after (omega (arith, s.right)) step in
    let ok : (answer c a m).status ≡ 200 = sym (ap (λ (x : Reply). x.status) told.reply) ∙ s.right in
    let h = opened_by c a k Source row small id_small list_small lawful ok in
    let value : (answer c a m).value ≡ open_revisions row.id (history_at h.db row.id) (Some h.asked) true = ap (λ (o : Outcome). o.value) h.is in
    let read : (answer c a m).value ≡ s.value = what_was_read (answer c a m).value s.value told.lawful (ap (λ (x : Reply). reading x.body) (sym told.reply) ∙ s.was) in
    let content = history_at h.db row.id in
    let list : list_in opened_in (open_revisions row.id content (Some h.asked) true) ≡ Some opened = ap (λ (v : Value). list_in opened_in v) (sym value ∙ read) ∙ s.shaped in
    let is : map (λ x. read_by row.id content x (held_of content x)) h.asked ≡ opened =
    (let k : Some (map (λ x. read_by row.id content x (held_of content x)) h.asked) ≡ Some opened = sym (all_read row.id content h.asked) ∙ list in cc) in
    record {
      db = h.db;
      there = h.there;
      same = told.left ∙ ap (λ (o : Outcome). with_change o.change a) h.is;
      says = subst (λ (os : List Opened). AllByRecursion (IsShownBy h.db row.id) (documents_of_opened os)) is (all_shown h.db row.id h.asked);
    }
