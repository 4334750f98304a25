-- What is held of the revision that an edit follows is all that update rules look at of a history.
use Rattle.std.proofs.Common.{◌≡◌, ◌≢◌, false, cond, List, [], ◌∷◌, ℕ, Option, Some, None, Result, Ok, Err, IfErr, IfOk, refl, sym, ap, subst, ◌∙◌}
use Rattle.std.specs.Prelude.{is_some, option_and_then, option_map}
use Rattle.std.specs.FinMap as finite
use Rattle.std.specs.Ordering.{eq_by_cmp}
use Rattle.couch_json.specs.Parts.{is_there_and}
use Rattle.tree.proofs.Contents.{get-with_new, or}
use Rattle.tree.proofs.Revisions.{tied}
use Rattle.tree.specs.History.{HistoryContent, ancestors_of_parent, held_of, is_known, winner, with_new}
use Rattle.tree.specs.Revision.{Revision, revision_cmp}
use Rattle.tree.specs.declared.entry.Entry.{Entry}
use Rattle.tree.specs.declared.entry.Held.{Held}
use Rattle.policy.specs.Argument.{OldDocument, argument}
use Rattle.policy.specs.UpdateRules.{update_verdict}
use Rattle.store.specs.Contents.{Contents, IfThere}
use Rattle.store.specs.Database.{Database, Document, history_at, history_in}
use Rattle.store.specs.Lawful.{AreLawful, IsLawfulDatabase}
use Rattle.store.proofs.Lawfuls.{has_winner}
use Rattle.std.proofs.Math.Logic.{∥∥₁_elim}
use Rattle.std.proofs.lemmas.Bool.{false≢true}
use Rattle.tree.specs.HistoryCode.{content_code}
use package.base.Stored.{Coded-set}
use Rattle.tree.specs.DocumentId.{is_design_id}
use Rattle.store.specs.Database.{DocumentWrite}
use Rattle.store.specs.Writing.{Addition, written_in}
use Rattle.write.proofs.Plannings.{own_refusal}
use Rattle.write.specs.Admission.{given, held_document, next_edit, parent_for_edit, proposed_document, revision_after, rule_refusal, unless_denied, write_at}
use Rattle.write.specs.inner.Following.{edit_following}
use Rattle.write.specs.Refusing.{IsOwn}
use Rattle.write.specs.Terms.{Terms}
use Rattle.write.specs.declared.document.ParsedDocument.{ParsedDocument}
use Rattle.write.specs.declared.fault.WriteFault.{WriteFault}
use Rattle.write.specs.declared.fault.WriteFault.TheVariants.{Conflict, Generation, Memory}

module _ (terms : Terms) (id : List ℕ) where
  -- where nothing else is held of it
  pub same_rule : (h k : HistoryContent) (rev : Option Revision) → held_document id h rev ≡ held_document id k rev → (sent : ParsedDocument) → rule_refusal terms id h sent rev ≡ rule_refusal terms id k sent rev
  same_rule h k rev is sent = ap (λ (o : Option OldDocument). cond (is_design_id id) None (update_verdict terms.rules (argument (proposed_document id sent) o terms.caller terms.name terms.security))) is

  held_by : (h : HistoryContent) (r : Revision) (d : Option Held) → held_of h r ≡ d → held_document id h (Some r) ≡ option_map (λ (x : Held). record { id = id; rev = r; deleted = x.deleted; body = x.body }) d
  held_by h r d is = ap (option_map (λ (x : Held). record { id = id; rev = r; deleted = x.deleted; body = x.body })) is

  -- a revision alone, with what is held of it
  pub followed_rule : (h : HistoryContent) (r : Revision) (known : Option Entry) (d : Option Held) → finite.get h r ≡ known → d ≡ option_and_then (λ (e : Entry). e.held) known
      → (sent : ParsedDocument) → rule_refusal terms id h sent (Some r) ≡ rule_refusal terms id (with_new finite.empty r (record { parent = None; held = d })) sent (Some r)
  followed_rule h r known d is held = same_rule h (with_new finite.empty r (record { parent = None; held = d })) (Some r) (held_by h r d (ap (option_and_then (λ (e : Entry). e.held)) is ∙ sym held) ∙ sym (held_by (with_new finite.empty r (record { parent = None; held = d })) r d own))
    where
      own : held_of (with_new finite.empty r (record { parent = None; held = d })) r ≡ d
      own =
          ap (option_and_then (λ (e : Entry). e.held)) (get-with_new finite.empty r (record { parent = None; held = d }) r)
          ∙ ap (λ (o : Option Entry). option_and_then (λ (e : Entry). e.held) (or o (cond (eq_by_cmp revision_cmp r r) (Some (record { parent = None; held = d })) None))) (finite.get-empty revision_cmp r)
          ∙ ap (λ b. option_and_then (λ (e : Entry). e.held) (cond b (Some (record { parent = None; held = d })) None)) (tied r r refl)

-- a fact about each database holds of the one that is there
pub there_is : {fact : Database → Type 0} (there : Option Database) → ((d : Database) → there ≡ Some d → fact d) → IfThere there fact
there_is None f = tt
there_is (Some d) f = f d refl

-- the write of a revision that is made
abbrev appended : List ℕ → HistoryContent → ParsedDocument → Option Revision → Option Revision → Result DocumentWrite WriteFault
appended id h sent parent next = given Generation next (λ r. Ok (write_at id (r ∷ ancestors_of_parent h parent) sent))

-- the edit that was made of one new revision, which no rule refuses
pub edit_made : (terms : Terms) (id : List ℕ) (h : HistoryContent) (sent : ParsedDocument) (parent next : Option Revision) (rev : Revision) (a : Addition) → next ≡ revision_after sent parent → is_there_and (is_known h) next ≡ false
    → rule_refusal terms id h sent parent ≡ None → next ≡ Some rev → a ≡ record { id = id; path = rev ∷ []; parent = parent; deleted = sent.deleted; body = sent.body } → next_edit terms id h sent parent ≡ Ok (written_in h a)
edit_made terms id h sent parent next rev a is new unruled some made =
    ap (λ n. cond (is_there_and (is_known h) n) (Err Conflict) (unless_denied (rule_refusal terms id h sent parent) (appended id h sent parent n))) (sym is)
    ∙ ap (λ b. cond b (Err Conflict) (unless_denied (rule_refusal terms id h sent parent) (appended id h sent parent next))) new
    ∙ ap (λ o. unless_denied o (appended id h sent parent next)) unruled
    ∙ ap (appended id h sent parent) some
    ∙ ap (λ x. Ok (written_in h x)) (sym made)

-- why the edit is refused is why it is refused in each database
pub refused_there : {A : Type 0} (r : Result A WriteFault) (fault : WriteFault) (there : Option Database) (outcome : Database → Result DocumentWrite WriteFault) → r ≡ Err fault → (fault ≢ Memory → (d : Database) → outcome d ≡ Err fault)
    → IfErr r (λ e. IsOwn e → IfThere there (λ d. outcome d ≡ Err e))
refused_there {A} r fault there outcome is why =
    subst (λ (x : Result A WriteFault). IfErr x (λ e. IsOwn e → IfThere there (λ d. outcome d ≡ Err e))) (sym is)
    (λ own. own_refusal fault (IfThere there (λ d. outcome d ≡ Err fault)) (λ other. there_is there (λ d known. why other d)) own)

-- a document of a lawful database that has no winner was never written
pub never_written : (contents : Contents) (name : List ℕ) (d : Database) (id : List ℕ) → ∥ AreLawful contents ∥₁ → finite.get contents name ≡ Some d → winner (history_at d id) ≡ None → history_at d id ≡ finite.empty
never_written contents name d id lawful there none = ∥∥₁_elim lawful (Coded-set content_code _ _) (λ are. by (are name d there) (finite.get d.documents id) refl none)
  where
    by : IsLawfulDatabase d → (o : Option Document) → finite.get d.documents id ≡ o → winner (history_in o) ≡ None → history_in o ≡ finite.empty
    by l None is none = refl
    by l (Some x) is none = absurd (false≢true (sym (ap is_some none) ∙ has_winner x.history (l.documents id x is)))

-- what becomes of an edit of a new document becomes of it in the database, where it was never written
pub new_there : (contents : Contents) (name : List ℕ) (terms : Terms) (id : List ℕ) (sent : ParsedDocument) (outcome : HistoryContent → Result DocumentWrite WriteFault) → ∥ AreLawful contents ∥₁
    → ((d : Database) → finite.get contents name ≡ Some d → (parent_for_edit (history_at d id) sent.rev ≡ Some None) × (winner (history_at d id) ≡ None))
    → next_edit terms id finite.empty sent None ≡ outcome finite.empty → IfThere (finite.get contents name) (λ d. edit_following terms id (history_at d id) sent ≡ outcome (history_at d id))
new_there contents name terms id sent outcome lawful told it = there_is (finite.get contents name) (λ d is.
    ap (λ (o : Option (Option Revision)). given Conflict o (next_edit terms id (history_at d id) sent)) (told d is).0
    ∙ subst (λ (h : HistoryContent). next_edit terms id h sent None ≡ outcome h) (sym (never_written contents name d id lawful is (told d is).1)) it)

pub ok_then : {A F : Type 0} {P Q : A → Type 0} (r : Result A F) → ((x : A) → P x → Q x) → IfOk r P → IfOk r Q
ok_then (Ok x) f p = f x p
ok_then (Err e) f p = tt

pub err_then : {A F : Type 0} {P Q : F → Type 0} (r : Result A F) → ((e : F) → P e → Q e) → IfErr r P → IfErr r Q
err_then (Ok x) f p = tt
err_then (Err e) f p = f e p
