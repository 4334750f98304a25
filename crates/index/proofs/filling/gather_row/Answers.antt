use Rattle.index.proofs.Common.{Bool, Database, Err, IndexFault, Ok, Some, ap, declared, entries_tree, false, map, refl, rules, sees_in, state, subst, sym, true, ◌++◌, ◌∙◌, ◌≡◌, ℕ, List}
use Rattle.couch_json.specs.View.{view}
use Rattle.index.proofs.Beside.{beside_as, beside_gathered}
use Rattle.index.proofs.Filled.{unseen_missing, unseen_of}
use Rattle.index.proofs.Going.{only_itself}
use Rattle.index.proofs.Refusals.{listed_one, refused_as}
use Rattle.index.proofs.ShownDeclarations.{refused_of}
use Rattle.index.specs.inner.Gathering.{AreEntriesBeside, HasEntriesBeside, IsToGather, entries_of, entry_of}
use Rattle.index.specs.inner.Seen.{IsSoundLive}
use Rattle.index.specs.Steps.{AreFit}
use Rattle.tables.specs.Listings.{IsListedDocument}
use Rattle.index.proofs.StepLemmas.{steps_none, steps_read, steps_then}
use Rattle.index.specs.Filling.{HaveKeyOf, numbers_of, without_ids}
use Rattle.std.specs.Prelude.{◌||◌, ◌∷◌, []}
use Rattle.tables.specs.Rows.{id_of}
use Rattle.tree.specs.DocumentId.{is_design_id}
use Rattle.index.proofs.filling.gather_row.Goals as goal

pub returns-then-is_unseen-clause-gathers : goal.returns-then-is_unseen-clause-gathers
returns-then-is_unseen-clause-gathers g c d due =
    let a = (state g.S.Store c.args.tx.now.conn.now).now in
    let db = c.args.db.now in
    let xs = map declared c.args.declarations.now in
    let before = map entry_of c.args.gathered.now.entries.items in
    let listed = c.in_ok-listed.listed in
    let out : (listed.deleted || is_design_id listed.id) ≡ true = search rules in
    steps_none g.S.Store (IsToGather db xs c.args.row.now d before due) (HasEntriesBeside due before) c.args.tx.now.conn.now (Ok tt)
    (λ fit.
    let none = unseen_of a.trees fit.store.laid d fit.row listed (c.in_ok-listed.ensures.ok d fit.shown_is) out db fit.own in
    let says = subst (λ o. HaveKeyOf xs (id_of d) o due) none fit.says in
    record {
      entries = beside_as (without_ids due (numbers_of xs) (id_of d ∷ [])) due before (a.trees entries_tree) (unseen_missing xs (id_of d) due says) fit.entries;
      only = only_itself entries_tree a;
    }) tt

or_parts : (x y : Bool) → (x || y) ≡ false → (x ≡ false) × (y ≡ false)
or_parts true y out = absurd (cc)
or_parts false y out = (refl, out)

pub returns-clause-gathers : goal.returns-clause-gathers
returns-clause-gathers g c d due =
    let first = c.args.tx.now.conn.now in
    let second = c.find_live.new.tx.conn.now in
    let a = (state g.S.Store first).now in
    let b = (state g.S.Store second).now in
    let db = c.args.db.now in
    let xs = map declared c.args.declarations.now in
    let listed = c.in_ok-listed.listed in
    let live : (listed.deleted || is_design_id listed.id) ≡ false = search rules in
    let parts = or_parts listed.deleted (is_design_id listed.id) live in
    let id : List ℕ = c.as_bytes-id.result.now in
    let document = Some (view c.in_ok-seen.seen) in
    let read : id ≡ listed.id = c.as_bytes-id.ensures.value ∙ c.as_str.ensures.text in
    let before = map entry_of c.args.gathered.now.entries.items in
    let after = map entry_of c.gather_keys.new.gathered.entries.items in
    let more : after ≡ before ++ entries_of xs id document = c.in_ok-gather_keys.ensures in
    steps_then g.S.Store {E = IndexFault} {D = IndexFault} (IsToGather db xs c.args.row.now d before due) (λ p. AreEntriesBeside due after (p.trees entries_tree)) (λ p q. q ≡ p) (HasEntriesBeside due after) (HasEntriesBeside due after)
    first second second c.in_ok-seen.seen (Ok tt)
    (steps_read g.S.Store (IsToGather db xs c.args.row.now d before due) first second (Ok c.in_ok-seen.seen) c.in_ok-seen.ensures.stands c.in_ok-seen.ensures.looks c.in_ok-seen.ensures.asks (λ fit. fit.store.schema_is))
    (steps_none g.S.Store (λ p. AreEntriesBeside due after (p.trees entries_tree)) (HasEntriesBeside due after) second (Ok tt) (λ there. record { entries = there; only = only_itself entries_tree b }) tt)
    (λ was fit same.
    let as_listed = c.in_ok-listed.ensures.ok d fit.shown_is in
    let own : id ≡ id_of d = read ∙ as_listed.id in
    let seen : document ≡ sees_in a.trees db (id_of d) = c.in_ok-seen.ensures.finds was fit.store d fit.row fit.own as_listed (sym as_listed.deleted ∙ parts.0) (sym (ap is_design_id as_listed.id) ∙ parts.1) in
    subst (λ (p : Database). AreEntriesBeside due after (p.trees entries_tree)) (sym same)
    (subst (λ l. AreEntriesBeside due l (a.trees entries_tree)) (sym more)
    (subst (λ i. AreEntriesBeside due (before ++ entries_of xs i document) (a.trees entries_tree)) (sym own)
    (subst (λ o. AreEntriesBeside due (before ++ entries_of xs (id_of d) o) (a.trees entries_tree)) (sym seen)
    (beside_gathered due (id_of d) (sees_in a.trees db (id_of d)) xs before (a.trees entries_tree) fit.numbers fit.says fit.entries)))))
    (λ was fit same got. subst (λ z. HasEntriesBeside due after z b) same got)

pub returns-in_err-listed-clause-err : goal.returns-in_err-listed-clause-err
returns-in_err-listed-clause-err g c d due =
    let a = c.args.tx.now.conn.now in
    let db = c.args.db.now in
    let xs = map declared c.args.declarations.now in
    let before = map entry_of c.args.gathered.now.entries.items in
    let fault = c.in_err-listed.field-0.0 in
    let is : c.from_residual.result ≡ Err fault = search rules in
    refused_as (AreFit g.S.Store (IsToGather db xs c.args.row.now d before due) a a) c.from_residual.result fault is
    (refused_of (IsListedDocument c.args.row.now) (AreFit g.S.Store (IsToGather db xs c.args.row.now d before due) a a) fault
    (λ it. subst IsListedDocument (sym it.1.shown_is) (listed_one (state g.S.Store a).now.trees it.1.store.laid d it.1.row)) c.in_err-listed.ensures.err)

pub returns-in_err-seen-clause-err : goal.returns-in_err-seen-clause-err
returns-in_err-seen-clause-err g c d due =
    let a = c.args.tx.now.conn.now in
    let b = c.find_live.new.tx.conn.now in
    let db = c.args.db.now in
    let xs = map declared c.args.declarations.now in
    let before = map entry_of c.args.gathered.now.entries.items in
    let fault = c.in_err-seen.field-0.0 in
    let listed = c.in_ok-listed.listed in
    let live : (listed.deleted || is_design_id listed.id) ≡ false = search rules in
    let parts = or_parts listed.deleted (is_design_id listed.id) live in
    let is : c.from_residual-in_err-seen.result ≡ Err fault = search rules in
    refused_as (AreFit g.S.Store (IsToGather db xs c.args.row.now d before due) a b) c.from_residual-in_err-seen.result fault is
    (refused_of (IsSoundLive g.S.Store db listed d a b) (AreFit g.S.Store (IsToGather db xs c.args.row.now d before due) a b) fault
    (λ it.
    let as_listed = c.in_ok-listed.ensures.ok d it.1.shown_is in
    (it.0, λ up. (it.1.store, it.1.row, it.1.own, as_listed, sym as_listed.deleted ∙ parts.0))) (c.in_err-seen.ensures.err d))
