use Rattle.sqlstore.proofs.Lemmas.{Database, Err, Held, IsStore, IsTrue, ap, contents_in, has_all, has_any, inr, meta_tree, not, nothing, state, subst, sym, true, ∥∥₁_map, ◌∙◌, ◌≡◌}
use Rattle.tables.proofs.Laid.{holds}
use Rattle.index.proofs.NewIndexes.{new_indexed}
use Rattle.index.specs.Indexed.{IsIndexed}
use Rattle.std.specs.Prelude.{◌≢◌}
use Rattle.tables.specs.Layout.{IsFirstStore}
use Rattle.tables.specs.Presence.{version_in}
use Rattle.tables.specs.declared.meta.FileVersion.TheVariants.{First, Other}
use Rattle.store.specs.Contents.{Contents}
use Rattle.store.specs.Lawful.{AllEndAtLast, EndsAtLast}
use Rattle.store.proofs.Lawfuls.{all_none}
use Rattle.transactions.specs.Indexing.{IsCommittedStore, IsIndexedStore}
use Rattle.transactions.specs.Renewing.{IsCarriedOver}
use Rattle.sqlstore.specs.Standing.{AreKnown}
use Rattle.sqlstore.specs.Opening.{FailsToRead, IsForeign, version_of}
use Rattle.sqlstore.proofs.sql_store.SqlStore.open.Goals as goal

pub returns-in-Err-clause-not_ours : goal.returns-in-Err-clause-not_ours
returns-in-Err-clause-not_ours g c is =
    inr (λ clean store. c.find_tables.ensures.not_ours (c.in-Err.is ∙ ap Err is) clean (subst IsStore (sym (ap (λ h. (state g.S.Store h).now) c.set_step_limit.ensures)) store))

pub returns-in-Err-clause-not_first : goal.returns-in-Err-clause-not_first
returns-in-Err-clause-not_first g c is =
    inr (λ clean store. c.find_tables.ensures.not_first (c.in-Err.is ∙ ap Err is) clean (subst IsFirstStore (sym (ap (λ h. (state g.S.Store h).now) c.set_step_limit.ensures)) store))

pub invariant_of-result : goal.invariant_of-result
invariant_of-result g c =
    let end = c.find_tables.new.conn in
    let turns = c.find_tables.ensures.turns in
    let settled : IsTrue c.is_autocommit-2.result = c.is_autocommit-2.ensures.value ∙ ap not turns.idle in
    let now : Held g.row.S.Denot → Database = λ h. (state g.S.Store h).now in
    record {
      standing = record {
        idle = turns.idle;
        unlimited = turns.limit ∙ ap (λ (h : Held g.row.S.Denot). h.step_limit) c.set_step_limit.ensures;
        held = λ clean was. ∥∥₁_map was (λ store. record {
          store = subst (λ h. IsStore (now h)) (c.of-origin.ensures ∙ sym c.of-last.ensures) store.rows.store;
          indexed = subst (λ h. IsIndexed (now h).trees) (c.of-origin.ensures ∙ sym c.of-last.ensures) store.rows.indexed;
          ends = subst (λ h. ∥ AllEndAtLast (contents_in (now h).trees) ∥₁) (c.of-origin.ensures ∙ sym c.of-last.ensures) store.ends;
          now = λ up. ap now (sym c.of-last.ensures);
          committed = λ up. sym (c.is_autocommit-2.ensures.settled settled up) ∙ ap now (sym c.of-last.ensures);
        });
        known_so = λ clean was. ∣ tt ∣₁;
        earlier_so = λ clean was. subst (λ ks. ∥ AreKnown (now c.of-last.result.value).trees ks ∥₁) (sym c.new.ensures.items) ∣ tt ∣₁;
      };
    }

pub returns-clause-found : goal.returns-clause-found
returns-clause-found g c clean store =
    let now : Held g.row.S.Denot → Database = λ h. (state g.S.Store h).now in
    let began = ap now c.set_step_limit.ensures in
    let same : now c.find_tables.new.conn ≡ now c.args.conn = c.in_default.ensures.found clean (subst IsStore (sym began) store.rows.store) ∙ began in
    ((clean, ∣ subst IsCommittedStore (sym (ap now c.of-origin.ensures ∙ same)) store ∣₁), ap (λ (d : Database). contents_in d.trees) (ap now c.of-last.ensures ∙ same))

pub returns-clause-carried : goal.returns-clause-carried
returns-clause-carried g c clean first =
    let now : Held g.row.S.Denot → Database = λ h. (state g.S.Store h).now in
    let began = ap now c.set_step_limit.ensures in
    let made : IsCarriedOver (now c.args.conn) (now c.find_tables.new.conn) =
    subst (λ d. IsFirstStore d → IsCarriedOver d (now c.find_tables.new.conn)) began (c.in_default.ensures.carried clean) first in
    let ends = subst (λ (x : Contents). ∥ AllEndAtLast x ∥₁) (sym made.contents) first.ends in
    ((clean, ∣ subst IsCommittedStore (sym (ap now c.of-origin.ensures)) (record { rows = made.indexed; ends = ends }) ∣₁), ap (λ h. contents_in (now h).trees) c.of-last.ensures ∙ made.contents)

pub returns-clause-made : goal.returns-clause-made
returns-clause-made g c clean none =
    let now : Held g.row.S.Denot → Database = λ h. (state g.S.Store h).now in
    let made = c.in_default.ensures.made clean (ap (λ (h : Held g.row.S.Denot). h.schema) c.set_step_limit.ensures ∙ none) in
    let rows : IsIndexedStore (now c.find_tables.new.conn) = record { store = holds (now c.find_tables.new.conn) made; indexed = new_indexed (now c.find_tables.new.conn) made } in
    let ends = subst (λ (x : Contents). ∥ AllEndAtLast x ∥₁) (sym (nothing (now c.find_tables.new.conn) made)) ∣ all_none EndsAtLast ∣₁ in
    ((clean, ∣ subst IsCommittedStore (sym (ap now c.of-origin.ensures)) (record { rows = rows; ends = ends }) ∣₁), ap (λ h. contents_in (now h).trees) c.of-last.ensures ∙ nothing (now c.find_tables.new.conn) made)

pub returns-clause-all : goal.returns-clause-all
returns-clause-all g c = subst (λ (h : Held g.row.S.Denot). has_any h.schema ≡ true → has_all h.schema ≡ true) c.set_step_limit.ensures c.in_default.ensures.all

pub returns-clause-version : goal.returns-clause-version
returns-clause-version g c clean ours =
    subst (λ (h : Held g.row.S.Denot). version_in ((state g.S.Store h).now.trees meta_tree) ≢ Other) c.set_step_limit.ensures
    (c.in_default.ensures.version clean (ap (λ (h : Held g.row.S.Denot). h.schema) c.set_step_limit.ensures ∙ ours))

pub returns-in-Err-clause-foreign : goal.returns-in-Err-clause-foreign
returns-in-Err-clause-foreign g c is =
    inr (subst (λ (h : Held g.row.S.Denot). IsForeign g.S.Store h c.find_tables.new.conn) c.set_step_limit.ensures (c.find_tables.ensures.foreign (c.in-Err.is ∙ ap Err is)))

pub returns-in-Err-clause-fresh : goal.returns-in-Err-clause-fresh
returns-in-Err-clause-fresh g c idle none is =
    c.find_tables.ensures.fresh (ap (λ (h : Held g.row.S.Denot). has_any h.schema) c.set_step_limit.ensures ∙ none) (c.in-Err.is ∙ ap Err is)

pub returns-in-Err-clause-failed : goal.returns-in-Err-clause-failed
returns-in-Err-clause-failed g c clean ours other told =
    subst (λ (h : Held g.row.S.Denot). FailsToRead g.S.Store h c.find_tables.new.conn c.in-Err.fault) c.set_step_limit.ensures
    (c.in-Err.ensures.failed clean (ap (λ (h : Held g.row.S.Denot). h.schema) c.set_step_limit.ensures ∙ ours)
    (subst (λ (h : Held g.row.S.Denot). version_of (state g.S.Store h).now ≢ First) (sym c.set_step_limit.ensures) other) told)
