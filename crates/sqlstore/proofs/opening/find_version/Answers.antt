use Rattle.sqlstore.proofs.Common.{Database, HasCleanDisk, Held, OnOk, inr, state, subst, sym, ◌∙◌, ◌≡◌}
use Rattle.tables.specs.Layout.{IsFirstStore}
use Rattle.transactions.specs.Renewing.{IsCarriedOver}
use Rattle.sqlstore.proofs.opening.find_version.Goals as goal

pub returns-in-Ok-First-clause-carried : goal.returns-in-Ok-First-clause-carried
returns-in-Ok-First-clause-carried g c clean first =
    let now : Held g.row.S.Denot → Database = λ h. (state g.S.Store h).now in
    let before : HasCleanDisk (state g.S.Store c.read_version.new.conn) = c.renew_file.ensures.turns.clean clean in
    let same : now c.read_version.new.conn ≡ now c.args.conn.now = (c.in-Ok-First.ensures.reads.stands first.schema_is before).0.now_is in
    subst (λ (d : Database). IsFirstStore d → OnOk c.renew_file.result (IsCarriedOver d (now c.renew_file.new.conn))) same (c.renew_file.ensures.ok clean) first

pub returns-in-Ok-First-clause-not_first : goal.returns-in-Ok-First-clause-not_first
returns-in-Ok-First-clause-not_first g c is clean first =
    let now : Held g.row.S.Denot → Database = λ h. (state g.S.Store h).now in
    let before : HasCleanDisk (state g.S.Store c.read_version.new.conn) = c.renew_file.ensures.turns.clean clean in
    let same : now c.read_version.new.conn ≡ now c.args.conn.now = (c.in-Ok-First.ensures.reads.stands first.schema_is before).0.now_is in
    c.renew_file.ensures.not_ours is clean (subst IsFirstStore (sym same) first)

pub returns-in-Ok-First-clause-unreadable : goal.returns-in-Ok-First-clause-unreadable
returns-in-Ok-First-clause-unreadable g c is clean ours =
    let now : Held g.row.S.Denot → Database = λ h. (state g.S.Store h).now in
    let before : HasCleanDisk (state g.S.Store c.read_version.new.conn) = c.renew_file.ensures.turns.clean clean in
    let same : now c.read_version.new.conn ≡ now c.args.conn.now = (c.in-Ok-First.ensures.reads.stands ours before).0.now_is in
    inr (sym (c.in-Ok-First.ensures.reads.found before ours) ∙ c.in-Ok-First.field-0-is, λ first. c.renew_file.ensures.not_ours is clean (subst IsFirstStore (sym same) first))
