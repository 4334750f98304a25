use Rattle.tables.proofs.Lemmas.{Err, ap, reads_nothing, reads_so, rules, version_shown, shows_version, ◌∙◌, ◌≡◌}
use Rattle.tables.proofs.meta.read_version.Goals as goal

pub returns-in_err-rows-clause-reads : goal.returns-in_err-rows-clause-reads
returns-in_err-rows-clause-reads g c =
    let is : c.from_residual.result ≡ Err c.in_err-rows.field-0.0 = search rules in
    reads_nothing g.S.Store c.args.conn.now c.version_rows.new.conn c.in_err-rows.field-0.0 c.from_residual.result is c.in_err-rows.ensures.reads

pub returns-clause-reads : goal.returns-clause-reads
returns-clause-reads g c =
    reads_so g.S.Store c.args.conn.now c.version_rows.new.conn c.in_ok-rows.rows c.version_of.result
    (λ trees is. c.version_of.ensures ∙ ap version_shown c.deref.ensures.value ∙ shows_version _ _ is) c.in_ok-rows.ensures.reads
