-- One more row is taken.
use Rattle.std.proofs.Common.{ap, ◌∙◌}
use Rattle.std.specs.Prelude.{flat_map}
use Rattle.std.specs.FinMap as finite
use Rattle.policy.specs.UpdateRules.{Rules, rules_of, with_rules}
use Rattle.store.specs.Contents.{Contents}
use Rattle.store.specs.declared.listing.IdRow.{IdRow}
use Rattle.store.proofs.Calls.{reads_nothing, reads_then}
use Rattle.write.specs.TermsRead.{document_at}
use Rattle.write.proofs.DesignRows.{row_taken}
use Rattle.write.proofs.terms.take_rules.Goals as goal

pub loop-row-init : goal.loop-row-init
loop-row-init g c = record {
  taken = λ honest d there. ap (λ (before : Rules). with_rules before (flat_map (λ (r : IdRow). document_at d r.id) c.args.rows.now)) c.new-rules.ensures;
  reads = reads_nothing g.S.Store c.args.store.now;
}

pub loop-row-preserved : goal.loop-row-preserved
loop-row-preserved g c =
    let l = c.loop-row in
    record {
      taken = λ honest d there.
          let before = c.in_ok-take_rule.ensures.reads.goes_on.honest honest in
          row_taken d c.args.rows.now l.row-index c.row-item.result l.rules c.take_rule.new.rules (rules_of (flat_map (λ (r : IdRow). document_at d r.id) c.args.rows.now))
          c.loop-row-test.true c.row-item.is
          (c.in_ok-take_rule.ensures.rules honest d (ap (λ (x : Contents). finite.get x c.args.db.now) (l.invariant.reads.same before) ∙ there))
          (l.invariant.taken before d there);
      reads = reads_then g.S.Store c.args.store.now l.store c.take_rule.new.store l.invariant.reads c.in_ok-take_rule.ensures.reads;
    }
