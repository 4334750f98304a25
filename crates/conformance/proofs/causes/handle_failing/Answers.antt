use Rattle.conformance.proofs.Failures.{counted_once}
use Rattle.conformance.proofs.causes.handle_failing.Goals as goal

pub returns : goal.returns
returns c = record {
  counted = λ failed. counted_once c.args.node.now.store.failing c.handle_unlacking.new.node.store.failing
      (c.handle_unlacking.ensures failed tt (λ h. h) (λ name ws h. h));
}
