use Rattle.lab.proofs.ReplyLemmas.{seen_more}
use Rattle.lab.proofs.showing.print_all.Goals as goal

pub loop-one-preserved : goal.loop-one-preserved
loop-one-preserved g c =
    seen_more c.args.name.now c.args.seen.now c.loop-one.one-index c.one-item.result c.loop-one-test.true c.one-item.is (g.W.Write.contents c.args.out.now)
    (g.W.Write.contents c.loop-one.out) (g.W.Write.contents c.print_seen.new.out) c.loop-one.invariant c.in_ok-print_seen.ensures.printed
