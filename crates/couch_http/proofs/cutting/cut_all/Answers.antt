use Rattle.std.proofs.Common.{refl, [], append-nil}
use Rattle.couch_http.specs.Message.{message_of}
use Rattle.couch_http.specs.Stream.{unfinished, faulty}
use Rattle.couch_http.proofs.BeginLemmas.{Begins_shorter}
use Rattle.couch_http.proofs.cutting.cut_all.Goals as goal

pub returns-in-Incomplete : goal.returns-in-Incomplete
returns-in-Incomplete c =
    let begun = rw c.in-Incomplete.is at c.in_ok-stage.ensures in
    (begun.2, rw begun.1 (rw append-nil at (c.loop-requests.invariant [] (unfinished c.loop-requests.rest.now) (begun.0, refl))))

pub returns-in-Faulty : goal.returns-in-Faulty
returns-in-Faulty c =
    let begun = rw c.in-Faulty.is at c.in_ok-stage.ensures in
    (tt, rw append-nil at (c.loop-requests.invariant [] (faulty c.in-Faulty.fault) begun))

pub loop-requests-smaller : goal.loop-requests-smaller
loop-requests-smaller c =
    Begins_shorter c.loop-requests.rest.now (message_of c.in-Complete.request) c.in-Complete.more.now (rw c.in-Complete.is at c.in_ok-stage.ensures)
