use Rattle.std.proofs.Common.{◌≡◌, ◌+◌, [], Err, ap, subst, sym}
use Rattle.std.specs.Prelude.{is_some, map, string_bytes}
use Rattle.std.specs.Io.BufRead.{strip_last}
use Rattle.auth.specs.Callers.{Configuration}
use Rattle.lab.proofs.PlayLemmas.{AreLines-end, Keeps-prints, Prints-nothing, Prints-then, ReadsLines-more, ReadsLines-none, fault_at-is_line, fault_at-line, lines-more, lines-none}
use Rattle.lab.proofs.SceneLemmas.{AreBytesPlayed-line, AreBytesPlayed-prints, HasPlayed-more, HasPlayed-none, PlaysBefore-fault, PlaysScript-end}
use Rattle.lab.proofs.StopsLemmas.{ArePlayable-end, HaveNamed-more, HaveNamed-none, StopsAt-here, stopped-err, stopped-ok, stopped-other, stopped_fault, stopped_passed}
use Rattle.lab.proofs.NamingLemmas.{none_of}
use Rattle.lab.specs.Playing.{fault_at}
use Rattle.lab.specs.Script.{line_of}
use Rattle.lab.specs.Stopping.{IsFaultJudged, names_behind, names_in, some_asks_store}
use Rattle.lab.specs.Scene.{laying}
use Rattle.lab.specs.Stages.{AreBytesPlayed, nodes_of, scene_of}
use Rattle.command_line.specs.declared.fault.ProgramFault.TheVariants as program
use Rattle.lab.proofs.scripts.play_script.Goals as goal

pub returns-then-not-branch-clause-lines : goal.returns-then-not-branch-clause-lines
returns-then-not-branch-clause-lines g c =
    AreLines-end c.loop-number.number (g.R.Read.remaining c.args.reader.now) (g.R.Read.remaining c.loop-number.reader) c.loop-number.invariant.read
    (c.in_ok-read_next.ensures.end c.if-not-branch.true) c.loop-number.invariant.lines

pub returns-then-not-branch-clause-played : goal.returns-then-not-branch-clause-played
returns-then-not-branch-clause-played g c =
    PlaysScript-end g.S.Store (record { secret = c.args.secret.now; admins = map string_bytes c.args.admins.now }) c.loop-number.number (g.R.Read.remaining c.args.reader.now) (g.R.Read.remaining c.loop-number.reader) (g.W.Write.contents c.args.writer.now)
    (g.W.Write.contents c.loop-number.writer) (scene_of c.loop-number.stage) c.loop-number.invariant.played c.loop-number.invariant.read
    (c.in_ok-read_next.ensures.end c.if-not-branch.true)

pub returns-in-Err-clause-line : goal.returns-in-Err-clause-line
returns-in-Err-clause-line g c = λ n e.
    let made : fault_at c.in-Err.fault (c.loop-number.number + 1) ≡ program.Line n = cc (e, c.at.ensures) in
    let same : c.loop-number.number + 1 ≡ n = fault_at-line c.in-Err.fault (c.loop-number.number + 1) n made in
    rw (sym same) (ReadsLines-more c.loop-number.number (g.R.Read.remaining c.args.reader.now) (g.R.Read.remaining c.loop-number.reader)
    (g.R.Read.remaining c.read_next.new.reader) c.loop-number.invariant.read c.in_ok-read_next.ensures.rest)

pub returns-in-Err-clause-before : goal.returns-in-Err-clause-before
returns-in-Err-clause-before g c = λ n e.
    let made : fault_at c.in-Err.fault (c.loop-number.number + 1) ≡ program.Line n = cc (e, c.at.ensures) in
    let same : c.loop-number.number + 1 ≡ n = fault_at-line c.in-Err.fault (c.loop-number.number + 1) n made in
    PlaysBefore-fault g.S.Store (record { secret = c.args.secret.now; admins = map string_bytes c.args.admins.now }) c.loop-number.number n (g.R.Read.remaining c.args.reader.now) (g.W.Write.contents c.args.writer.now) (g.W.Write.contents c.loop-number.writer)
    (g.W.Write.contents c.play.new.out) (scene_of c.loop-number.stage) c.loop-number.invariant.played (c.in-Err.ensures.stands (ap Err (fault_at-is_line c.in-Err.fault (c.loop-number.number + 1) n made))) same

pub loop-number-preserved : goal.loop-number-preserved
loop-number-preserved g c =
    let script = g.R.Read.remaining c.args.reader.now in
    let rest = g.R.Read.remaining c.loop-number.reader in
    let start = g.W.Write.contents c.args.writer.now in
    let before = g.W.Write.contents c.loop-number.writer in
    let after = g.W.Write.contents c.play.new.out in
    let flushed = g.W.Write.contents c.flush.new.self in
    let configuration : Configuration = record { secret = c.args.secret.now; admins = map string_bytes c.args.admins.now } in
    let scene = scene_of c.loop-number.stage in
    let line = strip_last 10 c.read_next.new.bytes.items in
    let here : AreBytesPlayed g.S.Store configuration scene line before after (scene_of c.in-Ok.next) =
    rw (c.without_line_feed.ensures, c.deref.ensures.value) at c.in-Ok.ensures.played in
    record {
      read = ReadsLines-more c.loop-number.number script rest (g.R.Read.remaining c.read_next.new.reader) c.loop-number.invariant.read c.in_ok-read_next.ensures.rest;
      lines = lines-more c.loop-number.number script rest c.read_next.new.bytes.items c.loop-number.invariant.read c.in_ok-read_next.ensures.line
          (AreBytesPlayed-line g.S.Store configuration scene line before after (scene_of c.in-Ok.next) here) c.loop-number.invariant.lines;
      printed = Prints-then start before flushed c.loop-number.invariant.printed
          (Prints-then before after flushed (AreBytesPlayed-prints g.S.Store configuration scene line before after (scene_of c.in-Ok.next) here) (Keeps-prints after flushed c.flush.ensures.bytes));
      played = HasPlayed-more g.S.Store configuration c.loop-number.number script rest c.read_next.new.bytes.items start before after flushed scene (scene_of c.in-Ok.next)
          c.loop-number.invariant.played c.loop-number.invariant.read c.in_ok-read_next.ensures.line here c.flush.ensures.bytes;
      named = HaveNamed-more g.S.Store configuration c.loop-number.number script rest c.read_next.new.bytes.items before after scene (scene_of c.in-Ok.next)
          c.loop-number.invariant.named c.loop-number.invariant.read c.in_ok-read_next.ensures.line here;
      numbered = c.in-Ok.ensures.numbered c.loop-number.invariant.numbered;
    }

pub returns-then-not-branch-clause-playable : goal.returns-then-not-branch-clause-playable
returns-then-not-branch-clause-playable g c =
    ArePlayable-end g.S.Store c.loop-number.number (g.R.Read.remaining c.args.reader.now) (g.R.Read.remaining c.loop-number.reader) (scene_of c.loop-number.stage)
    c.loop-number.invariant.named c.loop-number.invariant.read (c.in_ok-read_next.ensures.end c.if-not-branch.true)

pub returns-in-Err-clause-bad : goal.returns-in-Err-clause-bad
returns-in-Err-clause-bad g c = λ n e.
    let made : fault_at c.in-Err.fault (c.loop-number.number + 1) ≡ program.Line n = cc (e, c.at.ensures) in
    let same : c.loop-number.number + 1 ≡ n = fault_at-line c.in-Err.fault (c.loop-number.number + 1) n made in
    let judged = c.in-Err.ensures.judged c.loop-number.invariant.numbered in
    let bad = none_of (names_behind (names_in g.S.Store (scene_of c.loop-number.stage)) c.without_line_feed.result.now)
    (subst (IsFaultJudged (some_asks_store (line_of c.without_line_feed.result.now)) (is_some (names_behind (names_in g.S.Store (scene_of c.loop-number.stage)) c.without_line_feed.result.now)))
    (fault_at-is_line c.in-Err.fault (c.loop-number.number + 1) n made) judged) in
    StopsAt-here g.S.Store c.loop-number.number n (g.R.Read.remaining c.args.reader.now) (g.R.Read.remaining c.loop-number.reader) c.read_next.new.bytes.items
    (scene_of c.loop-number.stage) c.loop-number.invariant.named c.loop-number.invariant.read (c.in_ok-read_next.ensures.more c.if-not-branch.false)
    c.in_ok-read_next.ensures.line (rw (c.without_line_feed.ensures, c.deref.ensures.value) at bad) same

pub returns-in_err-read_next-clause-stopped : goal.returns-in_err-read_next-clause-stopped
returns-in_err-read_next-clause-stopped g c =
    stopped_passed (g.R.Read.remaining c.args.reader.now) c.in_err-read_next.field-0.0 c.from_residual.result c.from_residual.ensures.1 c.in_err-read_next.ensures.faults

pub returns-then-not-branch-clause-stopped : goal.returns-then-not-branch-clause-stopped
returns-then-not-branch-clause-stopped g c =
    stopped-ok (g.R.Read.remaining c.args.reader.now) 0
    (ArePlayable-end g.S.Store c.loop-number.number (g.R.Read.remaining c.args.reader.now) (g.R.Read.remaining c.loop-number.reader) (scene_of c.loop-number.stage)
    c.loop-number.invariant.named c.loop-number.invariant.read (c.in_ok-read_next.ensures.end c.if-not-branch.true))

pub returns-in-Err-clause-stopped : goal.returns-in-Err-clause-stopped
returns-in-Err-clause-stopped g c = stopped-err (g.R.Read.remaining c.args.reader.now) c.at.result (λ m e. returns-in-Err-clause-bad g c m (ap Err e))

pub returns-in_err-flush-clause-stopped : goal.returns-in_err-flush-clause-stopped
returns-in_err-flush-clause-stopped g c = stopped_fault (g.R.Read.remaining c.args.reader.now) c.from_residual-in_err-flush.result c.from_residual-in_err-flush.ensures.1

pub returns-clause-stopped : goal.returns-clause-stopped
returns-clause-stopped g c = stopped-other (g.R.Read.remaining c.args.reader.now) program.File (λ n e. absurd cc)

pub loop-number-init : goal.loop-number-init
loop-number-init g c =
    let script = g.R.Read.remaining c.args.reader.now in
    let out = g.W.Write.contents c.args.writer.now in
    let scene = laying (nodes_of c.new.result) in
    let none : scene ≡ laying [] = ap laying c.new.ensures in
    record {
      read = ReadsLines-none script;
      lines = lines-none script;
      printed = Prints-nothing out;
      played = HasPlayed-none g.S.Store (record { secret = c.args.secret.now; admins = map string_bytes c.args.admins.now }) script out scene none;
      named = HaveNamed-none g.S.Store script scene none;
      numbered = tt;
    }
