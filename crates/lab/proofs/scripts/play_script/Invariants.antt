use Rattle.std.proofs.Common.{◌≡◌, ◌<◌, ℕ, true, map, string_bytes}
use Rattle.std.specs.Prelude.{IfSome, is_some}
use Rattle.std.specs.Io.BufRead.{first_piece}
use Rattle.lab.specs.Playing.{Prints, ReadsLines, after_lines}
use Rattle.lab.specs.Scene.{HasPlayed}
use Rattle.lab.specs.Script.{line_of}
use Rattle.lab.specs.Stages.{scene_of}
use Rattle.lab.specs.Stopping.{HasNodesIn}
use Rattle.lab.proofs.StopsLemmas.{HaveNamed}
use Rattle.lab.proofs.scripts.play_script.Given as goal

abbrev pub invariant-loop-number : goal.invariant-loop-number
invariant-loop-number g l = record {
  read : ReadsLines l.number (g.R.Read.remaining l.initial.reader) (g.R.Read.remaining l.reader);
  lines : IfSome (g.R.Read.remaining l.initial.reader) (λ script. (k : ℕ) → k < l.number → is_some (line_of (first_piece 10 (after_lines k script))) ≡ true);
  printed : Prints (g.W.Write.contents l.initial.writer) (g.W.Write.contents l.writer);
  played : IfSome (g.R.Read.remaining l.initial.reader) (λ script. HasPlayed g.S.Store (record { secret = l.secret; admins = map string_bytes l.admins }) l.number script
      (after_lines l.number script) (g.W.Write.contents l.initial.writer) (g.W.Write.contents l.writer) (scene_of l.stage));
  named : IfSome (g.R.Read.remaining l.initial.reader) (λ script. HaveNamed g.S.Store l.number script (scene_of l.stage));
  numbered : HasNodesIn (scene_of l.stage);
}
