-- The program's lines as the definition's.
-- This project's own.
use Rattle.std.specs.Prelude.{option_map}
use Rattle.repl.specs.Configuration.{batch_size}
use Rattle.lab.specs.declared.line.Line.{Line}
use Rattle.lab.specs.declared.line.Line.TheVariants.{Node, Public, Conn, Send, Close, Repl, Turn}
use Rattle.lab.specs.declared.repl_line.PassSession.{PassSession as ReadSession}
use Rattle.lab.specs.declared.repl_line.PassSide.{PassSide as ReadSide}
use Rattle.lab.specs.declared.repl_line.SideThen.{SideThen as ReadSideThen}
use Rattle.lab.specs.declared.repl_line.PassWords.{PassWords as ReadWords}
use Rattle.lab.specs.PassLines.{PassSession, PassSide, PassWords, SideThen}
use Rattle.lab.specs.Script.{ScriptLine, node_line, public_line, conn_line, send_line, close_line, repl_line, turn_line}

abbrev pub side_said : ReadSide → PassSide
side_said s = record { text = s.text.now; node = s.node.now; database = s.database }

abbrev pub side_then_said : ReadSideThen → SideThen
side_then_said s = record { side = side_said s.side; rest = s.rest.now }

abbrev pub session_said : ReadSession → PassSession
session_said s = record { session = s.session.now; user = option_map (λ user. user.now) s.user }

abbrev pub pass_said : ReadWords → PassWords
pass_said w = record {
  name = w.name.now;
  source = side_said w.source;
  target = side_said w.target;
  session = w.session.now;
  user = option_map (λ user. user.now) w.user;
  batch = option_map batch_size w.batch;
}

abbrev pub said_by : Line → ScriptLine
said_by (Node name) = node_line name.now
said_by (Public node name) = public_line node.now name
said_by (Conn node name) = conn_line node.now name.now
said_by (Send name piece) = send_line name.now piece.items
said_by (Close name) = close_line name.now
said_by (Repl pass) = repl_line (pass_said pass)
said_by (Turn turn name) = turn_line turn name.now
