-- What a pass of the program asks and reports, and where it stands, in the words of `Passes`.
-- This project's own: it ties the types of the code to those of `Passes`.
use Rattle.std.specs.Prelude.{map, option_map, string_bytes}
use Rattle.couch_json.specs.View.{view}
use Rattle.couch_http.specs.Message.{message_of}
use Rattle.repl.specs.Configuration.{configuration_of}
use Rattle.repl.specs.Kept.{checkpoint_of}
use Rattle.repl.specs.Listed.{revisions_of}
use Rattle.repl.specs.Passes.{Asked, Pass, Summary, to_source, to_target, done, stopped_by}
use Rattle.repl.specs.declared.ask.Ask.{Ask}
use Rattle.repl.specs.declared.ask.Ask.TheVariants.{ToSource, ToTarget, Done, Stopped}
use Rattle.repl.specs.declared.report.Report.{Report}
use Rattle.repl.specs.declared.replication.Replication.{Replication}

-- a report of the code as the definition's
abbrev pub report_of : Report → Summary
report_of r = record { start_seq = r.start_seq; last_seq = r.last_seq; sent = r.sent; refused = map view r.refused.items }

-- what a pass of the code asks, as the definition's
abbrev pub ask_of : Ask → Asked
ask_of (ToSource r) = to_source (message_of r)
ask_of (ToTarget r) = to_target (message_of r)
ask_of (Done r) = done (report_of r)
ask_of (Stopped why r) = stopped_by why (report_of r)

abbrev pub pass_of : Replication → Pass
pass_of r = record {
  configuration = configuration_of r.config;
  phase = r.phase;
  older = option_map checkpoint_of r.older;
  source_revision = option_map string_bytes r.source_revision;
  target_revision = option_map string_bytes r.target_revision;
  start = r.start.value;
  since = r.since.value;
  start_seq = r.start_seq.value;
  last_seq = r.last_seq.value;
  is_full = r.is_full;
  leaves = map revisions_of r.leaves.items;
  pending = map revisions_of r.pending.items;
  documents = map view r.documents.items;
  sent = r.sent.value;
  refused = map view r.refused.items;
  losses = r.losses;
}
