-- How the end of a pass is written, and how far a pass is.
-- This project's own.
use Rattle.std.specs.Prelude.{ℕ, List, ◌++◌, codes, decimal}
use Rattle.couch_json.specs.Canonical.{canonical}
use Rattle.repl.specs.Passes.{Pass, Summary, summary_value}
use Rattle.repl.specs.declared.progress.Progress.{Progress}
use Rattle.repl.specs.declared.why.Why.{Why}
use Rattle.repl.specs.declared.why.Why.TheVariants.{Status, Reply, Lost}

-- why a pass stopped
abbrev pub why_text : Why → List ℕ
why_text (Status status) = codes "status " ++ decimal status
why_text Reply = codes "reply"
why_text Lost = codes "lost"

-- the canonical JSON text of a report
unfoldable pub summary_text : Summary → List ℕ
summary_text s = canonical (summary_value s)

-- how far a pass is
abbrev pub progress_of : Pass → Progress
progress_of p = record { sent = p.sent; last_seq = p.last_seq }
