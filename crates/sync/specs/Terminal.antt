-- How far a pass is, as a terminal shows it, and about how much is left of it.
-- This project's own; that sequences go up with each change is of CouchDB's manual, api/database/changes.
use Rattle.std.specs.Prelude.{ℕ, ◌==◌, ◌*◌, ◌-◌, ◌/◌, ◌%◌, List, [], ◌++◌, nat_lt, if◌then◌else◌, codes, Option, Some, None, option_and_then}
use Rattle.std.specs.Fmt.{decimal}
use Rattle.std.specs.Int.{div_ceil}
use Rattle.sync.specs.declared.estimate.Estimate.{Estimate}
use Rattle.sync.specs.declared.estimate.Pace.{Pace}
use Rattle.sync.specs.declared.estimate.Reached.{Reached}

-- the seconds that so many changes take at a pace, rounded up; at a pace of no changes they aren't known
abbrev pub seconds_for : ℕ → Pace → Option ℕ
seconds_for changes pace = if pace.changes == 0 then None else Some (div_ceil (changes * pace.millis) (pace.changes * 1000))

-- so many changes are left, at a pace that may not be known
abbrev pub estimate_of : Option Pace → ℕ → Estimate
estimate_of pace changes = record { changes = changes; seconds = option_and_then (λ p. seconds_for changes p) pace }

-- what is left where the pass has listed up to a sequence, of a source that had another one before; nothing is known once that is reached
abbrev pub left_of : Option Pace → ℕ → ℕ → Option Estimate
left_of pace reached update_seq = if nat_lt reached update_seq then Some (estimate_of pace (update_seq - reached)) else None

-- a time in seconds; from a minute on in minutes, and from an hour on in hours and minutes
abbrev pub time_text : ℕ → List ℕ
time_text seconds =
    if nat_lt seconds 60 then decimal seconds ++ codes " s"
    else if nat_lt seconds 3600 then decimal (seconds / 60) ++ codes " min"
    else decimal (seconds / 3600) ++ codes " h " ++ decimal (seconds / 60 % 60) ++ codes " min"

-- the time beside the changes, where it is known
abbrev pub time_part : Option ℕ → List ℕ
time_part None = []
time_part (Some seconds) = codes " and " ++ time_text seconds

-- so many changes, and so much time
abbrev pub estimate_text : Estimate → List ℕ
estimate_text e = decimal e.changes ++ codes " changes" ++ time_part e.seconds

-- what is left, where it is known
abbrev pub left_part : Option Estimate → List ℕ
left_part None = []
left_part (Some e) = codes ", about " ++ estimate_text e ++ codes " left"

-- the documents sent, the sequence reached, and what is left
abbrev pub reached_text : Reached → List ℕ
reached_text r = decimal r.sent ++ codes " documents sent, sequence " ++ decimal r.sequence ++ left_part r.left
