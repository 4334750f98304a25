-- What the log of a server's failures holds.
-- This project's own.
use Rattle.std.specs.Prelude.{ℕ, List, String, map, string_bytes}
use Rattle.std.specs.declared.alloc.Global.{Global}
use Rattle.hub.specs.Failing.{FailedRequest}

-- the requests of its entries, in order
abbrev pub failures_of : List (List ℕ × String Global) → List FailedRequest
failures_of entries = map (λ e. record { method = e.0; path = string_bytes e.1 }) entries
