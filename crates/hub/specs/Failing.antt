-- Which replies a log of failures has: those of 500, in the order in which they were made.
-- RFC 9110, section 15.6.1, for the status; that its request is told of, and by what, is this project's own.
use Rattle.std.specs.Prelude.{◌≡◌, ◌++◌, ◌==◌, ⊤, ℕ, List, [], ◌∷◌, refl, Option, Some, None, if◌then◌else◌}
use Rattle.std.specs.Coded.{Coded, code_by, coded×, coded_list, coded_ℕ}
use Rattle.couch_http.specs.Message.{Message}
use Rattle.couch_http.specs.Reply.{Reply}

-- what is told of a request whose reply is 500: its method, and its path, without the query
pub record FailedRequest : Type 0 where
  pub method : List ℕ
  pub path : List ℕ

-- it is stored as the pair of its fields
abbrev pub failed_request_code : Coded FailedRequest
failed_request_code = code_by (List ℕ × List ℕ) (coded× (coded_list coded_ℕ) (coded_list coded_ℕ)) (λ f. (f.method, f.path)) (λ p. record { method = p.0; path = p.1 }) (λ _. refl)

-- what is told of a request
abbrev pub failed_request : Message → FailedRequest
failed_request m = record { method = m.method; path = m.path }

-- what is told of a request that has this reply
abbrev pub failure_at : Message → Reply → List FailedRequest
failure_at m r = if r.status == 500 then failed_request m ∷ [] else []

-- What is told of requests that have these replies: a request is named once for its 500, and one with another reply is not. So where
-- the second of three has 500, the second alone is told of.
abbrev pub failures_in : List Message → List Reply → List FailedRequest
failures_in (m ∷ ms) (r ∷ rs) = failure_at m r ++ failures_in ms rs
failures_in [] rs = []
failures_in (m ∷ ms) [] = []

-- a log that is known grows by these
abbrev pub Tells : Option (List FailedRequest) → Option (List FailedRequest) → List FailedRequest → Type 0
Tells None new told = ⊤
Tells (Some before) None told = ⊥
Tells (Some before) (Some after) told = after ≡ before ++ told
