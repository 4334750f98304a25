-- What a cutter keeps between two pieces, in the words of `Stream`.
use Rattle.std.specs.Prelude.{◌≡◌, ℕ, ◌<◌, ◌≤◌, List, ◌++◌, length, Option, Some, None}
use Rattle.couch_http.specs.declared.fault.HttpFault.{HttpFault}
use Rattle.couch_http.specs.declared.fault.HttpFault.TheVariants.{Memory}
use Rattle.couch_http.specs.declared.fault.HttpFault.TheVariants as faults
use Rattle.couch_http.specs.declared.stage.Refused.{Refused}
use Rattle.couch_http.specs.declared.stage.Stage.{Stage}
use Rattle.couch_http.specs.declared.stage.Stage.TheVariants.{Head, Body, Closed}
use Rattle.couch_http.specs.declared.stage.PartialHead.{PartialHead}
use Rattle.couch_http.specs.declared.stage.PartialRequest.{PartialRequest}
use Rattle.couch_http.specs.declared.stage.Taken.{Taken}
use Rattle.couch_http.specs.declared.stage.Parsed.{Parsed}
use Rattle.couch_http.specs.declared.stage.Parsed.TheVariants.{Incomplete, Faulty, Complete}
use Rattle.couch_http.specs.Message.{message_of}
use Rattle.couch_http.specs.Head.{head_scan, within}
use Rattle.couch_http.specs.Stream.{waits, broken, whole, with_body, head_limit, Begins}
use Rattle.couch_http.specs.Cutting.{CutsPiece, CutsTo, messages_of}

-- what has come is no whole head yet, and has been read up to its end
pub record IsPartialHead (p : PartialHead) : Type 0 where
  pub scanned : head_scan p.bytes.items ≡ within p.scan.lines p.scan.line
  pub counted : p.scan.lines ≤ length p.bytes.items
  pub short : length p.bytes.items < head_limit

-- the head is one whose request comes with the last byte of its body, which hasn't come
pub record IsPartialRequest (p : PartialRequest) : Type 0 where
  pub awaits : (rest : List ℕ) → Begins (p.head.items ++ rest) (with_body (message_of p.request) p.length rest)
  pub short : length p.request.body.items < p.length

abbrev pub IsStage : Stage → Type 0
IsStage (Head p) = IsPartialHead p
IsStage (Body p) = IsPartialRequest p
IsStage Closed = Unit {0}

-- what has come of the next request, where one may come
abbrev pub stage_rest : Stage → Option (List ℕ)
stage_rest (Head p) = Some p.bytes.items
stage_rest (Body p) = Some (p.head.items ++ p.request.body.items)
stage_rest Closed = None

-- the answer to a piece at a stage, and what is kept
abbrev pub IsTakenFrom : Stage → List ℕ → Taken → Type 0
IsTakenFrom stage piece t = IsStage t.stage × CutsPiece (stage_rest stage) piece t.cut (stage_rest t.stage)

-- why nothing is taken at a stage
abbrev pub fault_at : Stage → HttpFault
fault_at (Head p) = Memory
fault_at (Body p) = Memory
fault_at Closed = faults.Closed

-- nothing was taken at a stage
pub record IsRefused (stage : Stage) (r : Refused) : Type 0 where
  pub kept : IsStage r.stage
  pub same : stage_rest r.stage ≡ stage_rest stage
  pub cause : r.fault ≡ fault_at stage

-- the same of a head, and of a request
abbrev pub IsHeadKept : PartialHead → PartialHead → Type 0
IsHeadKept old new = IsPartialHead new × (new.bytes.items ≡ old.bytes.items)

abbrev pub IsRequestKept : PartialRequest → PartialRequest → Type 0
IsRequestKept old new =
    IsPartialRequest new × (new.head.items ≡ old.head.items) × (new.request.body.items ≡ old.request.body.items)

-- the answer to these bytes, and what is kept
abbrev pub IsTaken : List ℕ → Taken → Type 0
IsTaken bytes t = IsStage t.stage × CutsTo bytes (messages_of t.cut) t.cut.ending (stage_rest t.stage)

-- how a stream of these bytes begins, and what is kept of one that waits
abbrev pub IsBegun : List ℕ → Parsed → Type 0
IsBegun bytes (Incomplete stage) = Begins bytes waits × (stage_rest stage ≡ Some bytes) × IsStage stage
IsBegun bytes (Faulty fault) = Begins bytes (broken fault)
IsBegun bytes (Complete request rest) = Begins bytes (whole (message_of request) rest.now)
