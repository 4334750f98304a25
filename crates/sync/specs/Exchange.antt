-- What an exchange leaves: a request is written, and its reply is read.
-- RFC 9112: how a reply begins is said by couch_http; what loses a reply is this project's own.
use Rattle.std.specs.Prelude.{◌≡◌, ◌≢◌, ◌⊎◌, ◌≤◌, ℕ, Bool, true, false, List, [], ◌++◌, length, Option}
use Rattle.std.specs.Io.KnownBytes.{Consumes}
use Rattle.couch_http.specs.Front.{broken, waits, whole}
use Rattle.couch_http.specs.ReplyStream.{BeginsReply}
use Rattle.couch_http.specs.declared.fault.HttpFault.{HttpFault}
use Rattle.couch_http.specs.declared.fault.HttpFault.TheVariants.{Memory}
use Rattle.couch_http.specs.Writing.{Takes}
use Rattle.sync.specs.Streams.{EndsFinally, IsCutOff}
use Rattle.sync.specs.declared.answer.Answer.{Answer}
use Rattle.sync.specs.declared.answer.Answer.TheVariants.{Reply, Lost, Unreadable}
use Rattle.sync.specs.declared.outcome.Outcome.{Outcome}

-- how many times a reply is read at most
abbrev pub most_reads : ℕ
most_reads = 1048576

-- nothing came of a reply, or a first part of it
abbrev pub IsUnfinished : List ℕ → Type 0
IsUnfinished read = (read ≡ []) ⊎ BeginsReply read waits

-- why a reply is lost: it isn't whole, and the last read failed or found the end of the input, or it was read as often as it may be
abbrev pub IsLost : List ℕ → List Outcome → Type 0
IsLost read reads = IsUnfinished read × (EndsFinally reads ⊎ (length reads ≡ most_reads))

-- why a reply can't be read: the bytes break the grammar or a limit
abbrev pub IsBroken : List ℕ → Type 0
IsBroken read = (fault : HttpFault) × (fault ≢ Memory) × BeginsReply read (broken fault)

-- what the bytes that were read are: they begin with this reply, or it is lost, or it can't be read
abbrev pub IsReadAs : List ℕ → List Outcome → Answer → Type 0
IsReadAs read reads (Reply reply) = (rest : List ℕ) × BeginsReply read (whole reply rest)
IsReadAs read reads Lost = IsLost read reads
IsReadAs read reads Unreadable = IsBroken read

-- the bytes of a stream, those written or those left to read where they are known, and what came of its reads or writes
pub record Standing : Type 0 where
  pub bytes : Option (List ℕ)
  pub log : List Outcome

-- a reply was read, or lost, or it can't be read
pub record ReadsReply (before after : Standing) (answer : Answer) : Type 0 where
  pub reads : List Outcome
  pub logged : after.log ≡ before.log ++ reads
  pub within : length reads ≤ most_reads
  pub read : List ℕ
  pub consumes : Consumes before.bytes after.bytes read
  pub is : IsReadAs read reads answer

-- the same, of so many bytes
pub record ReadsBytes (before after : Standing) (answer : Answer) (count : ℕ) : Type 0 where
  pub reads : ReadsReply before after answer
  pub counted : length reads.read ≡ count

-- Bytes were written, all of them or not. Where they weren't, writes were cut off.
pub record Writes (bytes : List ℕ) (before after : Standing) (all : Bool) : Type 0 where
  pub takes : Takes before.bytes after.bytes bytes all
  pub writes : List Outcome
  pub logged : after.log ≡ before.log ++ writes
  pub cut_off : all ≡ false → IsCutOff writes

-- The request was written, and a reply was read, or lost, or it can't be read. Where a first part of the request was written nothing was read, and the reply is lost.
pub record Exchanges (request : List ℕ) (input rest output after : Standing) (answer : Answer) : Type 0 where
  pub all : Bool
  pub wrote : Writes request output after all
  pub reads : all ≡ true → ReadsReply input rest answer
  pub unread : all ≡ false → (rest ≡ input) × (answer ≡ Lost)

-- the same, with so many bytes read
pub record ExchangesBytes (request : List ℕ) (input rest output after : Standing) (answer : Answer) (count : ℕ) : Type 0 where
  pub exchanges : Exchanges request input rest output after answer
  pub some : (all : exchanges.all ≡ true) → length (exchanges.reads all).read ≡ count
  pub none : exchanges.all ≡ false → count ≡ 0
