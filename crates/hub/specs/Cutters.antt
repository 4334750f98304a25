-- The program's cutters as a table of connections, and what a cutter takes there; for private clauses.
-- This project's own.
use Rattle.std.specs.Prelude.{◌≡◌, ⊤, ℕ, List, [], ◌++◌, map, Option, Some, None, unwrap_or}
use Rattle.std.specs.List.{All}
use Rattle.std.specs.Option.{IsSome}
use Rattle.std.specs.Map.{lookup, set_value, values_of}
use Rattle.std.specs.BTreeMap.{is_at}
use Rattle.std.specs.FinMap.{FinMap, from_entries, get, insert, remove}
use Rattle.std.specs.Ordering.{nat_cmp}
use Rattle.couch_http.specs.Cutting.{messages_of}
use Rattle.couch_http.specs.Stream.{Cuts, StreamEnd, unfinished, ended, faulty}
use Rattle.couch_http.specs.declared.cut.Cut.{Cut}
use Rattle.couch_http.specs.declared.cut.Ending.{Ending}
use Rattle.couch_http.specs.declared.cut.Ending.TheVariants.{Open, Last, Fault}
use Rattle.couch_http.specs.Reply.{Reply}
use Rattle.hub.specs.Connections.{ConnectionTable, rest_on, with_rest}
use Rattle.hub.specs.Endings.{refusal_of, rest_of}

-- cutters by the numbers of their connections, each as what it keeps of the next request
abbrev pub Cutters : Type 0
Cutters = List (ℕ × Option (List ℕ))

-- each takes more
abbrev pub AreOpen : Cutters → Type 0
AreOpen cutters = All IsSome (values_of cutters)

-- what each keeps
abbrev pub rests_of : Cutters → FinMap nat_cmp (List ℕ)
rests_of cutters = from_entries (map (λ e. (e.0, unwrap_or e.1 [])) cutters)

-- what the cutter of a connection keeps
abbrev pub kept_at : ℕ → Cutters → Option (Option (List ℕ))
kept_at conn cutters = lookup (is_at (nat_cmp conn)) cutters

-- the program's word for how a stream stands
abbrev pub IsEnding : Ending → StreamEnd → Type 0
IsEnding Open (unfinished rest) = ⊤
IsEnding Open ended = ⊥
IsEnding Open (faulty fault) = ⊥
IsEnding Last (unfinished rest) = ⊥
IsEnding Last ended = ⊤
IsEnding Last (faulty fault) = ⊥
IsEnding (Fault fault) (unfinished rest) = ⊥
IsEnding (Fault fault) ended = ⊥
IsEnding (Fault fault) (faulty other) = fault ≡ other

-- the reply that a stream still has to have where it ends so
abbrev pub refusal_at : Ending → List Reply
refusal_at Open = []
refusal_at Last = []
refusal_at (Fault fault) = refusal_of fault

-- A piece was handed to the cutter of a connection: with what that kept it holds these requests, and its entry has what is left.
pub record IsTakenAt (old : Cutters) (conn : ℕ) (piece : List ℕ) (cut : Cut) (new : Cutters) : Type 0 where
  pub rest : List ℕ
  pub was : kept_at conn old ≡ Some (Some rest)
  pub end : StreamEnd
  pub cuts : Cuts (rest ++ piece) (messages_of cut) end
  pub ending : IsEnding cut.ending end
  pub left : new ≡ set_value (is_at (nat_cmp conn)) old (rest_of end)

-- with what has come on a connection, or None where it has ended
abbrev pub with_rest_at : FinMap nat_cmp (List ℕ) → ℕ → Option (List ℕ) → FinMap nat_cmp (List ℕ)
with_rest_at rests conn (Some rest) = insert rests conn rest
with_rest_at rests conn None = remove rests conn

-- A piece was cut on a connection that has not ended: with what had come it holds these requests, and the rests have
-- what is left.
pub record IsCutAt (old : FinMap nat_cmp (List ℕ)) (conn : ℕ) (piece : List ℕ) (cut : Cut) (new : FinMap nat_cmp (List ℕ)) : Type 0 where
  pub rest : List ℕ
  pub was : get old conn ≡ Some rest
  pub end : StreamEnd
  pub cuts : Cuts (rest ++ piece) (messages_of cut) end
  pub ending : IsEnding cut.ending end
  pub left : new ≡ with_rest_at old conn (rest_of end)

-- A piece was cut on a connection that has not ended: with what had come it holds these requests, and the table has
-- what is left.
pub record IsCut (old : ConnectionTable) (conn : ℕ) (piece : List ℕ) (cut : Cut) (new : ConnectionTable) : Type 0 where
  pub rest : List ℕ
  pub was : rest_on old conn ≡ Some rest
  pub end : StreamEnd
  pub cuts : Cuts (rest ++ piece) (messages_of cut) end
  pub ending : IsEnding cut.ending end
  pub left : new ≡ with_rest old conn (rest_of end)
