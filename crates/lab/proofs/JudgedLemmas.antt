-- What a result says of a line: whether it can be played.
use Rattle.std.proofs.Common.{ℕ, ◌≡◌, ◌≤◌, ◌<◌, Bool, true, false, cond, List, Option, Some, None, ap, sym, subst, refl, arith, inl, inr, ◌⊎◌}
use Rattle.std.specs.Prelude.{Result, Ok, Err, is_some, option_and_then}
use Rattle.std.specs.Result.{IsErrAnd}
use Rattle.auth.specs.Callers.{Configuration}
use Rattle.store.specs.declared.fault.StoreFault.{StoreFault}
use Rattle.store.specs.declared.fault.StoreFault.TheVariants as store
use Rattle.store.specs.declared.store.Store.{Ghosts}
use Rattle.lab.specs.Naming.{NamedValue}
use Rattle.world.specs.declared.fault.WorldFaultKind.{WorldFaultKind}
use Rattle.world.specs.declared.fault.WorldFaultKind.TheVariants as world
use Rattle.lab.specs.Playing.{fault_of_store, fault_of_world}
use Rattle.lab.specs.Scene.{NamedNetwork, Plays, Scene, first_network, laying}
use Rattle.lab.specs.Script.{ScriptLine, node_line, public_line, conn_line, send_line, close_line, repl_line, turn_line, line_of}
use Rattle.lab.specs.Stopping.{HasNodes, HasNodesIn, IsFaultJudged, IsJudged, ScriptNames, asks_store, can_be_played, names_after, names_behind, some_asks_store}
use Rattle.lab.specs.declared.fault.LineFault.{LineFault}
use Rattle.lab.specs.declared.fault.LineFault.TheVariants as line
use Rattle.lab.proofs.StoppingLemmas.{first_has_nodes, opens_has_nodes, starts_has_nodes}

-- a fault that is passed on
pub judged_err : {X : Type 0} (asks can : Bool) (fault : LineFault) (r : Result X LineFault) → IsErrAnd r (λ made. made ≡ fault) → IsFaultJudged asks can fault → IsJudged asks can r
judged_err asks can fault (Ok x) p j = absurd p
judged_err asks can fault (Err made) p j = subst (IsFaultJudged asks can) (sym p) j

pub judged_memory : {X : Type 0} (asks can : Bool) (r : Result X LineFault) → IsErrAnd r (λ made. made ≡ line.Memory) → IsJudged asks can r
judged_memory asks can r p = judged_err asks can line.Memory r p tt

-- what can be played is never told as bad
pub fault_judged : (asks can : Bool) (fault : LineFault) → (fault ≡ line.Line → ⊥) → can ≡ true → IsFaultJudged asks can fault
fault_judged asks can line.Line other is = absurd (other refl)
fault_judged asks can line.File other is = λ first. is
fault_judged asks can line.Memory other is = tt

pub judged_known : {X : Type 0} (asks can : Bool) (r : Result X LineFault) → (r ≡ Err line.Line → ⊥) → can ≡ true → IsJudged asks can r
judged_known asks can (Ok x) other is = is
judged_known asks can (Err fault) other is = fault_judged asks can fault (λ e. other (ap Err e)) is

pub judged_as : {X : Type 0} (asks a b : Bool) (r : Result X LineFault) → a ≡ b → IsJudged asks a r → IsJudged asks b r
judged_as asks a b r e j = subst (λ (can : Bool). IsJudged asks can r) e j

-- the fault of a store that makes a database
pub store_judged : (can : Bool) (fault : StoreFault) → (fault ≡ store.NoDatabase → ⊥) → (fault ≡ store.Exists → can ≡ false) → IsFaultJudged true can (fault_of_store fault)
store_judged can store.Memory none exists = tt
store_judged can store.Failed none exists = λ first. absurd cc
store_judged can store.NoDatabase none exists = absurd (none refl)
store_judged can store.Exists none exists = exists refl
store_judged can store.Damaged none exists = λ first. absurd cc
store_judged can store.Full none exists = λ first. absurd cc

-- a line of this kind
pub judged_line : {X : Type 0} (m : ScriptNames) (said kind : ScriptLine) (can : Bool) (r : Result X LineFault) → said ≡ kind → can_be_played m kind ≡ can → IsJudged (asks_store kind) can r
    → IsJudged (asks_store said) (can_be_played m said) r
judged_line m said kind can r e is j =
    subst (λ (l : ScriptLine). IsJudged (asks_store l) (can_be_played m l) r) (sym e) (judged_as (asks_store kind) can (can_be_played m kind) r (sym is) j)

some_where : {A : Type 0} (b : Bool) (x : A) → is_some (cond b (Some x) None) ≡ b
some_where true x = refl
some_where false x = refl

judged_said : {X : Type 0} (m : ScriptNames) (line : ScriptLine) (said : Option ScriptLine) (r : Result X LineFault) → said ≡ Some line → IsJudged (asks_store line) (can_be_played m line) r
    → IsJudged (some_asks_store said) (is_some (option_and_then (λ l. cond (can_be_played m l) (Some (names_after m l)) None) said)) r
judged_said m line said r e j =
    subst (λ (o : Option ScriptLine). IsJudged (some_asks_store o) (is_some (option_and_then (λ l. cond (can_be_played m l) (Some (names_after m l)) None) o)) r) (sym e)
    (judged_as (asks_store line) (can_be_played m line) (is_some (cond (can_be_played m line) (Some (names_after m line)) None)) r
    (sym (some_where (can_be_played m line) (names_after m line))) j)

-- the bytes of a line
pub judged_bytes : {X : Type 0} (m n : ScriptNames) (line : ScriptLine) (bytes : List ℕ) (r : Result X LineFault) → line_of bytes ≡ Some line → m ≡ n
    → IsJudged (asks_store line) (can_be_played n line) r → IsJudged (some_asks_store (line_of bytes)) (is_some (names_behind m bytes)) r
judged_bytes m n line bytes r e same j =
    subst (λ (names : ScriptNames). IsJudged (some_asks_store (line_of bytes)) (is_some (names_behind names bytes)) r) (sym same) (judged_said n line (line_of bytes) r e j)

-- bytes that are no line
pub none_behind : (m : ScriptNames) (bytes : List ℕ) → line_of bytes ≡ None → is_some (names_behind m bytes) ≡ false
none_behind m bytes none = rw none refl

-- the first connection or pass has the nodes of the layout
pub first_numbered : {S : Type 0} (g : Ghosts S) (c : Configuration) (nodes : List (NamedValue S)) (line : ScriptLine) (printed : List ℕ) (after : Scene S)
    → Plays g c (laying nodes) line printed after → HasNodesIn after
first_numbered {S} g c nodes (node_line name) printed after p = subst (λ (s : Scene S). HasNodesIn s) (sym p.1.2) tt
first_numbered {S} g c nodes (public_line node name) printed after p = subst (λ (s : Scene S). HasNodesIn s) (sym p.1.2) tt
first_numbered {S} g c nodes (conn_line node name) printed after p =
    subst (λ (s : Scene S). HasNodesIn s) (sym p.1.2) (opens_has_nodes (first_network c nodes) p.1.0 node name p.1.1 (first_has_nodes c nodes))
first_numbered {S} g c nodes (repl_line words) printed after p =
    subst (λ (s : Scene S). HasNodesIn s) (sym p.1.2) (starts_has_nodes c (first_network c nodes) p.1.0 words p.1.1 (first_has_nodes c nodes))
first_numbered g c nodes (send_line name bytes) printed after p = absurd p
first_numbered g c nodes (close_line name) printed after p = absurd p
first_numbered g c nodes (turn_line turn name) printed after p = absurd p

pub has_nodes_first : {S : Type 0} (c : Configuration) (nodes : List (NamedValue S)) (names : NamedNetwork S) → names ≡ first_network c nodes → HasNodes names
has_nodes_first {S} c nodes names e = subst (λ (n : NamedNetwork S). HasNodes n) (sym e) (first_has_nodes c nodes)

-- the fault of a world where the numbers of nodes are those of nodes
pub world_judged : (can : Bool) (kind : WorldFaultKind) → (kind ≡ world.Unknown → ⊥) → IsFaultJudged false can (fault_of_world kind)
world_judged can world.Unknown known = absurd (known refl)
world_judged can world.Memory known = tt

pub not_both : (n k : ℕ) → n ≤ k → k < n → ⊥
not_both n k le lt = omega arith

pub neither : (n k m : ℕ) → k < n → m < n → (n ≤ k) ⊎ (n ≤ m) → ⊥
neither n k m below also (inl le) = not_both n k le below
neither n k m below also (inr le) = not_both n m le also
