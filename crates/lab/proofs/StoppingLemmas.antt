-- What a script has named, as its lines are played.
use Rattle.std.proofs.Common.{ℕ, suc, ◌≡◌, ◌∙◌, ◌+◌, ◌<◌, ◌++◌, Bool, true, false, not, ◌&&◌, ◌||◌, cond, List, [], ◌∷◌, Option, Some, ap, sym, subst, refl, arith, bytes_eq, length, map}
use Rattle.std.proofs.lemmas.List.{length-map, map-append}
use Rattle.std.specs.Prelude.{is_some, option_and_then}
use Rattle.std.specs.FinMap.{empty, get, insert}
use Rattle.auth.specs.Callers.{Configuration}
use Rattle.store.specs.Contents.{Contents}
use Rattle.store.specs.declared.store.Store.{Ghosts}
use Rattle.world.specs.Network.{Network}
use Rattle.lab.specs.Naming.{NamedValue, numbers_from, value_named, with_named}
use Rattle.lab.specs.PassLines.{PassWords}
use Rattle.lab.specs.Scene.{AddsDatabase, AddsNode, Closes, NamedNetwork, Opens, Plays, Scene, Sends, Starts, TakesTurn, first_network, laying, open_database, running}
use Rattle.lab.specs.Script.{ScriptLine, node_line, public_line, conn_line, send_line, close_line, repl_line, turn_line}
use Rattle.lab.specs.declared.turn.Turn.{Turn}
use Rattle.lab.specs.declared.turn.Turn.TheVariants.{Step, Lose, Unsent, Run}
use Rattle.lab.specs.Stopping.{HasNodes, ScriptNames, all_names, can_add, can_be_played, can_open, can_start, has_database_in, has_node, is_among, names_after, names_in, stores_database, with_database}

-- ---- names

named_or_later : {A : Type 0} (b : Bool) (value : A) (later : Option A) (rest : Bool) → is_some later ≡ rest → is_some (cond b (Some value) later) ≡ (b || rest)
named_or_later true value later rest p = refl
named_or_later false value later rest p = p

-- a name has a value where it is one of the names
pub value_named-among : {A : Type 0} (name : List ℕ) (es : List (NamedValue A)) → is_some (value_named name es) ≡ is_among name (all_names es)
value_named-among name [] = refl
value_named-among name (e ∷ es) = named_or_later (bytes_eq name e.name) e.value (value_named name es) (is_among name (all_names es)) (value_named-among name es)

pub all_names-map : {A B : Type 0} (f : A → B) (es : List (NamedValue A)) → all_names (map (λ n. record { name = n.name; value = f n.value }) es) ≡ all_names es
all_names-map f [] = refl
all_names-map f (e ∷ es) = ap (λ (ns : List (List ℕ)). e.name ∷ ns) (all_names-map f es)

pub all_names-push : {A : Type 0} (es : List (NamedValue A)) (e : NamedValue A) → all_names (es ++ e ∷ []) ≡ all_names es ++ e.name ∷ []
all_names-push es e = map-append (λ (n : NamedValue _). n.name) es (e ∷ [])

all_names-numbers : {A : Type 0} (n : ℕ) (es : List (NamedValue A)) → all_names (numbers_from n es) ≡ all_names es
all_names-numbers n [] = refl
all_names-numbers n (e ∷ es) = ap (λ (ns : List (List ℕ)). e.name ∷ ns) (all_names-numbers (n + 1) es)

same_head : (b : Bool) (e : NamedValue Contents) (value : Contents) (es later : List (NamedValue Contents)) → all_names later ≡ all_names es
    → all_names (cond b (record e { value = value } ∷ es) (e ∷ later)) ≡ all_names (e ∷ es)
same_head true e value es later p = refl
same_head false e value es later p = ap (λ (ns : List (List ℕ)). e.name ∷ ns) p

all_names-database : (node name : List ℕ) (es : List (NamedValue Contents)) → all_names (with_database node name es) ≡ all_names es
all_names-database node name [] = refl
all_names-database node name (e ∷ es) =
    same_head (bytes_eq node e.name) e (insert e.value name open_database) es (with_database node name es) (all_names-database node name es)

-- ---- databases

module _ {S : Type 0} (g : Ghosts S) where
  -- the databases of the nodes
  abbrev databases : List (NamedValue S) → List (NamedValue Contents)
  databases nodes = map (λ n. record { name = n.name; value = g.contents n.value }) nodes

  there_or_later : (b : Bool) (name : List ℕ) (s : S) (later : Option S) (rest : Bool) → is_some (option_and_then (λ (x : S). get (g.contents x) name) later) ≡ rest
      → is_some (option_and_then (λ (x : S). get (g.contents x) name) (cond b (Some s) later)) ≡ cond b (is_some (get (g.contents s) name)) rest
  there_or_later true name s later rest p = refl
  there_or_later false name s later rest p = p

  stores_database-is : (nodes : List (NamedValue S)) (node name : List ℕ) → stores_database g nodes node name ≡ has_database_in (databases nodes) node name
  stores_database-is [] node name = refl
  stores_database-is (e ∷ es) node name =
      there_or_later (bytes_eq node e.name) name e.value (value_named node es) (has_database_in (databases es) node name) (stores_database-is es node name)

  changed_or_later : (b : Bool) (node name : List ℕ) (e : NamedValue S) (es : List (NamedValue S)) (old new : S) → g.contents new ≡ insert (g.contents old) name open_database
      → (value_named node es ≡ Some old → databases (with_named node new es) ≡ with_database node name (databases es))
      → cond b (Some e.value) (value_named node es) ≡ Some old
      → databases (cond b (record e { value = new } ∷ es) (e ∷ with_named node new es))
      ≡ cond b (record { name = e.name; value = insert (g.contents e.value) name open_database } ∷ databases es)
      (record { name = e.name; value = g.contents e.value } ∷ with_database node name (databases es))
  changed_or_later true node name e es old new is later p =
      let same : e.value ≡ old = cc in
      let now : g.contents new ≡ insert (g.contents e.value) name open_database = is ∙ ap (λ (s : S). insert (g.contents s) name open_database) (sym same) in
      ap (λ (v : Contents). record { name = e.name; value = v } ∷ databases es) now
  changed_or_later false node name e es old new is later p =
      ap (λ (rest : List (NamedValue Contents)). record { name = e.name; value = g.contents e.value } ∷ rest) (later p)

  databases-changed : (nodes : List (NamedValue S)) (node name : List ℕ) (old new : S) → g.contents new ≡ insert (g.contents old) name open_database → value_named node nodes ≡ Some old
      → databases (with_named node new nodes) ≡ with_database node name (databases nodes)
  databases-changed [] node name old new is p = absurd cc
  databases-changed (e ∷ es) node name old new is p =
      changed_or_later (bytes_eq node e.name) node name e es old new is (databases-changed es node name old new is) p

-- ---- scripts that have named the same

pub record AreSameNames (a b : ScriptNames) : Type 0 where
  pub nodes : all_names a.nodes ≡ all_names b.nodes
  pub connections : a.connections ≡ b.connections
  pub passes : a.passes ≡ b.passes
  pub begun : a.has_begun ≡ b.has_begun
  -- before the first connection or pass
  pub databases : a.has_begun ≡ false → a.nodes ≡ b.nodes

pub same_themselves : (a : ScriptNames) → AreSameNames a a
same_themselves a = record { nodes = refl; connections = refl; passes = refl; begun = refl; databases = λ is. refl }

pub same_then : (a b c : ScriptNames) → AreSameNames a b → AreSameNames b c → AreSameNames a c
same_then a b c p q = record {
  nodes = p.nodes ∙ q.nodes;
  connections = p.connections ∙ q.connections;
  passes = p.passes ∙ q.passes;
  begun = p.begun ∙ q.begun;
  databases = λ is. p.databases is ∙ q.databases (sym p.begun ∙ is);
}

both_too_late : (x y : Bool) (p q : Bool) → x ≡ y → (x ≡ false → p ≡ q) → (not x && p) ≡ (not y && q)
both_too_late true true p q e same = refl
both_too_late true false p q e same = absurd cc
both_too_late false true p q e same = absurd cc
both_too_late false false p q e same = same refl

-- the same lines can be played behind them
pub same_playable : (a b : ScriptNames) (line : ScriptLine) → AreSameNames a b → can_be_played a line ≡ can_be_played b line
same_playable a b (node_line name) p =
    both_too_late a.has_begun b.has_begun _ _ p.begun (λ is. ap (λ (ns : List (List ℕ)). not (is_among name ns)) p.nodes)
same_playable a b (public_line node name) p =
    both_too_late a.has_begun b.has_begun _ _ p.begun
    (λ is. ap (λ (nodes : List (NamedValue Contents)). is_among node (all_names nodes) && not (has_database_in nodes node name)) (p.databases is))
same_playable a b (conn_line node name) p =
    ap (λ (ns : List (List ℕ)). is_among node ns && not (is_among name a.connections)) p.nodes
    ∙ ap (λ (cs : List (List ℕ)). is_among node (all_names b.nodes) && not (is_among name cs)) p.connections
same_playable a b (send_line name bytes) p = ap (is_among name) p.connections
same_playable a b (close_line name) p = ap (is_among name) p.connections
same_playable a b (repl_line words) p =
    ap (λ (ns : List (List ℕ)). is_among words.source.node ns && (is_among words.target.node ns && not (is_among words.name a.passes))) p.nodes
    ∙ ap (λ (ps : List (List ℕ)). is_among words.source.node (all_names b.nodes) && (is_among words.target.node (all_names b.nodes) && not (is_among words.name ps))) p.passes
same_playable a b (turn_line turn name) p = ap (is_among name) p.passes

-- and name the same then
pub same_after : (a b : ScriptNames) (line : ScriptLine) → AreSameNames a b → AreSameNames (names_after a line) (names_after b line)
same_after a b (node_line name) p =
    let e : NamedValue Contents = record { name = name; value = empty } in record {
      nodes = all_names-push a.nodes e ∙ ap (λ (ns : List (List ℕ)). ns ++ name ∷ []) p.nodes ∙ sym (all_names-push b.nodes e);
      connections = p.connections;
      passes = p.passes;
      begun = p.begun;
      databases = λ is. ap (λ (ns : List (NamedValue Contents)). ns ++ e ∷ []) (p.databases is);
    }
same_after a b (public_line node name) p = record {
  nodes = all_names-database node name a.nodes ∙ p.nodes ∙ sym (all_names-database node name b.nodes);
  connections = p.connections;
  passes = p.passes;
  begun = p.begun;
  databases = λ is. ap (with_database node name) (p.databases is);
}
same_after a b (conn_line node name) p = record {
  nodes = p.nodes;
  connections = ap (λ (cs : List (List ℕ)). cs ++ name ∷ []) p.connections;
  passes = p.passes;
  begun = refl;
  databases = λ is. absurd cc;
}
same_after a b (send_line name bytes) p = p
same_after a b (close_line name) p = p
same_after a b (repl_line words) p = record {
  nodes = p.nodes;
  connections = p.connections;
  passes = ap (λ (ps : List (List ℕ)). ps ++ words.name ∷ []) p.passes;
  begun = refl;
  databases = λ is. absurd cc;
}
same_after a b (turn_line turn name) p = p

-- ---- whether a line can be played, by its kind

module _ {S : Type 0} (g : Ghosts S) where
  pub can_add_node : (nodes : List (NamedValue S)) (name : List ℕ) → can_be_played (names_in g (laying nodes)) (node_line name) ≡ not (is_some (value_named name nodes))
  can_add_node nodes name = ap not (ap (is_among name) (all_names-map g.contents nodes) ∙ sym (value_named-among name nodes))

  pub can_add_database : (nodes : List (NamedValue S)) (node name : List ℕ) → can_be_played (names_in g (laying nodes)) (public_line node name) ≡ can_add g nodes node name
  can_add_database nodes node name =
      ap (λ (b : Bool). b && not (has_database_in (databases g nodes) node name)) (ap (is_among node) (all_names-map g.contents nodes) ∙ sym (value_named-among node nodes))
      ∙ ap (λ (b : Bool). is_some (value_named node nodes) && not b) (sym (stores_database-is g nodes node name))

-- what a script has named is what these names are
pub record AreNames {S : Type 0} (m : ScriptNames) (names : NamedNetwork S) : Type 0 where
  pub nodes : all_names m.nodes ≡ all_names names.nodes
  pub connections : m.connections ≡ all_names names.connections
  pub passes : m.passes ≡ all_names names.passes

pub names_running : {S : Type 0} (g : Ghosts S) (names : NamedNetwork S) → AreNames (names_in g (running names)) names
names_running g names = record { nodes = all_names-map (λ (n : ℕ). empty) names.nodes; connections = refl; passes = refl }

pub names_first : {S : Type 0} (g : Ghosts S) (c : Configuration) (nodes : List (NamedValue S)) → AreNames (names_in g (laying nodes)) (first_network c nodes)
names_first g c nodes = record { nodes = all_names-map g.contents nodes ∙ sym (all_names-numbers 0 nodes); connections = refl; passes = refl }

module _ {S : Type 0} (m : ScriptNames) (names : NamedNetwork S) (p : AreNames m names) where
  has_node-is : (node : List ℕ) → has_node m node ≡ is_some (value_named node names.nodes)
  has_node-is node = ap (is_among node) p.nodes ∙ sym (value_named-among node names.nodes)

  has_connection-is : (name : List ℕ) → is_among name m.connections ≡ is_some (value_named name names.connections)
  has_connection-is name = ap (is_among name) p.connections ∙ sym (value_named-among name names.connections)

  has_pass-is : (name : List ℕ) → is_among name m.passes ≡ is_some (value_named name names.passes)
  has_pass-is name = ap (is_among name) p.passes ∙ sym (value_named-among name names.passes)

  pub can_open-is : (node name : List ℕ) → can_be_played m (conn_line node name) ≡ can_open names node name
  can_open-is node name =
      ap (λ (b : Bool). b && not (is_among name m.connections)) (has_node-is node)
      ∙ ap (λ (b : Bool). is_some (value_named node names.nodes) && not b) (has_connection-is name)

  pub can_start-is : (words : PassWords) → can_be_played m (repl_line words) ≡ can_start names words
  can_start-is words =
      ap (λ (b : Bool). b && (has_node m words.target.node && not (is_among words.name m.passes))) (has_node-is words.source.node)
      ∙ ap (λ (b : Bool). is_some (value_named words.source.node names.nodes) && (b && not (is_among words.name m.passes))) (has_node-is words.target.node)
      ∙ ap (λ (b : Bool). is_some (value_named words.source.node names.nodes) && (is_some (value_named words.target.node names.nodes) && not b)) (has_pass-is words.name)

  pub can_send-is : (name bytes : List ℕ) → can_be_played m (send_line name bytes) ≡ is_some (value_named name names.connections)
  can_send-is name bytes = has_connection-is name

  pub can_close-is : (name : List ℕ) → can_be_played m (close_line name) ≡ is_some (value_named name names.connections)
  can_close-is name = has_connection-is name

  pub can_turn-is : (turn : Turn) (name : List ℕ) → can_be_played m (turn_line turn name) ≡ is_some (value_named name names.passes)
  can_turn-is turn name = has_pass-is name

-- ---- a line that is played can be, and it names what it says

pub record IsFollowed {S : Type 0} (g : Ghosts S) (m : ScriptNames) (line : ScriptLine) (after : Scene S) : Type 0 where
  pub can : can_be_played m line ≡ true
  pub names : AreSameNames (names_after m line) (names_in g after)

same_laid : (xs ys : List (NamedValue Contents)) → xs ≡ ys
    → AreSameNames (record { nodes = xs; connections = []; passes = []; has_begun = false }) (record { nodes = ys; connections = []; passes = []; has_begun = false })
same_laid xs ys e = record { nodes = ap all_names e; connections = refl; passes = refl; begun = refl; databases = λ is. e }

follows_node : {S : Type 0} (g : Ghosts S) (nodes then : List (NamedValue S)) (name : List ℕ) → AddsNode g nodes name then → IsFollowed g (names_in g (laying nodes)) (node_line name) (laying then)
follows_node {S} g nodes then name p =
    let added = p.1 in
    let f = λ (n : NamedValue S). let made : NamedValue Contents = record { name = n.name; value = g.contents n.value } in made in
    record {
      can = can_add_node g nodes name ∙ ap (λ (o : Option S). not (is_some o)) p.0;
      names = same_laid _ _ (sym (ap (map f) added.2 ∙ map-append f nodes (record { name = name; value = added.0 } ∷ [])
          ∙ ap (λ (v : Contents). map f nodes ++ record { name = name; value = v } ∷ []) added.1));
    }

follows_database : {S : Type 0} (g : Ghosts S) (nodes then : List (NamedValue S)) (node name : List ℕ) → AddsDatabase g nodes node name then
    → IsFollowed g (names_in g (laying nodes)) (public_line node name) (laying then)
follows_database {S} g nodes then node name p =
    let there = p.1 in
    let changed = p.2 in
    let absent = changed.1.0 in
    record {
      can = can_add_database g nodes node name ∙ (rw (there, absent) refl);
      names = same_laid _ _ (sym (ap (databases g) changed.2 ∙ databases-changed g nodes node name p.0 changed.0 changed.1.1 there));
    }

follows_open : {S : Type 0} (g : Ghosts S) (m : ScriptNames) (before after : NamedNetwork S) (node name : List ℕ) → AreNames m before → Opens before node name after
    → IsFollowed g m (conn_line node name) (running after)
follows_open {S} g m before after node name p q =
    let new = q.0 in
    let there = q.1.1 in
    let left = q.1.2 in
    record {
      can = can_open-is m before p node name ∙ (rw (new, there) refl);
      names = record {
        nodes = p.nodes ∙ ap (λ (n : NamedNetwork S). all_names n.nodes) (sym left) ∙ sym (all_names-map (λ (n : ℕ). empty) after.nodes);
        connections = ap (λ (cs : List (List ℕ)). cs ++ name ∷ []) p.connections ∙ sym (all_names-push before.connections _)
            ∙ ap (λ (n : NamedNetwork S). all_names n.connections) (sym left);
        passes = p.passes ∙ ap (λ (n : NamedNetwork S). all_names n.passes) (sym left);
        begun = refl;
        databases = λ is. absurd cc;
      };
    }

follows_start : {S : Type 0} (g : Ghosts S) (c : Configuration) (m : ScriptNames) (before after : NamedNetwork S) (words : PassWords) → AreNames m before → Starts c before words after
    → IsFollowed g m (repl_line words) (running after)
follows_start {S} g c m before after words p q =
    let new = q.0 in
    let source = q.1.2 in
    let target = q.1.3 in
    let left = q.1.4 in
    record {
      can = can_start-is m before p words ∙ (rw (source, target, new) refl);
      names = record {
        nodes = p.nodes ∙ ap (λ (n : NamedNetwork S). all_names n.nodes) (sym left) ∙ sym (all_names-map (λ (n : ℕ). empty) after.nodes);
        connections = p.connections ∙ ap (λ (n : NamedNetwork S). all_names n.connections) (sym left);
        passes = ap (λ (ps : List (List ℕ)). ps ++ words.name ∷ []) p.passes ∙ sym (all_names-push before.passes _)
            ∙ ap (λ (n : NamedNetwork S). all_names n.passes) (sym left);
        begun = refl;
        databases = λ is. absurd cc;
      };
    }

-- the network alone has changed
same_network : {S : Type 0} (g : Ghosts S) (before after : NamedNetwork S) (network : Network S) → after ≡ record before { network = network }
    → AreSameNames (names_in g (running before)) (names_in g (running after))
same_network {S} g before after network left =
    subst (λ (n : NamedNetwork S). AreSameNames (names_in g (running before)) (names_in g (running n))) (sym left) (same_themselves (names_in g (running before)))

follows_send : {S : Type 0} (g : Ghosts S) (before after : NamedNetwork S) (name bytes printed : List ℕ) → Sends g before name bytes printed after
    → IsFollowed g (names_in g (running before)) (send_line name bytes) (running after)
follows_send g before after name bytes printed q = record {
  can = can_send-is (names_in g (running before)) before (names_running g before) name bytes ∙ ap is_some q.1;
  names = same_network g before after q.2.0 q.2.2;
}

follows_close : {S : Type 0} (g : Ghosts S) (before after : NamedNetwork S) (name : List ℕ) → Closes before name after
    → IsFollowed g (names_in g (running before)) (close_line name) (running after)
follows_close g before after name q = record {
  can = can_close-is (names_in g (running before)) before (names_running g before) name ∙ ap is_some q.1;
  names = same_network g before after _ q.2;
}

follows_turn : {S : Type 0} (g : Ghosts S) (turn : Turn) (before after : NamedNetwork S) (name printed : List ℕ) → TakesTurn g turn before name printed after
    → IsFollowed g (names_in g (running before)) (turn_line turn name) (running after)
follows_turn g Step before after name printed q = record {
  can = can_turn-is (names_in g (running before)) before (names_running g before) Step name ∙ ap is_some q.1;
  names = same_network g before after q.2.1 q.2.3;
}
follows_turn g Lose before after name printed q = record {
  can = can_turn-is (names_in g (running before)) before (names_running g before) Lose name ∙ ap is_some q.1;
  names = same_network g before after q.2.1 q.2.3;
}
follows_turn g Unsent before after name printed q = record {
  can = can_turn-is (names_in g (running before)) before (names_running g before) Unsent name ∙ ap is_some q.1;
  names = same_network g before after q.2.1 q.2.3;
}
follows_turn g Run before after name printed q = record {
  can = can_turn-is (names_in g (running before)) before (names_running g before) Run name ∙ ap is_some q.1;
  names = same_network g before after q.2.0 q.2.2;
}

followed_as : {S : Type 0} (g : Ghosts S) (m : ScriptNames) (line : ScriptLine) (after then : Scene S) → after ≡ then → IsFollowed g m line then → IsFollowed g m line after
followed_as {S} g m line after then e p = subst (λ (s : Scene S). IsFollowed g m line s) (sym e) p

pub plays_names : {S : Type 0} (g : Ghosts S) (c : Configuration) (before after : Scene S) (line : ScriptLine) (printed : List ℕ) → Plays g c before line printed after
    → IsFollowed g (names_in g before) line after
plays_names g c (laying nodes) after (node_line name) printed p = followed_as g _ _ after _ p.1.2 (follows_node g nodes p.1.0 name p.1.1)
plays_names g c (laying nodes) after (public_line node name) printed p = followed_as g _ _ after _ p.1.2 (follows_database g nodes p.1.0 node name p.1.1)
plays_names g c (laying nodes) after (conn_line node name) printed p =
    followed_as g _ _ after _ p.1.2 (follows_open g (names_in g (laying nodes)) (first_network c nodes) p.1.0 node name (names_first g c nodes) p.1.1)
plays_names g c (laying nodes) after (repl_line words) printed p =
    followed_as g _ _ after _ p.1.2 (follows_start g c (names_in g (laying nodes)) (first_network c nodes) p.1.0 words (names_first g c nodes) p.1.1)
plays_names g c (laying nodes) after (send_line name bytes) printed p = absurd p
plays_names g c (laying nodes) after (close_line name) printed p = absurd p
plays_names g c (laying nodes) after (turn_line turn name) printed p = absurd p
plays_names g c (running names) after (node_line name) printed p = absurd p
plays_names g c (running names) after (public_line node name) printed p = absurd p
plays_names g c (running names) after (conn_line node name) printed p =
    followed_as g _ _ after _ p.1.2 (follows_open g (names_in g (running names)) names p.1.0 node name (names_running g names) p.1.1)
plays_names g c (running names) after (repl_line words) printed p =
    followed_as g _ _ after _ p.1.2 (follows_start g c (names_in g (running names)) names p.1.0 words (names_running g names) p.1.1)
plays_names g c (running names) after (send_line name bytes) printed p = followed_as g _ _ after _ p.2 (follows_send g names p.0 name bytes printed p.1)
plays_names g c (running names) after (close_line name) printed p = followed_as g _ _ after _ p.1.2 (follows_close g names p.1.0 name p.1.1)
plays_names g c (running names) after (turn_line turn name) printed p = followed_as g _ _ after _ p.2 (follows_turn g turn names p.0 name printed p.1)

-- ---- the numbers of nodes

below_or_later : {A : Type 0} (b : Bool) (name : List ℕ) (n k : ℕ) (es : List (NamedValue A)) → (value_named name (numbers_from (n + 1) es) ≡ Some k → k < n + 1 + length es)
    → cond b (Some n) (value_named name (numbers_from (n + 1) es)) ≡ Some k → k < n + suc (length es)
below_or_later true name n k es later p = let same : n ≡ k = cc in omega (arith, same)
below_or_later false name n k es later p = omega (arith, later p)

numbers_below : {A : Type 0} (name : List ℕ) (n k : ℕ) (es : List (NamedValue A)) → value_named name (numbers_from n es) ≡ Some k → k < n + length es
numbers_below name n k [] p = absurd cc
numbers_below name n k (e ∷ es) p = below_or_later (bytes_eq name e.name) name n k es (numbers_below name (n + 1) k es) p

pub first_has_nodes : {S : Type 0} (c : Configuration) (nodes : List (NamedValue S)) → HasNodes (first_network c nodes)
first_has_nodes c nodes = λ name number at. let below = numbers_below name 0 number nodes at in simp length-map (omega (arith, below))

pub has_nodes_kept : {S : Type 0} (before after : NamedNetwork S) → after.nodes ≡ before.nodes → length after.network.nodes ≡ length before.network.nodes → HasNodes before → HasNodes after
has_nodes_kept before after same many p = λ name number at.
    let inside = p name number (subst (λ (ns : List (NamedValue ℕ)). value_named name ns ≡ Some number) same at) in
    subst (λ (n : ℕ). number < n) (sym many) inside

pub opens_has_nodes : {S : Type 0} (before after : NamedNetwork S) (node name : List ℕ) → Opens before node name after → HasNodes before → HasNodes after
opens_has_nodes {S} before after node name q p =
    has_nodes_kept before after (ap (λ (n : NamedNetwork S). n.nodes) q.1.2) (ap (λ (n : NamedNetwork S). length n.network.nodes) q.1.2) p

pub starts_has_nodes : {S : Type 0} (c : Configuration) (before after : NamedNetwork S) (words : PassWords) → Starts c before words after → HasNodes before → HasNodes after
starts_has_nodes {S} c before after words q p =
    has_nodes_kept before after (ap (λ (n : NamedNetwork S). n.nodes) q.1.4) (ap (λ (n : NamedNetwork S). length n.network.nodes) q.1.4) p

pub closes_has_nodes : {S : Type 0} (before after : NamedNetwork S) (name : List ℕ) → Closes before name after → HasNodes before → HasNodes after
closes_has_nodes {S} before after name q p =
    has_nodes_kept before after (ap (λ (n : NamedNetwork S). n.nodes) q.2) (ap (λ (n : NamedNetwork S). length n.network.nodes) q.2) p

pub sends_nodes : {S : Type 0} (g : Ghosts S) (before after : NamedNetwork S) (name bytes printed : List ℕ) → Sends g before name bytes printed after → after.nodes ≡ before.nodes
sends_nodes {S} g before after name bytes printed q = ap (λ (n : NamedNetwork S). n.nodes) q.2.2

pub turns_nodes : {S : Type 0} (g : Ghosts S) (turn : Turn) (before after : NamedNetwork S) (name printed : List ℕ) → TakesTurn g turn before name printed after → after.nodes ≡ before.nodes
turns_nodes {S} g Step before after name printed q = ap (λ (n : NamedNetwork S). n.nodes) q.2.3
turns_nodes {S} g Lose before after name printed q = ap (λ (n : NamedNetwork S). n.nodes) q.2.3
turns_nodes {S} g Unsent before after name printed q = ap (λ (n : NamedNetwork S). n.nodes) q.2.3
turns_nodes {S} g Run before after name printed q = ap (λ (n : NamedNetwork S). n.nodes) q.2.2
