-- Nodes go on, and so do those that they left.
use Rattle.std.proofs.Common.{◌≡◌, ◌∙◌, ℕ, zero, suc, ◌<◌, List, [], ◌∷◌, Some, refl, sym, subst}
use Rattle.std.specs.Prelude.{slice_set}
use Rattle.std.specs.List.{slice_get}
use Rattle.std.proofs.lemmas.List.Elements.{AllZip-get_or, length_all_zip}
use Rattle.store.proofs.Calls.{goes_on_itself, goes_on_then}
use Rattle.store.specs.Calls.{GoesOn}
use Rattle.store.specs.declared.store.Store.{Ghosts}
use Rattle.node.specs.Step.{Serving}
use Rattle.world.specs.Network.{AreHonest, NodeGoesOn, NodesGoOn}

node_itself : {S : Type 0} (g : Ghosts S) (n : Serving S) → NodeGoesOn g n n
node_itself g n = record { configuration = refl; store = goes_on_itself g n.store }

node_then : {S : Type 0} (g : Ghosts S) (a b c : Serving S) → NodeGoesOn g a b → NodeGoesOn g b c → NodeGoesOn g a c
node_then g a b c p q = record { configuration = q.configuration ∙ p.configuration; store = goes_on_then g a.store b.store c.store p.store q.store }

pub nodes_themselves : {S : Type 0} (g : Ghosts S) (nodes : List (Serving S)) → NodesGoOn g nodes nodes
nodes_themselves g [] = tt
nodes_themselves g (n ∷ ns) = (node_itself g n, nodes_themselves g ns)

pub nodes_then : {S : Type 0} (g : Ghosts S) (xs ys zs : List (Serving S)) → NodesGoOn g xs ys → NodesGoOn g ys zs → NodesGoOn g xs zs
nodes_then g [] [] zs p q = q
nodes_then g [] (y ∷ ys) zs p q = absurd p
nodes_then g (x ∷ xs) [] zs p q = absurd p
nodes_then g (x ∷ xs) (y ∷ ys) [] p q = absurd q
nodes_then g (x ∷ xs) (y ∷ ys) (z ∷ zs) p q = (node_then g x y z p.0 q.0, nodes_then g xs ys zs p.1 q.1)

set_goes_on : {S : Type 0} (g : Ghosts S) (nodes : List (Serving S)) (place : ℕ) (node next : Serving S) → slice_get nodes place ≡ Some node → NodeGoesOn g node next
    → NodesGoOn g nodes (slice_set nodes place next)
set_goes_on g [] place node next there on = tt
set_goes_on {S} g (n ∷ ns) zero node next there on =
    let same : n ≡ node = cc in (subst (λ (x : Serving S). NodeGoesOn g x next) (sym same) on, nodes_themselves g ns)
set_goes_on g (n ∷ ns) (suc k) node next there on = (node_itself g n, set_goes_on g ns k node next there on)

-- one node goes on, among others that stay as they are
pub one_goes_on : {S : Type 0} (g : Ghosts S) (nodes new : List (Serving S)) (place : ℕ) (node next : Serving S) → slice_get nodes place ≡ Some node → new ≡ slice_set nodes place next
    → next.configuration ≡ node.configuration → GoesOn g node.store next.store → NodesGoOn g nodes new
one_goes_on g nodes new place node next there left same onward =
    subst (NodesGoOn g nodes) (sym left) (set_goes_on g nodes place node next there (record { configuration = same; store = onward }))

-- what is honest now was so before
pub honest_before : {S : Type 0} (g : Ghosts S) (old new : List (Serving S)) → NodesGoOn g old new → AreHonest g new → AreHonest g old
honest_before g old new on honest k d inside =
    (AllZip-get_or (NodeGoesOn g) old new k d d on inside).store.honest (honest k d (subst (λ n. k < n) (length_all_zip (NodeGoesOn g) old new on) inside))
