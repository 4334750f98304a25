-- A pass that is started among honest stores begins.
use Rattle.std.proofs.Common.{ℕ, ◌≡◌, ◌≤◌, ◌+◌, List, [], ◌∷◌, ◌++◌, length, Option, None, Some, option_map, add-one, ap, ◌∙◌, zero, suc, refl}
use Rattle.std.specs.Prelude.{IfSome}
use Rattle.std.specs.List.{AllByRecursion}
use Rattle.store.specs.Lawful.{AreLawful}
use Rattle.store.specs.declared.store.Store.{Ghosts}
use Rattle.node.specs.Step.{Serving}
use Rattle.repl.specs.Configuration.{batch_size}
use Rattle.repl.specs.declared.batch.Batch.{Batch}
use Rattle.world.specs.Network.{Transfer, databases_of, transfer_at}
use Rattle.replication.specs.Courses.{CallsArrange}
use Rattle.replication.specs.Finished.{AreAllLawful}
use Rattle.replication.proofs.Places.{got_before, got_last}

-- stores are lawful where each of them is
pub stores_lawful : {S : Type 0} (g : Ghosts S) → ((s : S) → g.is_honest s → ∥ AreLawful (g.contents s) ∥₁) → (nodes : List (Serving S)) → AllByRecursion (λ n. g.is_honest n.store) nodes
    → AreAllLawful (databases_of g nodes)
stores_lawful g lawful [] h = tt
stores_lawful g lawful (n ∷ ns) h = (lawful n.store h.0, stores_lawful g lawful ns h.1)

pub started_there : (ts : List Transfer) (t : Transfer) → transfer_at (ts ++ t ∷ []) (length ts + 1) ≡ Some t
started_there ts t = ap (transfer_at (ts ++ t ∷ [])) (add-one (length ts)) ∙ got_last ts t

-- a batch of the program has 1 to 1,000 changes
pub told_batch : (o : Option Batch) → IfSome (option_map batch_size o) (λ size. (1 ≤ size) × (size ≤ 1000))
told_batch None = tt
told_batch (Some b) = (b.at_least_one, b.at_most_thousand)

still_there : (ts : List Transfer) (u t : Transfer) (m : ℕ) → transfer_at ts m ≡ Some t → transfer_at (ts ++ u ∷ []) m ≡ Some t
still_there ts u t zero e = absurd cc
still_there ts u t (suc k) e = got_before ts (u ∷ []) k t e

pub arranging : {S : Type 0} → CallsArrange S
arranging = record {
  connecting = λ old homes connections. record { nodes = refl; passes = λ m t e. e };
  starting = λ old u. record { nodes = refl; passes = λ m t e. still_there old.transfers u t m e };
}
