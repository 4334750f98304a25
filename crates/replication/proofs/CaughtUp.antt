-- Passes that have copied all make ways from database to database.
use Rattle.std.proofs.Common.{◌≡◌, ◌≤◌, ◌<◌, ⊎_elim, ℕ, true, false, List, [], ◌∷◌, map, Option, Some, None, refl, sym, ap, ◌∙◌, subst, arith}
use Rattle.std.specs.Prelude.{IsTrue, is_some, option_map}
use Rattle.std.specs.List.{AllByRecursion}
use Rattle.std.specs.FinMap.{empty, get, get-empty}
use Rattle.std.specs.Coded.{Coded-set, coded_list, coded_option}
use Rattle.std.proofs.lemmas.Bool.{cases_lt}
use Rattle.std.proofs.Math.Bool.{Bool-set}
use Rattle.std.proofs.Math.Logic.{∥∥₁_elim}
use Rattle.tree.specs.History.{HistoryContent, is_known, is_leaf}
use Rattle.tree.specs.HistoryCode.{held_code}
use Rattle.tree.specs.Revision.{Revision, revision_cmp, revision_code, is_revision}
use Rattle.tree.specs.declared.entry.Entry.{Entry}
use Rattle.tree.proofs.Leaves.{leaf_is_childless}
use Rattle.store.specs.Contents.{Contents}
use Rattle.store.specs.Database.{Database, Document, HasSequences, IsKnownAt, IsLater, history_at, history_in, sequence_at, sequence_in}
use Rattle.node.specs.Runs.{Steps}
use Rattle.repl.specs.Passes.{Pass, first_pass}
use Rattle.passes.specs.Owed.{Covers, has_covered}
use Rattle.world.specs.Network.{Network, Transfer}
use Rattle.replication.specs.Courses.{Course}
use Rattle.replication.specs.Finished.{database_at, scene_of, source_of, target_of}
use Rattle.replication.specs.Runs.{pass_at}
use Rattle.replication.proofs.Keepings.{all_lawful, lawful_at}
use Rattle.replication.proofs.Settlements.{done_has_listed_in_courses, rounds_in_courses}
use Rattle.replication.specs.Agreement.{HaveSameTree}
use Rattle.replication.specs.CaughtUp.{AreCopied, HasCaughtUp, HasCopied, HasUpTo, OnePassCatchesUp, QuietNetworksAgree, QuietRingsAgree, Site, database_at_site}
use Rattle.replication.specs.Groups.{Group}
use Rattle.replication.specs.Ways.{HasAllOf, HaveSameTrees, IsWay}
use Rattle.replication.proofs.Crossings.{known_or_none}
use Rattle.replication.proofs.Groups.{Holds, holds_now}
use Rattle.replication.proofs.Ways.{all_through, rings_meet, way_by, way_through, ways_meet}

-- ---- passes that have copied all

abbrev stay_here : (now : Network Contents) → Course Steps now now
stay_here now = record { stages = []; goes = refl }

source_at : (now : Network Contents) (a b : Site) (from to : ℕ) (h : HasCopied now a b from to) → source_of h.transfer now ≡ database_at_site now a
source_at now a b from to h =
    ap (λ (n : ℕ). database_at now.nodes n h.transfer.pass.configuration.source_db) h.leads.from ∙ ap (λ (l : List ℕ). database_at now.nodes a.place l) h.leads.source

target_at : (now : Network Contents) (a b : Site) (from to : ℕ) (h : HasCopied now a b from to) → target_of h.transfer now ≡ database_at_site now b
target_at now a b from to h =
    ap (λ (n : ℕ). database_at now.nodes n h.transfer.pass.configuration.target_db) h.leads.to ∙ ap (λ (l : List ℕ). database_at now.nodes b.place l) h.leads.target

leaf_copied : (now : Network Contents) (a b : Site) (from to : ℕ) → HasCopied now a b from to → (id : List ℕ) (r : Revision) → IsTrue (is_revision r)
    → IsTrue (is_leaf (history_at (database_at_site now a) id) r) → from < sequence_at (database_at_site now a) id → sequence_at (database_at_site now a) id ≤ to → IsKnownAt (database_at_site now b) id r
leaf_copied now a b from to h id r good leaf above below =
    let t = h.transfer in
    let begun : pass_at h.start.transfers h.number ≡ Some (first_pass t.pass.configuration) =
    ap (λ (o : Option Transfer). option_map (λ (x : Transfer). x.pass) o) h.begins.there ∙ ap (λ (x : Pass). Some x) h.begins.first in
    let listed = (done_has_listed_in_courses h.number t.pass.configuration h.start now h.course h.pass begun h.there h.done).0 in
    let covers : Covers (source_of t now) h.pass.start_seq h.pass.last_seq (scene_of t (source_of t listed.0) now h.pass) =
    (rounds_in_courses h.number t h.start listed.0 now now h.course (stay_here now) h.pass h.pass h.begins h.kept listed.1 h.there (ap has_covered h.done) tt h.there).1 in
    let source = source_at now a b from to h in
    let known = covers id r good
    (subst (λ (x : Database). IsTrue (is_leaf (history_at x id) r)) (sym source) leaf)
    (subst (λ (x : Database). h.pass.start_seq < sequence_at x id) (sym source) (omega (arith, h.first, above)))
    (subst (λ (x : Database). sequence_at x id ≤ h.pass.last_seq) (sym source) (omega (arith, h.last, below))) in
    subst (λ (x : Database). IsKnownAt x id r) (target_at now a b from to h)
    (known_or_none (is_known (history_at (target_of t now) id) r) id r h.pass.refused h.refused known)

-- several passes, one going on where the other ended
leaf_in_all : (now : Network Contents) (a b : Site) (from : ℕ) (ns : List ℕ) → AreCopied now a b from ns → (id : List ℕ) (r : Revision) → IsTrue (is_revision r)
    → IsTrue (is_leaf (history_at (database_at_site now a) id) r) → from < sequence_at (database_at_site now a) id → sequence_at (database_at_site now a) id ≤ (database_at_site now a).length
    → IsKnownAt (database_at_site now b) id r
leaf_in_all now a b from [] h id r good leaf above within = absurd (omega (arith, h, above, within))
leaf_in_all now a b from (n ∷ ns) h id r good leaf above within =
    ⊎_elim (λ further. leaf_in_all now a b n ns h.1 id r good leaf further within) (λ here. leaf_copied now a b from n h.0 id r good leaf above here)
    (cases_lt n (sequence_at (database_at_site now a) id))

-- ---- what was there at first

-- the sequence of a known revision's document
sequenced : (db : Database) → HasSequences db → (id : List ℕ) (r : Revision) → IsKnownAt db id r → (1 ≤ sequence_at db id) × (sequence_at db id ≤ db.length)
sequenced db has id r known = by (get db.documents id) refl known
  where
    by : (o : Option Document) → get db.documents id ≡ o → is_known (history_in o) r ≡ true → (1 ≤ sequence_in (get db.documents id)) × (sequence_in (get db.documents id) ≤ db.length)
    by None is k = absurd (let none : get empty r ≡ None = get-empty {X = Entry} revision_cmp r in let z : false ≡ true = ap is_some (sym none) ∙ k in cc)
    by (Some d) is k = subst (λ (o : Option Document). (1 ≤ sequence_in o) × (sequence_in o ≤ db.length)) (sym is) (has.positive id d is, has.within id d is)

-- what was had at first is had later: a document whose sequence is still so low has not been written since
still_had : (n : ℕ) (a b a_now b_now : Database) → HasUpTo n a b → IsLater a a_now → IsLater b b_now → (id : List ℕ) (r : Revision) → IsTrue (is_leaf (history_at a_now id) r)
    → 1 ≤ sequence_at a_now id → sequence_at a_now id ≤ n → IsKnownAt b_now id r
still_had n a b a_now b_now had later too id r leaf some below =
    let same : get a_now.documents id ≡ get a.documents id = later.unchanged id (omega (arith, had.within, below)) in
    too.known id r
    (had.leaves id r (subst (λ (o : Option Document). IsTrue (is_leaf (history_in o) r)) same leaf) (subst (λ (o : Option Document). 1 ≤ sequence_in o) same some)
    (subst (λ (o : Option Document). sequence_in o ≤ n) same below))

-- ---- a way from database to database

module _ (g : Group) (old now : Network Contents) (h : Holds g old.nodes now) where
  has_all : (a b : Site) → HasCaughtUp g old now a b → HasAllOf (database_at_site now a) (database_at_site now b)
  has_all a b c =
      let source = database_at_site now a in
      let sound = h.sound a.place a.name c.one in
      record {
        one = lawful_at now.nodes a.place a.name h.lawful;
        other = lawful_at now.nodes b.place b.name h.lawful;
        agree = h.agree a.place a.name b.place b.name c.one c.other;
        leaves = λ id r leaf.
            let known = ((leaf_is_childless (history_at source id) r).0 leaf).0 in
            let at = sequenced source sound.sequences id r known in
            ⊎_elim (λ above. leaf_in_all now a b c.first c.ends c.copied id r (sound.writable id r known) leaf above at.1)
            (λ below.
            still_had c.first (database_at_site old a) (database_at_site old b) source (database_at_site now b) c.had (h.later a.place a.name c.one) (h.later b.place b.name c.other) id r leaf at.0 below)
            (cases_lt c.first (sequence_at source id));
      }

  whole_way : (a b : Site) (cs : List Site) → IsWay (HasCaughtUp g old now) a cs b → IsWay HasAllOf (database_at_site now a) (map (database_at_site now) cs) (database_at_site now b)
  whole_way a b cs way =
      way_through (database_at_site now) HasAllOf a b cs (way_by (HasCaughtUp g old now) (λ x y. HasAllOf (database_at_site now x) (database_at_site now y)) has_all a b cs way)

-- trees are the same where lawfulness is only known to be given
same_tree : {A : Type 0} (h k : HistoryContent) → ∥ A ∥₁ → (A → HaveSameTree h k) → HaveSameTree h k
same_tree h k all by = record {
  known = λ r. ∥∥₁_elim all (Bool-set _ _) (λ x. (by x).known r);
  parents = λ r. ∥∥₁_elim all (Coded-set (coded_option revision_code) _ _) (λ x. (by x).parents r);
  leaves = ∥∥₁_elim all (Coded-set (coded_list revision_code) _ _) (λ x. (by x).leaves);
  winner = ∥∥₁_elim all (Coded-set (coded_option revision_code) _ _) (λ x. (by x).winner);
  held = λ r leaf. ∥∥₁_elim all (Coded-set (coded_option held_code) _ _) (λ x. (by x).held r leaf);
}

all_same_trees : {A : Type 0} (now : Network Contents) (a : Site) (ds : List Site) → ∥ A ∥₁ → (A → AllByRecursion (λ d. HaveSameTrees (database_at_site now a) (database_at_site now d)) ds)
    → AllByRecursion (λ d. HaveSameTrees (database_at_site now a) (database_at_site now d)) ds
all_same_trees now a [] all by = tt
all_same_trees now a (d ∷ ds) all by =
    (λ id. same_tree (history_at (database_at_site now a) id) (history_at (database_at_site now d) id) all (λ x. (by x).0 id), all_same_trees now a ds all (λ x. (by x).1))

pub networks_agree : QuietNetworksAgree
networks_agree g ss old now a b there back ready course agreed way home id =
    same_tree (history_at (database_at_site now a) id) (history_at (database_at_site now b) id) (all_lawful old.nodes ready.lawful)
    (λ lawful.
    let h = holds_now g ss old now ready course agreed lawful in
    ways_meet (database_at_site now a) (database_at_site now b) (map (database_at_site now) there) (map (database_at_site now) back) (whole_way g old now h a b there way) (whole_way g old now h b a back home) id)

pub rings_agree : QuietRingsAgree
rings_agree g ss old now a ds ready course agreed way =
    all_same_trees now a ds (all_lawful old.nodes ready.lawful)
    (λ lawful.
    let h = holds_now g ss old now ready course agreed lawful in
    all_through (database_at_site now) (HaveSameTrees (database_at_site now a)) ds (rings_meet (database_at_site now a) (map (database_at_site now) ds) (whole_way g old now h a a ds way)))

pub one_pass : OnePassCatchesUp
one_pass g old now a b one other h = record {
  one = one;
  other = other;
  first = 0;
  had = record { within = omega arith; leaves = λ id r leaf some none. absurd (omega (arith, some, none)) };
  ends = (database_at_site now a).length ∷ [];
  copied = (h, omega arith);
}
