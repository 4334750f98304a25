-- What is known of the marks of documents, as they are put in one after another.
use Rattle.std.proofs.Common.{◌≡◌, ℕ, List, [], ◌∷◌, ◌++◌, Bool, true, false, cond, Option, None, Some, map, refl, sym, ap, ap₂, subst, ◌∙◌}
use Rattle.std.specs.Prelude.{bytes_eq, ◌||◌}
use Rattle.std.proofs.lemmas.Cmp.{nat_list_cmp_total}
use Rattle.std.specs.BTreeMap.{BTreeMap, IsEmpty, get, is_at}
use Rattle.std.specs.Cmp.Lexicographic.{slice_cmp}
use Rattle.std.specs.FinMap as finite
use Rattle.std.specs.List.{list_any}
use Rattle.std.specs.Map.{lookup}
use Rattle.std.specs.Ordering.{is_eq, nat_cmp}
use Rattle.std.proofs.lemmas.Map.Text.{is_eq-slice_cmp}
use Rattle.std.proofs.lemmas.Slice.Eq.{bytes_eq-Decides}
use Rattle.store.specs.Database.{Database, Document, TextMap, with_all, with_one}
use Rattle.store.specs.Pages.{is_gone}
use Rattle.store.specs.Writing.{Addition, writings_in, written_at}
use Rattle.tables.proofs.RowMaps.{mapped_some, text_exact, text_tests}
use Rattle.sqlstore.specs.inner.Marks.{AreChanges, AreMarks, KeepsElsewhere, mark_of}
use Rattle.sqlstore.specs.declared.marked.Marked.{Marked}

abbrev Marks : Type 0
Marks = BTreeMap (List ℕ) (Option Bool)

-- an empty map has no mark
pub none_marked : (m : Marks) (documents : TextMap Document) → IsEmpty m → AreMarks m documents
none_marked m documents empty id mark is =
    let gone : get (slice_cmp nat_cmp) m id ≡ None = ap (lookup (is_at (slice_cmp nat_cmp id))) empty in
    let apart : ◌≡◌ {A = Option (Option Bool)} None (Some mark) = sym gone ∙ is in
    absurd (cc)

-- the mark of one document was put in, where others have what they had
module _ (m n : Marks) (old new : TextMap Document) (id : List ℕ) (mark : Option Bool) (put : (q : List ℕ) → get (slice_cmp nat_cmp) n q ≡ cond (is_eq (slice_cmp nat_cmp id q)) (Some mark) (get (slice_cmp nat_cmp) m q)) where
  pub marks_put : AreMarks m old → mark ≡ mark_of (finite.get new id) → ((q : List ℕ) → is_eq (slice_cmp nat_cmp id q) ≡ false → finite.get new q ≡ finite.get old q) → AreMarks n new
  marks_put marks here others q k is = go (is_eq (slice_cmp nat_cmp id q)) refl (sym (put q) ∙ is)
    where
      go : (b : Bool) → is_eq (slice_cmp nat_cmp id q) ≡ b → cond b (Some mark) (get (slice_cmp nat_cmp) m q) ≡ Some k → k ≡ mark_of (finite.get new q)
      go true same found =
          let it : mark ≡ k = cc in
          sym it ∙ here ∙ ap (λ x. mark_of (finite.get new x)) ((bytes_eq-Decides id q).0 (sym (is_eq-slice_cmp id q) ∙ same))
      go false apart found = marks q k found ∙ ap mark_of (sym (others q apart))

-- one change more
pub changes_push : (cs : List Marked) (c : Marked) (old mid : TextMap Document) (d : Document) → AreChanges cs old mid → c.was ≡ mark_of (finite.get mid c.id) → c.is ≡ is_gone d.history
    → AreChanges (cs ++ c ∷ []) old (finite.insert mid c.id d)
changes_push [] c old mid d done was is = (d, was ∙ ap (λ (m : TextMap Document). mark_of (finite.get m c.id)) (sym done), is, ap (λ (m : TextMap Document). finite.insert m c.id d) done)
changes_push (k ∷ cs) c old mid d done was is = (done.0, done.1, done.2, changes_push cs c (finite.insert old k.id done.0) mid d done.3 was is)

-- ---- the documents of some ids are those of others already

-- the documents of these ids are those of the others, and all the rest are as they were
abbrev pub IsMixed : List (List ℕ) → TextMap Document → TextMap Document → TextMap Document → Type 0
IsMixed ids old others mid = (id : List ℕ) → finite.get mid id ≡ cond (list_any (λ k. bytes_eq k id) ids) (finite.get others id) (finite.get old id)

either : {A : Type 0} (a b : Bool) (x y z : A) → (b ≡ true → z ≡ x) → cond b z (cond a x y) ≡ cond (a || b) x y
either true true x y z is = is refl
either true false x y z is = refl
either false true x y z is = is refl
either false false x y z is = refl

any_push : (q : List ℕ) (ids : List (List ℕ)) (id : List ℕ) → list_any (λ k. bytes_eq k q) (ids ++ id ∷ []) ≡ (list_any (λ k. bytes_eq k q) ids || bytes_eq id q)
any_push q [] id = falsely (bytes_eq id q)
  where
    falsely : (b : Bool) → (b || false) ≡ (false || b)
    falsely true = refl
    falsely false = refl
any_push q (k ∷ ids) id = ap (λ b. bytes_eq k q || b) (any_push q ids id) ∙ grouped (bytes_eq k q) _ _
  where
    grouped : (a b c : Bool) → (a || (b || c)) ≡ ((a || b) || c)
    grouped true b c = refl
    grouped false b c = refl

-- one more of them
pub mixed_push : (ids : List (List ℕ)) (id : List ℕ) (old others mid : TextMap Document) (d : Document) → finite.get others id ≡ Some d → IsMixed ids old others mid → IsMixed (ids ++ id ∷ []) old others (finite.insert mid id d)
mixed_push ids id old others mid d there mixed q =
    finite.get-insert nat_list_cmp_total mid id d q
    ∙ ap₂ (λ b o. cond b (Some d) o) (text_tests (λ k. k) q id) (mixed q)
    ∙ either (list_any (λ k. bytes_eq k q) ids) (bytes_eq id q) (finite.get others q) (finite.get old q) (Some d) (λ same. sym there ∙ ap (finite.get others) ((bytes_eq-Decides id q).0 same))
    ∙ ap (λ b. cond b (finite.get others q) (finite.get old q)) (sym (any_push q ids id))

-- all of them
pub mixed_all : (ids : List (List ℕ)) (old new mid : TextMap Document) → KeepsElsewhere ids old new → IsMixed ids old new mid → mid ≡ new
mixed_all ids old new mid keeps mixed = finite.same_map nat_list_cmp_total text_exact mid new (λ q. mixed q ∙ by q (list_any (λ k. bytes_eq k q) ids) refl)
  where
    by : (q : List ℕ) (b : Bool) → list_any (λ k. bytes_eq k q) ids ≡ b → cond b (finite.get new q) (finite.get old q) ≡ finite.get new q
    by q true is = refl
    by q false is = sym (keeps q is)

-- none of them yet
pub mixed_none : (old others : TextMap Document) → IsMixed [] old others old
mixed_none old others q = refl

-- a change of one document, whose mark is put in
module _ (m n : Marks) (ids : List (List ℕ)) (cs : List Marked) (c : Marked) (old others mid : TextMap Document)
    (put : (q : List ℕ) → get (slice_cmp nat_cmp) n q ≡ cond (is_eq (slice_cmp nat_cmp c.id q)) (Some (Some c.is)) (get (slice_cmp nat_cmp) m q)) where
  pub changed_push : get (slice_cmp nat_cmp) m c.id ≡ Some c.was → mark_of (finite.get others c.id) ≡ Some c.is → AreChanges cs old mid → AreMarks m mid → IsMixed ids old others mid
      → (next : TextMap Document) × AreChanges (cs ++ c ∷ []) old next × AreMarks n next × IsMixed (ids ++ c.id ∷ []) old others next
  changed_push was is changes marks mixed =
      let there = mapped_some (λ (d : Document). is_gone d.history) (finite.get others c.id) c.is is in
      let d = there.0 in
      let here : finite.get (finite.insert mid c.id d) c.id ≡ Some d = finite.get-insert nat_list_cmp_total mid c.id d c.id ∙ ap (λ b. cond b (Some d) (finite.get mid c.id)) (text_tests (λ k. k) c.id c.id ∙ (bytes_eq-Decides c.id c.id).1 refl) in (
        finite.insert mid c.id d,
        changes_push cs c old mid d changes (marks c.id c.was was) (sym there.2),
        marks_put m n mid (finite.insert mid c.id d) c.id (Some c.is) put marks (sym (ap mark_of here ∙ ap Some there.2))
            (λ q apart. finite.get-insert nat_list_cmp_total mid c.id d q ∙ ap (λ b. cond b (Some d) (finite.get mid q)) (text_tests (λ k. k) q c.id ∙ sym (is_eq-slice_cmp c.id q) ∙ apart)),
        mixed_push ids c.id old others mid d there.1 mixed,
      )

-- the same of a change at this id
pub changed_at : (m n : Marks) (ids : List (List ℕ)) (cs : List Marked) (c : Marked) (old others mid : TextMap Document) (id : List ℕ) → c.id ≡ id
    → ((q : List ℕ) → get (slice_cmp nat_cmp) n q ≡ cond (is_eq (slice_cmp nat_cmp id q)) (Some (Some c.is)) (get (slice_cmp nat_cmp) m q))
    → get (slice_cmp nat_cmp) m id ≡ Some c.was → mark_of (finite.get others id) ≡ Some c.is → AreChanges cs old mid → AreMarks m mid → IsMixed ids old others mid
    → (next : TextMap Document) × AreChanges (cs ++ c ∷ []) old next × AreMarks n next × IsMixed (ids ++ id ∷ []) old others next
changed_at m n ids cs c old others mid id named =
    subst
    (λ k. ((q : List ℕ) → get (slice_cmp nat_cmp) n q ≡ cond (is_eq (slice_cmp nat_cmp k q)) (Some (Some c.is)) (get (slice_cmp nat_cmp) m q))
    → get (slice_cmp nat_cmp) m k ≡ Some c.was → mark_of (finite.get others k) ≡ Some c.is → AreChanges cs old mid → AreMarks m mid → IsMixed ids old others mid
    → (next : TextMap Document) × AreChanges (cs ++ c ∷ []) old next × AreMarks n next × IsMixed (ids ++ k ∷ []) old others next)
    named (λ put. changed_push m n ids cs c old others mid put)

inserted_elsewhere : (m : TextMap Document) (id other : List ℕ) (d : Document) → bytes_eq id other ≡ false → finite.get (finite.insert m id d) other ≡ finite.get m other
inserted_elsewhere m id other d apart = finite.get-insert nat_list_cmp_total m id d other ∙ ap (λ b. cond b (Some d) (finite.get m other)) (text_tests (λ k. k) other id ∙ apart)

-- what the writes did to the documents: those of all other ids are as they were
pub kept_elsewhere : (all : List Addition) (db : Database) (id : List ℕ) → list_any (λ k. bytes_eq k id) (map (λ a. a.id) all) ≡ false → finite.get (with_all db (writings_in db all)).documents id ≡ finite.get db.documents id
kept_elsewhere [] db id none = refl
kept_elsewhere (a ∷ all) db id none =
    let parts = neither (bytes_eq a.id id) _ none in
    kept_elsewhere all (with_one db (written_at db a)) id parts.1 ∙ inserted_elsewhere db.documents a.id id _ parts.0
  where
    neither : (a b : Bool) → (a || b) ≡ false → (a ≡ false) × (b ≡ false)
    neither true b is = absurd (cc)
    neither false b is = (refl, is)
