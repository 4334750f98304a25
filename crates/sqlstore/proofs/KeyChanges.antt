-- What is known of the keys of documents in an index, as the documents are put in one after another.
use Rattle.std.proofs.Common.{◌≡◌, ℕ, List, [], ◌∷◌, ◌++◌, Bool, true, false, cond, Option, None, Some, refl, sym, ap, subst, ◌∙◌}
use Rattle.std.specs.Prelude.{is_some}
use Rattle.std.proofs.lemmas.Cmp.{nat_list_cmp_total}
use Rattle.std.specs.BTreeMap.{BTreeMap, IsEmpty, get, is_at}
use Rattle.std.specs.Cmp.Lexicographic.{slice_cmp}
use Rattle.std.specs.FinMap as finite
use Rattle.std.specs.Map.{lookup}
use Rattle.std.specs.Ordering.{is_eq, nat_cmp}
use Rattle.std.proofs.lemmas.Map.Text.{is_eq-slice_cmp}
use Rattle.std.proofs.lemmas.Slice.Eq.{bytes_eq-Decides}
use Rattle.store.specs.Database.{Document, TextMap}
use Rattle.tables.proofs.RowMaps.{text_tests}
use Rattle.sqlstore.specs.inner.Keys.{AreKeyChanges, AreKeys, document_key}
use Rattle.sqlstore.specs.inner.Marks.{mark_of}
use Rattle.sqlstore.specs.declared.key_change.KeyChange.{KeyChange}
use Rattle.sqlstore.proofs.MarkChanges.{IsMixed, mixed_push}

abbrev pub Keys : Type 0
Keys = BTreeMap (List ℕ) (Option (List ℕ))

-- an empty map has no key
pub none_keyed : (fields : List (List ℕ)) (m : Keys) (documents : TextMap Document) → IsEmpty m → AreKeys fields m documents
none_keyed fields m documents empty id key is =
    let gone : get (slice_cmp nat_cmp) m id ≡ None = ap (lookup (is_at (slice_cmp nat_cmp id))) empty in
    let apart : ◌≡◌ {A = Option (Option (List ℕ))} None (Some key) = sym gone ∙ is in
    absurd (cc)

-- the key of one document was put in, where others have what they had
module _ (fields : List (List ℕ)) (m n : Keys) (old new : TextMap Document) (id : List ℕ) (key : Option (List ℕ))
    (put : (q : List ℕ) → get (slice_cmp nat_cmp) n q ≡ cond (is_eq (slice_cmp nat_cmp id q)) (Some key) (get (slice_cmp nat_cmp) m q)) where
  pub keys_put : AreKeys fields m old → key ≡ document_key fields id (finite.get new id) → ((q : List ℕ) → is_eq (slice_cmp nat_cmp id q) ≡ false → finite.get new q ≡ finite.get old q) → AreKeys fields n new
  keys_put keys here others q k is = go (is_eq (slice_cmp nat_cmp id q)) refl (sym (put q) ∙ is)
    where
      go : (b : Bool) → is_eq (slice_cmp nat_cmp id q) ≡ b → cond b (Some key) (get (slice_cmp nat_cmp) m q) ≡ Some k → k ≡ document_key fields q (finite.get new q)
      go true same found =
          let it : key ≡ k = cc in
          sym it ∙ here ∙ ap (λ x. document_key fields x (finite.get new x)) ((bytes_eq-Decides id q).0 (sym (is_eq-slice_cmp id q) ∙ same))
      go false apart found = keys q k found ∙ ap (document_key fields q) (sym (others q apart))

-- one change more
pub key_changes_push : (fields : List (List ℕ)) (cs : List KeyChange) (c : KeyChange) (old mid : TextMap Document) (d : Document) → AreKeyChanges fields cs old mid
    → c.was ≡ document_key fields c.id (finite.get mid c.id) → c.is ≡ document_key fields c.id (Some d) → AreKeyChanges fields (cs ++ c ∷ []) old (finite.insert mid c.id d)
key_changes_push fields [] c old mid d done was is =
    (d, was ∙ ap (λ (m : TextMap Document). document_key fields c.id (finite.get m c.id)) (sym done), is, ap (λ (m : TextMap Document). finite.insert m c.id d) done)
key_changes_push fields (k ∷ cs) c old mid d done was is = (done.0, done.1, done.2, key_changes_push fields cs c (finite.insert old k.id done.0) mid d done.3 was is)

-- a document that is there
pub some_there : {X : Type 0} (o : Option X) → is_some o ≡ true → (x : X) × (o ≡ Some x)
some_there None is = absurd (cc)
some_there (Some x) is = (x, refl)

-- it is where its winner is marked
pub there_if_marked : (o : Option Document) (gone : Bool) → mark_of o ≡ Some gone → is_some o ≡ true
there_if_marked None gone is = absurd (cc)
there_if_marked (Some d) gone is = refl

-- a change of one document, whose key is put in
module _ (fields : List (List ℕ)) (m n : Keys) (ids : List (List ℕ)) (cs : List KeyChange) (c : KeyChange) (old others mid : TextMap Document)
    (put : (q : List ℕ) → get (slice_cmp nat_cmp) n q ≡ cond (is_eq (slice_cmp nat_cmp c.id q)) (Some c.is) (get (slice_cmp nat_cmp) m q)) where
  key_changed_push : get (slice_cmp nat_cmp) m c.id ≡ Some c.was → is_some (finite.get others c.id) ≡ true → c.is ≡ document_key fields c.id (finite.get others c.id)
      → AreKeyChanges fields cs old mid → AreKeys fields m mid → IsMixed ids old others mid
      → (next : TextMap Document) × AreKeyChanges fields (cs ++ c ∷ []) old next × AreKeys fields n next × IsMixed (ids ++ c.id ∷ []) old others next
  key_changed_push was written is changes keys mixed =
      let there = some_there (finite.get others c.id) written in
      let d = there.0 in
      let now : c.is ≡ document_key fields c.id (Some d) = is ∙ ap (document_key fields c.id) there.1 in
      let here : finite.get (finite.insert mid c.id d) c.id ≡ Some d = finite.get-insert nat_list_cmp_total mid c.id d c.id ∙ ap (λ b. cond b (Some d) (finite.get mid c.id)) (text_tests (λ k. k) c.id c.id ∙ (bytes_eq-Decides c.id c.id).1 refl) in (
        finite.insert mid c.id d,
        key_changes_push fields cs c old mid d changes (keys c.id c.was was) now,
        keys_put fields m n mid (finite.insert mid c.id d) c.id c.is put keys (now ∙ sym (ap (document_key fields c.id) here))
            (λ q apart. finite.get-insert nat_list_cmp_total mid c.id d q ∙ ap (λ b. cond b (Some d) (finite.get mid q)) (text_tests (λ k. k) q c.id ∙ sym (is_eq-slice_cmp c.id q) ∙ apart)),
        mixed_push ids c.id old others mid d there.1 mixed,
      )

-- the same of a change at this id
pub key_changed_at : (fields : List (List ℕ)) (m n : Keys) (ids : List (List ℕ)) (cs : List KeyChange) (c : KeyChange) (old others mid : TextMap Document) (id : List ℕ) → c.id ≡ id
    → ((q : List ℕ) → get (slice_cmp nat_cmp) n q ≡ cond (is_eq (slice_cmp nat_cmp id q)) (Some c.is) (get (slice_cmp nat_cmp) m q))
    → get (slice_cmp nat_cmp) m id ≡ Some c.was → is_some (finite.get others id) ≡ true → c.is ≡ document_key fields id (finite.get others id)
    → AreKeyChanges fields cs old mid → AreKeys fields m mid → IsMixed ids old others mid
    → (next : TextMap Document) × AreKeyChanges fields (cs ++ c ∷ []) old next × AreKeys fields n next × IsMixed (ids ++ id ∷ []) old others next
key_changed_at fields m n ids cs c old others mid id named =
    subst
    (λ k. ((q : List ℕ) → get (slice_cmp nat_cmp) n q ≡ cond (is_eq (slice_cmp nat_cmp k q)) (Some c.is) (get (slice_cmp nat_cmp) m q))
    → get (slice_cmp nat_cmp) m k ≡ Some c.was → is_some (finite.get others k) ≡ true → c.is ≡ document_key fields k (finite.get others k)
    → AreKeyChanges fields cs old mid → AreKeys fields m mid → IsMixed ids old others mid
    → (next : TextMap Document) × AreKeyChanges fields (cs ++ c ∷ []) old next × AreKeys fields n next × IsMixed (ids ++ k ∷ []) old others next)
    named (λ put. key_changed_push fields m n ids cs c old others mid put)
