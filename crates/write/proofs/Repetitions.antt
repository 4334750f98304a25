-- Marks of documents by whether their `_id` comes again, the last document's first.
use Rattle.std.proofs.Common.{◌≡◌, ◌||◌, ℕ, Bor, Bool, true, false, cond, List, [], ◌∷◌, ◌++◌, Option, Some, reverse, refl, ap, sym, ◌∙◌}
use Rattle.std.specs.Prelude.{codes}
use Rattle.std.specs.BTreeSet.{BTreeSet, contains}
use Rattle.std.specs.Ordering.{is_eq, nat_cmp}
use Rattle.std.specs.Cmp.Lexicographic.{slice_cmp}
use Rattle.std.proofs.lemmas.List.{reverse-append}
use Rattle.std.proofs.lemmas.Map.Text.{is_eq-slice_cmp}
use Rattle.couch_json.specs.Value.{Value}
use Rattle.write.specs.Document.{is_same_text, member_text}
use Rattle.write.specs.inner.Repeats.{has_text, is_named_if_any, repeats}

true_or : (b c : Bool) → cond b true c ≡ (b || c)
true_or true c = refl
true_or false c = refl

-- the set has the text that was put in
pub put_named : (old new : BTreeSet (Bor (List ℕ))) (own : Bor (List ℕ)) (i : Option (List ℕ))
    → ((q : Bor (List ℕ)) → contains (λ x y. slice_cmp nat_cmp x.now y.now) new q
    ≡ cond (is_eq (slice_cmp nat_cmp own.now q.now)) true (contains (λ x y. slice_cmp nat_cmp x.now y.now) old q)) → i ≡ Some own.now
    → (text : List ℕ) → has_text new text ≡ (is_same_text text i || has_text old text)
put_named old new own i updates is text =
    updates (record own { now = text }) ∙ true_or (is_eq (slice_cmp nat_cmp own.now text)) (has_text old text)
    ∙ ap (λ (b : Bool). b || has_text old text) (is_eq-slice_cmp own.now text)
    ∙ ap (λ (x : Option (List ℕ)). is_same_text text x || has_text old text) (sym is)

-- the mark of one document more is the last
pub marks_cons : (v : Value) (vs : List Value) → reverse (repeats (v ∷ vs)) ≡ reverse (repeats vs) ++ is_named_if_any (member_text (codes "_id") v) vs ∷ []
marks_cons v vs = reverse-append (is_named_if_any (member_text (codes "_id") v) vs ∷ []) (repeats vs)
