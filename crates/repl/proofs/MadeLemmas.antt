-- A list that grows by what is made of one element after another.
use Rattle.std.proofs.Common.{◌≡◌, ℕ, List, [], ◌∷◌, ◌++◌, refl, ap, sym, append_assoc, ◌∙◌}
use Rattle.repl.specs.Replies.{Opened, document, missing, documents_of_opened, missing_reports}

-- what was made and is still to be made, before an element and after it
pub made_of_one : {S A : Type 0} (made_of : List S → List A) (s : S) (here next : List S) (made old new : List A)
    → here ≡ s ∷ next → made ++ made_of next ≡ made_of (s ∷ next) → new ≡ old ++ made
    → new ++ made_of next ≡ old ++ made_of here
made_of_one made_of s here next made old new first parted added =
    ap (λ as_. as_ ++ made_of next) added
    ∙ append_assoc old made (made_of next)
    ∙ ap (λ as_. old ++ as_) parted
    ∙ ap (λ ss. old ++ made_of ss) (sym first)

-- the document of the first revision, and those of the others
pub documents_parted : (o : Opened) (os : List Opened) → documents_of_opened (o ∷ []) ++ documents_of_opened os ≡ documents_of_opened (o ∷ os)
documents_parted (document v) os = refl
documents_parted (missing rev) os = refl

-- the report of the first revision, and those of the others
pub reports_parted : (id : List ℕ) (o : Opened) (os : List Opened) → missing_reports id (o ∷ []) ++ missing_reports id os ≡ missing_reports id (o ∷ os)
reports_parted id (document v) os = refl
reports_parted id (missing rev) os = refl
