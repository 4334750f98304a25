-- How many of some keys are below one, and counts by segments that say so.
-- This server's own: keys are bytes, in the order of their bytes. The rank of a key is how many keys are below it.
use Rattle.std.specs.Prelude.{◌≡◌, ℕ, zero, suc, ◌+◌, List, [], ◌∷◌, Bool, true, false, cond, ⊤, length, get_or, set}
use Rattle.std.specs.Cmp.Lexicographic.{slice_cmp}
use Rattle.std.specs.List.{insert}
use Rattle.std.specs.List.Sorted.{IsPermutation}
use Rattle.std.specs.Ordering.{is_lt, nat_cmp}
use Rattle.ranks.specs.Seen.{Ranks}
use Rattle.ranks.specs.declared.ranks.Change.{Change}

-- ---- keys

-- in the order of bytes
abbrev pub is_below : List ℕ → List ℕ → Bool
is_below a b = is_lt (slice_cmp nat_cmp a b)

-- how many keys are below this one
abbrev pub below : List ℕ → List (List ℕ) → ℕ
below key [] = 0
below key (k ∷ ks) = cond (is_below k key) 1 0 + below key ks

-- how many keys are not below the one, and below the other
abbrev pub between : List ℕ → List ℕ → List (List ℕ) → ℕ
between low high [] = 0
between low high (k ∷ ks) = cond (is_below k low) 0 (cond (is_below k high) 1 0) + between low high ks

-- these keys, and this one if it is there
abbrev pub with_key : Bool → List ℕ → List (List ℕ) → List (List ℕ)
with_key there key keys = cond there (key ∷ keys) keys

-- the new keys are made of the old ones by these changes, one after another: each key was there before or not, as it is said, and is
-- there behind it; the order of the keys has no influence
abbrev pub AreChanges : List Change → List (List ℕ) → List (List ℕ) → Type 0
AreChanges [] old new = IsPermutation old new
AreChanges (c ∷ cs) old new = (others : List (List ℕ)) × IsPermutation old (with_key c.was c.key.now others) × AreChanges cs (with_key c.is c.key.now others) new

-- ---- segments

-- where each segment begins but the first, and how many keys it has
abbrev pub Segments : Type 0
Segments = List (List ℕ × ℕ)

-- so many keys are below the first of these segments, as many as are counted are below each further one, and all are counted
abbrev pub AreCounts : ℕ → List (List ℕ) → Segments → Type 0
AreCounts before keys [] = before ≡ length keys
AreCounts before keys (s ∷ ss) = (before ≡ below s.0 keys) × AreCounts (before + s.1) keys ss

-- the counts are those of these keys, in whatever order
abbrev pub AreRanksOf : Ranks → List (List ℕ) → Type 0
AreRanksOf r keys = AreCounts r.head keys r.segments

-- how many keys are counted
abbrev pub total_of : ℕ → Segments → ℕ
total_of before [] = before
total_of before (s ∷ ss) = total_of (before + s.1) ss

-- each of these segments begins above the key
abbrev pub AllAbove : List ℕ → Segments → Type 0
AllAbove key [] = ⊤
AllAbove key (s ∷ ss) = (is_below key s.0 ≡ true) × AllAbove key ss

-- each begins above the one before
abbrev pub Ascends : Segments → Type 0
Ascends [] = ⊤
Ascends (s ∷ ss) = AllAbove s.0 ss × Ascends ss

-- ---- the segment of a place, where the first one of all is at place 0

-- the key lies in it: it is not below where the segment begins, and below where each further one does
abbrev pub LiesIn : List ℕ → Segments → ℕ → Type 0
LiesIn key ss zero = AllAbove key ss
LiesIn key [] (suc place) = ⊥
LiesIn key (s ∷ ss) (suc place) = (is_below key s.0 ≡ false) × LiesIn key ss place

-- where it begins
abbrev pub start_of : Segments → ℕ → List ℕ
start_of ss zero = []
start_of ss (suc i) = (get_or ss i ([], 0)).0

-- how many keys are counted below the segment of this index, among those behind the first one
abbrev pub before_of : ℕ → Segments → ℕ → ℕ
before_of before [] i = before
before_of before (s ∷ ss) zero = before
before_of before (s ∷ ss) (suc i) = before_of (before + s.1) ss i

-- how many are counted below it
abbrev pub before_place : ℕ → Segments → ℕ → ℕ
before_place head ss zero = 0
before_place head ss (suc i) = before_of head ss i

-- how many are counted in it
abbrev pub count_of : ℕ → Segments → ℕ → ℕ
count_of head ss zero = head
count_of head ss (suc i) = (get_or ss i ([], 0)).1

-- the counts where it has another
abbrev pub head_with : ℕ → ℕ → ℕ → ℕ
head_with head zero n = n
head_with head (suc i) n = head

abbrev pub segments_with : Segments → ℕ → ℕ → Segments
segments_with ss zero n = ss
segments_with ss (suc i) n = set ss i ((get_or ss i ([], 0)).0, n)

-- the counts where it is split at a key: so many keys below it, and so many from it on
abbrev pub head_cut : ℕ → ℕ → ℕ → ℕ
head_cut head zero n = n
head_cut head (suc i) n = head

abbrev pub segments_cut : Segments → ℕ → List ℕ → ℕ → ℕ → Segments
segments_cut ss zero key n rest = insert ss zero (key, rest)
segments_cut ss (suc i) key n rest = set (insert ss (suc i) (key, rest)) i ((get_or ss i ([], 0)).0, n)
