-- What counts by segments say of keys, and what becomes of them where a key is added or removed, or a segment is split.
use Rattle.std.proofs.Common.{◌≡◌, ℕ, zero, suc, ◌+◌, ◌-◌, ◌<◌, ◌≤◌, List, [], ◌∷◌, Bool, true, false, length, get_or, set, refl, sym, ap, subst, ◌∙◌, arith}
use Rattle.std.specs.List.{insert}
use Rattle.ranks.specs.Counts.{AllAbove, Ascends, Segments, LiesIn, AreCounts, before_of, before_place, below, between, count_of, head_cut, head_with, is_below, segments_cut, segments_with, start_of, total_of, AreRanksOf}
use Rattle.ranks.specs.Seen.{Ranks}
use Rattle.ranks.proofs.Order.{below_empty, below_length, below_less, below_other, not_below, below_rises, below_trans, none_below, not_under, rank}

-- ---- what they say

pub segments_total : (at : ℕ) (keys : List (List ℕ)) (ss : Segments) → AreCounts at keys ss → total_of at ss ≡ length keys
segments_total at keys [] t = t
segments_total at keys (s ∷ ss) t = segments_total (at + s.1) keys ss t.1

segment_before : (at : ℕ) (keys : List (List ℕ)) (ss : Segments) (i : ℕ) → AreCounts at keys ss → i < length ss → before_of at ss i ≡ below (get_or ss i ([], 0)).0 keys
segment_before at keys [] i t lt = absurd (omega arith)
segment_before at keys (s ∷ ss) zero t lt = t.0
segment_before at keys (s ∷ ss) (suc i) t lt = segment_before (at + s.1) keys ss i t.1 (omega arith)

pub segments_before : (head : ℕ) (keys : List (List ℕ)) (ss : Segments) (p : ℕ) → AreCounts head keys ss → p ≤ length ss → before_place head ss p ≡ below (start_of ss p) keys
segments_before head keys ss zero t le = sym (below_empty keys)
segments_before head keys ss (suc i) t le = segment_before head keys ss i t (omega arith)

-- ---- the place of a key

pub lies_within : (key : List ℕ) (ss : Segments) (p : ℕ) → LiesIn key ss p → p ≤ length ss
lies_within key ss zero h = omega arith
lies_within key [] (suc p) h = absurd h
lies_within key (s ∷ ss) (suc p) h = omega (arith, lies_within key ss p h.1)

starts_at : (key : List ℕ) (ss : Segments) (i : ℕ) → LiesIn key ss (suc i) → is_below key (get_or ss i ([], 0)).0 ≡ false
starts_at key [] i h = absurd h
starts_at key (s ∷ ss) zero h = h.0
starts_at key (s ∷ ss) (suc i) h = starts_at key ss i h.1

pub lies_from : (key : List ℕ) (ss : Segments) (p : ℕ) → LiesIn key ss p → is_below key (start_of ss p) ≡ false
lies_from key ss zero h = none_below key
lies_from key ss (suc i) h = starts_at key ss i h

-- where the next segment begins is above it
pub lies_under : (key : List ℕ) (ss : Segments) (p : ℕ) → LiesIn key ss p → p < length ss → is_below key (start_of ss (suc p)) ≡ true
lies_under key [] p h lt = absurd (omega arith)
lies_under key (s ∷ ss) zero h lt = h.0
lies_under key (s ∷ ss) (suc p) h lt = lies_under key ss p h.1 (omega arith)

pub above_from : (key f : List ℕ) (ss : Segments) → is_below key f ≡ true → AllAbove f ss → AllAbove key ss
above_from key f [] h a = tt
above_from key f (s ∷ ss) h a = (below_trans key f s.0 h a.0, above_from key f ss h a.1)

-- from a scan that has passed i boundaries
pub lies_after : (key : List ℕ) (ss : Segments) (i : ℕ) → Ascends ss → i ≤ length ss → ((k : ℕ) → k < i → is_below key (get_or ss k ([], 0)).0 ≡ false) → (i < length ss → is_below key (get_or ss i ([], 0)).0 ≡ true) → LiesIn key ss i
lies_after key [] zero s le low high = tt
lies_after key [] (suc i) s le low high = absurd (omega arith)
lies_after key (t ∷ ss) zero s le low high = let h : is_below key t.0 ≡ true = high (omega arith) in (h, above_from key t.0 ss h s.0)
lies_after key (t ∷ ss) (suc i) s le low high = (low 0 (omega arith), lies_after key ss i s.1 (omega arith) (λ k lt. low (suc k) (omega arith)) (λ lt. high (omega arith)))

-- a key that has come to the last boundary has passed all
pub lies_last : (key : List ℕ) (ss : Segments) (i : ℕ) → Ascends ss → length ss ≡ suc i → is_below key (get_or ss i ([], 0)).0 ≡ false → LiesIn key ss (suc i)
lies_last key [] i s e h = absurd (omega arith)
lies_last key (t ∷ []) zero s e h = (h, tt)
lies_last key (t ∷ u ∷ ss) zero s e h = absurd (omega arith)
lies_last key (t ∷ []) (suc i) s e h = absurd (omega arith)
lies_last key (t ∷ u ∷ ss) (suc i) s e h =
    let rest = lies_last key (u ∷ ss) i s.1 (omega arith) h in
    (not_below key t.0 u.0 (is_below key t.0) refl s.0.0 rest.0, rest)

pub lies_at_last : (key : List ℕ) (ss : Segments) (n : ℕ) → Ascends ss → length ss ≡ n → 0 < n → is_below key (get_or ss (n - 1) ([], 0)).0 ≡ false → LiesIn key ss n
lies_at_last key ss zero s e lt h = absurd (omega arith)
lies_at_last key ss (suc i) s e lt h = let one : suc i - 1 ≡ i = omega arith in lies_last key ss i s e (subst (λ k. is_below key (get_or ss k ([], 0)).0 ≡ false) one h)

pub same_at : (ss : Segments) (i : ℕ) (d : List ℕ × ℕ) → i < length ss → get_or ss i d ≡ get_or ss i ([], 0)
same_at [] i d lt = absurd (omega arith)
same_at (s ∷ ss) zero d lt = refl
same_at (s ∷ ss) (suc i) d lt = same_at ss i d (omega arith)

-- ---- sums

pub before_next : (at : ℕ) (ss : Segments) (i : ℕ) → i < length ss → before_of at ss (suc i) ≡ before_of at ss i + (get_or ss i ([], 0)).1
before_next at [] i lt = absurd (omega arith)
before_next at (s ∷ []) zero lt = refl
before_next at (s ∷ t ∷ ss) zero lt = refl
before_next at (s ∷ ss) (suc i) lt = before_next (at + s.1) ss i (omega arith)

at_total : (at : ℕ) (ss : Segments) → at ≤ total_of at ss
at_total at [] = omega arith
at_total at (s ∷ ss) = omega (arith, at_total (at + s.1) ss)

pub before_total : (at : ℕ) (ss : Segments) (i : ℕ) → before_of at ss i ≤ total_of at ss
before_total at [] i = omega arith
before_total at (s ∷ ss) zero = at_total at (s ∷ ss)
before_total at (s ∷ ss) (suc i) = before_total (at + s.1) ss i

segment_total : (at : ℕ) (ss : Segments) (i : ℕ) → (get_or ss i ([], 0)).1 ≤ total_of at ss
segment_total at [] i = omega arith
segment_total at (s ∷ ss) zero = omega (arith, at_total (at + s.1) ss)
segment_total at (s ∷ ss) (suc i) = segment_total (at + s.1) ss i

pub count_total : (head : ℕ) (ss : Segments) (p : ℕ) → count_of head ss p ≤ total_of head ss
count_total head ss zero = at_total head ss
count_total head ss (suc i) = segment_total head ss i

total_moves : (a b x y : ℕ) (ss : Segments) → a + x ≡ b + y → total_of a ss + x ≡ total_of b ss + y
total_moves a b x y [] e = e
total_moves a b x y (s ∷ ss) e = total_moves (a + s.1) (b + s.1) x y ss (omega (arith, e))

total_set : (at : ℕ) (ss : Segments) (i n : ℕ) → i < length ss → total_of at (set ss i ((get_or ss i ([], 0)).0, n)) + (get_or ss i ([], 0)).1 ≡ total_of at ss + n
total_set at [] i n lt = absurd (omega arith)
total_set at (s ∷ ss) zero n lt = total_moves (at + n) (at + s.1) s.1 n ss (omega arith)
total_set at (s ∷ ss) (suc i) n lt = total_set (at + s.1) ss i n (omega arith)

pub total_with : (head : ℕ) (ss : Segments) (p n : ℕ) → p ≤ length ss → total_of (head_with head p n) (segments_with ss p n) + count_of head ss p ≡ total_of head ss + n
total_with head ss zero n le = total_moves n head head n ss (omega arith)
total_with head ss (suc i) n le = total_set head ss i n (omega arith)

above_set : (key : List ℕ) (ss : Segments) (i n : ℕ) → AllAbove key ss → AllAbove key (set ss i ((get_or ss i ([], 0)).0, n))
above_set key [] i n a = tt
above_set key (s ∷ ss) zero n a = a
above_set key (s ∷ ss) (suc i) n a = (a.0, above_set key ss i n a.1)

ascends_set : (ss : Segments) (i n : ℕ) → Ascends ss → Ascends (set ss i ((get_or ss i ([], 0)).0, n))
ascends_set [] i n a = tt
ascends_set (s ∷ ss) zero n a = a
ascends_set (s ∷ ss) (suc i) n a = (above_set s.0 ss i n a.0, ascends_set ss i n a.1)

pub ascends_with : (ss : Segments) (p n : ℕ) → Ascends ss → Ascends (segments_with ss p n)
ascends_with ss zero n a = a
ascends_with ss (suc i) n a = ascends_set ss i n a

-- ---- a key is added

pub counts_raised : (at to : ℕ) (key : List ℕ) (keys : List (List ℕ)) (ss : Segments) → AreCounts at keys ss → to ≡ at + 1 → AllAbove key ss → AreCounts to (key ∷ keys) ss
counts_raised at to key keys [] t e a = omega (arith, t, e)
counts_raised at to key keys (s ∷ ss) t e a = (omega (arith, t.0, e, below_less s.0 key keys a.0), counts_raised (at + s.1) (to + s.1) key keys ss t.1 (omega (arith, e)) a.1)

counts_added : (at : ℕ) (key : List ℕ) (keys : List (List ℕ)) (ss : Segments) (i : ℕ) → AreCounts at keys ss → LiesIn key ss (suc i) → AreCounts at (key ∷ keys) (set ss i ((get_or ss i ([], 0)).0, (get_or ss i ([], 0)).1 + 1))
counts_added at key keys [] i t h = absurd h
counts_added at key keys (s ∷ ss) zero t h = (t.0 ∙ sym (below_other s.0 key keys h.0), counts_raised (at + s.1) (at + (s.1 + 1)) key keys ss t.1 (omega arith) h.1)
counts_added at key keys (s ∷ ss) (suc i) t h = (t.0 ∙ sym (below_other s.0 key keys h.0), counts_added (at + s.1) key keys ss i t.1 h.1)

pub added_at : (head : ℕ) (key : List ℕ) (keys : List (List ℕ)) (ss : Segments) (p : ℕ) → AreCounts head keys ss → LiesIn key ss p → AreCounts (head_with head p (count_of head ss p + 1)) (key ∷ keys) (segments_with ss p (count_of head ss p + 1))
added_at head key keys ss zero t h = counts_raised head (head + 1) key keys ss t refl h
added_at head key keys ss (suc i) t h = counts_added head key keys ss i t h

-- ---- a key is removed

room : (m : ℕ) (key f : List ℕ) (keys : List (List ℕ)) (ss : Segments) → AreCounts m (key ∷ keys) ss → AllAbove key ss → is_below key f ≡ false → below f keys + 1 ≤ m
room m key f keys [] t a h = omega (arith, t, below_length f keys)
room m key f keys (s ∷ ss) t a h =
    let here : m ≡ below s.0 keys + 1 = t.0 ∙ below_less s.0 key keys a.0 in
    omega (arith, here, below_rises f key s.0 keys h a.0)

pub counts_lowered : (at to : ℕ) (key : List ℕ) (keys : List (List ℕ)) (ss : Segments) → AreCounts at (key ∷ keys) ss → at ≡ to + 1 → AllAbove key ss → AreCounts to keys ss
counts_lowered at to key keys [] t e a = omega (arith, t, e)
counts_lowered at to key keys (s ∷ ss) t e a =
    let here : at ≡ below s.0 keys + 1 = t.0 ∙ below_less s.0 key keys a.0 in
    (omega (arith, here, e), counts_lowered (at + s.1) (to + s.1) key keys ss t.1 (omega (arith, e)) a.1)

counts_removed : (at : ℕ) (key : List ℕ) (keys : List (List ℕ)) (ss : Segments) (i : ℕ) → AreCounts at (key ∷ keys) ss → LiesIn key ss (suc i) → (1 ≤ (get_or ss i ([], 0)).1) × AreCounts at keys (set ss i ((get_or ss i ([], 0)).0, (get_or ss i ([], 0)).1 - 1))
counts_removed at key keys [] i t h = absurd h
counts_removed at key keys (s ∷ ss) zero t h =
    let here : at ≡ below s.0 keys = t.0 ∙ below_other s.0 key keys h.0 in
    let more : below s.0 keys + 1 ≤ at + s.1 = room (at + s.1) key s.0 keys ss t.1 h.1 h.0 in
    (omega (arith, here, more), (here, counts_lowered (at + s.1) (at + (s.1 - 1)) key keys ss t.1 (omega (arith, here, more)) h.1))
counts_removed at key keys (s ∷ ss) (suc i) t h =
    let here : at ≡ below s.0 keys = t.0 ∙ below_other s.0 key keys h.0 in
    let rest = counts_removed (at + s.1) key keys ss i t.1 h.1 in
    (rest.0, (here, rest.1))

pub removed_at : (head : ℕ) (key : List ℕ) (keys : List (List ℕ)) (ss : Segments) (p : ℕ) → AreCounts head (key ∷ keys) ss → LiesIn key ss p → (1 ≤ count_of head ss p) × AreCounts (head_with head p (count_of head ss p - 1)) keys (segments_with ss p (count_of head ss p - 1))
removed_at head key keys ss zero t h =
    let more = room head key [] keys ss t h (none_below key) in
    (omega (arith, more), counts_lowered head (head - 1) key keys ss t (omega (arith, more)) h)
removed_at head key keys ss (suc i) t h = counts_removed head key keys ss i t h

pub before_first : (at : ℕ) (ss : Segments) → at ≡ before_of at ss 0
before_first at [] = refl
before_first at (s ∷ ss) = refl

pub place_next : (at : ℕ) (ss : Segments) (i j : ℕ) → j ≡ i + 1 → before_place at ss j ≡ before_of at ss i
place_next at ss i zero e = absurd (omega arith)
place_next at ss i (suc k) e = let same : k ≡ i = omega arith in rw same refl

-- ---- whole counts

pub added_to : (r s : Ranks) (key : List ℕ) (keys : List (List ℕ)) (p n : ℕ) → s.head ≡ head_with r.head p n → s.segments ≡ segments_with r.segments p n → n ≡ count_of r.head r.segments p + 1
    → LiesIn key r.segments p → AreRanksOf r keys → AreRanksOf s (key ∷ keys)
added_to r s key keys p n h g e lies t = rw (h, g, e) (added_at r.head key keys r.segments p t lies)

pub removed_to : (r s : Ranks) (key : List ℕ) (keys : List (List ℕ)) (p n : ℕ) → s.head ≡ head_with r.head p n → s.segments ≡ segments_with r.segments p n → n ≡ count_of r.head r.segments p - 1
    → LiesIn key r.segments p → AreRanksOf r (key ∷ keys) → AreRanksOf s keys
removed_to r s key keys p n h g e lies t = rw (h, g, e) (removed_at r.head key keys r.segments p t lies).1

-- ---- a split

same_counts : (a b : ℕ) (keys : List (List ℕ)) (ss : Segments) → a ≡ b → AreCounts a keys ss → AreCounts b keys ss
same_counts a b keys ss e t = subst (λ n. AreCounts n keys ss) e t

counts_cut : (at : ℕ) (key : List ℕ) (keys : List (List ℕ)) (ss : Segments) (i c rest : ℕ) → i < length ss → c + rest ≡ (get_or ss i ([], 0)).1 → below key keys ≡ before_of at ss i + c → AreCounts at keys ss
    → AreCounts at keys (set (insert ss (suc i) (key, rest)) i ((get_or ss i ([], 0)).0, c))
counts_cut at key keys [] i c rest lt e b t = absurd (omega arith)
counts_cut at key keys (s ∷ ss) zero c rest lt e b t = (t.0, (sym b, same_counts (at + s.1) (at + c + rest) keys ss (omega (arith, e)) t.1))
counts_cut at key keys (s ∷ ss) (suc i) c rest lt e b t = (t.0, counts_cut (at + s.1) key keys ss i c rest (omega arith) e b t.1)

pub counts_split : (head : ℕ) (key : List ℕ) (keys : List (List ℕ)) (ss : Segments) (p c rest : ℕ) → p ≤ length ss → c + rest ≡ count_of head ss p → below key keys ≡ before_place head ss p + c → AreCounts head keys ss
    → AreCounts (head_cut head p c) keys (segments_cut ss p key c rest)
counts_split head key keys ss zero c rest le e b t = (omega (arith, b), same_counts head (c + rest) keys ss (sym e) t)
counts_split head key keys ss (suc i) c rest le e b t = counts_cut head key keys ss i c rest (omega arith) e b t

total_cut : (at : ℕ) (key : List ℕ) (ss : Segments) (i c rest : ℕ) → i < length ss → c + rest ≡ (get_or ss i ([], 0)).1 → total_of at (set (insert ss (suc i) (key, rest)) i ((get_or ss i ([], 0)).0, c)) ≡ total_of at ss
total_cut at key [] i c rest lt e = absurd (omega arith)
total_cut at key (s ∷ ss) zero c rest lt e = let same : at + c + rest ≡ at + s.1 = omega (arith, e) in ap (λ n. total_of n ss) same
total_cut at key (s ∷ ss) (suc i) c rest lt e = total_cut (at + s.1) key ss i c rest (omega arith) e

pub total_split : (head : ℕ) (key : List ℕ) (ss : Segments) (p c rest : ℕ) → p ≤ length ss → c + rest ≡ count_of head ss p → total_of (head_cut head p c) (segments_cut ss p key c rest) ≡ total_of head ss
total_split head key ss zero c rest le e = ap (λ n. total_of n ss) e
total_split head key ss (suc i) c rest le e = total_cut head key ss i c rest (omega arith) e

above_at : (k : List ℕ) (ss : Segments) (i : ℕ) → AllAbove k ss → i < length ss → is_below k (get_or ss i ([], 0)).0 ≡ true
above_at k [] i a lt = absurd (omega arith)
above_at k (s ∷ ss) zero a lt = a.0
above_at k (s ∷ ss) (suc i) a lt = above_at k ss i a.1 (omega arith)

above_cut : (k key : List ℕ) (ss : Segments) (i c rest : ℕ) → i < length ss → is_below k key ≡ true → AllAbove k ss → AllAbove k (set (insert ss (suc i) (key, rest)) i ((get_or ss i ([], 0)).0, c))
above_cut k key [] i c rest lt h a = absurd (omega arith)
above_cut k key (s ∷ ss) zero c rest lt h a = (a.0, (h, a.1))
above_cut k key (s ∷ ss) (suc i) c rest lt h a = (a.0, above_cut k key ss i c rest (omega arith) h a.1)

ascends_cut : (key : List ℕ) (ss : Segments) (i c rest : ℕ) → LiesIn key ss (suc i) → is_below (get_or ss i ([], 0)).0 key ≡ true → Ascends ss → Ascends (set (insert ss (suc i) (key, rest)) i ((get_or ss i ([], 0)).0, c))
ascends_cut key [] i c rest lies h a = absurd lies
ascends_cut key (s ∷ ss) zero c rest lies h a = ((h, a.0), (lies.1, a.1))
ascends_cut key (s ∷ ss) (suc i) c rest lies h a =
    let within = lies_within key ss (suc i) lies.1 in
    let above : is_below s.0 key ≡ true = below_trans s.0 (get_or ss i ([], 0)).0 key (above_at s.0 ss i a.0 (omega (arith, within))) h in
    (above_cut s.0 key ss i c rest (omega (arith, within)) above a.0, ascends_cut key ss i c rest lies.1 h a.1)

pub ascends_split : (key : List ℕ) (ss : Segments) (p c rest : ℕ) → LiesIn key ss p → is_below (start_of ss p) key ≡ true → Ascends ss → Ascends (segments_cut ss p key c rest)
ascends_split key ss zero c rest lies h a = (lies, a)
ascends_split key ss (suc i) c rest lies h a = ascends_cut key ss i c rest lies h a

pub split_to : (r s : Ranks) (key : List ℕ) (keys : List (List ℕ)) (p c rank : ℕ) → s.head ≡ head_cut r.head p c → s.segments ≡ segments_cut r.segments p key c (count_of r.head r.segments p - c)
    → p ≤ length r.segments → c ≤ count_of r.head r.segments p → rank ≡ before_place r.head r.segments p + c → rank ≡ below key keys → AreRanksOf r keys → AreRanksOf s keys
split_to r s key keys p c rank h g le most e b t = rw (h, g) (counts_split r.head key keys r.segments p c _ le (omega arith) (sym b ∙ e) t)

pub rank_from : (head : ℕ) (key : List ℕ) (keys : List (List ℕ)) (ss : Segments) (p : ℕ) → AreCounts head keys ss → LiesIn key ss p → below key keys ≡ before_place head ss p + between (start_of ss p) key keys
rank_from head key keys ss p t lies =
    let parts = rank (start_of ss p) key keys (lies_from key ss p lies) in
    let before = segments_before head keys ss p t (lies_within key ss p lies) in
    omega (arith, parts, before)

-- the same from where the segment ends, at the place q behind it
pub rank_under : (head : ℕ) (key : List ℕ) (keys : List (List ℕ)) (ss : Segments) (p q : ℕ) → AreCounts head keys ss → LiesIn key ss p → p < length ss → q ≡ p + 1
    → below key keys + between key (start_of ss q) keys ≡ before_place head ss q
rank_under head key keys ss p q t h lt next = subst (λ q. below key keys + between key (start_of ss q) keys ≡ before_place head ss q) (sym same) at_next
  where
    same : q ≡ suc p
    same = omega (arith, next)

    end : List ℕ
    end = start_of ss (suc p)

    not_under_it : (b : Bool) → is_below end key ≡ b → is_below end key ≡ false
    not_under_it true e = let loop : true ≡ false = sym (below_trans key end key (lies_under key ss p h lt) e) ∙ not_under key in absurd (cc)
    not_under_it false e = e

    at_next : below key keys + between key end keys ≡ before_place head ss (suc p)
    at_next = sym (rank key end keys (not_under_it (is_below end key) refl)) ∙ sym (segments_before head keys ss (suc p) t (omega arith))

pub before_step : (at : ℕ) (ss : Segments) (i j : ℕ) → i < length ss → j ≡ i + 1 → before_of at ss j ≡ before_of at ss i + (get_or ss i ([], 0)).1
before_step at ss i zero lt e = absurd (omega arith)
before_step at ss i (suc k) lt e = let same : k ≡ i = omega arith in rw same (before_next at ss i lt)

pub before_at : (at : ℕ) (ss : Segments) (p : ℕ) → 0 < p → before_of at ss (p - 1) ≡ before_place at ss p
before_at at ss zero lt = absurd (omega arith)
before_at at ss (suc i) lt = let one : suc i - 1 ≡ i = omega arith in ap (before_of at ss) one

pub count_at : (head : ℕ) (ss : Segments) (p : ℕ) → 0 < p → (get_or ss (p - 1) ([], 0)).1 ≡ count_of head ss p
count_at head ss zero lt = absurd (omega arith)
count_at head ss (suc i) lt = let one : suc i - 1 ≡ i = omega arith in ap (λ k. (get_or ss k ([], 0)).1) one

pub next_total : (at : ℕ) (ss : Segments) (i : ℕ) → i < length ss → before_of at ss i + (get_or ss i ([], 0)).1 ≤ total_of at ss
next_total at ss i lt = omega (arith, before_next at ss i lt, before_total at ss (suc i))

pub set_at : (ss : Segments) (p n : ℕ) (d : List ℕ × ℕ) → 0 < p → p ≤ length ss → d ≡ get_or ss (p - 1) d → set ss (p - 1) (d.0, n) ≡ segments_with ss p n
set_at ss zero n d lt le e = absurd (omega arith)
set_at ss (suc i) n d lt le e =
    let one : suc i - 1 ≡ i = omega arith in
    let there : d ≡ get_or ss i ([], 0) = e ∙ ap (λ k. get_or ss k d) one ∙ same_at ss i d (omega arith) in
    ap (λ k. set ss k (d.0, n)) one ∙ ap (λ (x : List ℕ × ℕ). set ss i (x.0, n)) there

pub head_at : (head p n : ℕ) → 0 < p → head_with head p n ≡ head
head_at head zero n lt = absurd (omega arith)
head_at head (suc i) n lt = refl

pub cut_at : (ss : Segments) (p : ℕ) (key : List ℕ) (n rest : ℕ) (d : List ℕ × ℕ) → 0 < p → p ≤ length ss → d ≡ get_or (insert ss p (key, rest)) (p - 1) d → set (insert ss p (key, rest)) (p - 1) (d.0, n) ≡ segments_cut ss p key n rest
cut_at ss zero key n rest d lt le e = absurd (omega arith)
cut_at ss (suc i) key n rest d lt le e =
    let one : suc i - 1 ≡ i = omega arith in
    let there : d ≡ get_or ss i ([], 0) = e ∙ ap (λ k. get_or (insert ss (suc i) (key, rest)) k d) one ∙ before_insert ss i key rest d (omega arith) in
    ap (λ k. set (insert ss (suc i) (key, rest)) k (d.0, n)) one ∙ ap (λ (x : List ℕ × ℕ). set (insert ss (suc i) (key, rest)) i (x.0, n)) there where
      before_insert : (ss : Segments) (i : ℕ) (key : List ℕ) (rest : ℕ) (d : List ℕ × ℕ) → i < length ss → get_or (insert ss (suc i) (key, rest)) i d ≡ get_or ss i ([], 0)
      before_insert [] i key rest d lt = absurd (omega arith)
      before_insert (s ∷ ss) zero key rest d lt = refl
      before_insert (s ∷ ss) (suc i) key rest d lt = before_insert ss i key rest d (omega arith)

pub head_cut_at : (head p n : ℕ) → 0 < p → head_cut head p n ≡ head
head_cut_at head zero n lt = absurd (omega arith)
head_cut_at head (suc i) n lt = refl

-- ---- the last segment

pub last_total : (at : ℕ) (ss : Segments) (p : ℕ) → p ≡ length ss → before_place at ss p + count_of at ss p ≡ total_of at ss
last_total at [] zero e = omega arith
last_total at [] (suc i) e = absurd (omega arith)
last_total at (s ∷ ss) zero e = absurd (omega arith)
last_total at (s ∷ ss) (suc i) e = last_after at s ss i (omega arith)
  where
    last_after : (at : ℕ) (s : List ℕ × ℕ) (ss : Segments) (i : ℕ) → i ≡ length ss → before_of at (s ∷ ss) i + (get_or (s ∷ ss) i ([], 0)).1 ≡ total_of at (s ∷ ss)
    last_after at s [] zero e = omega arith
    last_after at s [] (suc i) e = absurd (omega arith)
    last_after at s (t ∷ ss) zero e = absurd (omega arith)
    last_after at s (t ∷ ss) (suc i) e = last_after (at + s.1) t ss i (omega arith)
