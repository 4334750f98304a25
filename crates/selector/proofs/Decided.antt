-- Several truth values, of which one decides, as more of them come.
use Rattle.std.proofs.Common.{◌≡◌, Bool, true, false, ◌||◌, not, Option, Some, None, Ordering, Less, Equal, Greater, refl}
use Rattle.std.specs.Ordering.{is_gt, is_lt, is_ne}
use Rattle.couch_json.specs.Parts.{is_there_and}
use Rattle.couch_json.specs.Value.{Value}
use Rattle.selector.specs.Lookup.{decides, holds_or}
use Rattle.selector.specs.declared.operator.ListOperator.{ListOperator}

pub or_assoc : (a b c : Bool) → a || (b || c) ≡ (a || b) || c
or_assoc true b c = refl
or_assoc false b c = refl

pub or_false : (a : Bool) → a ≡ a || false
or_false true = refl
or_false false = refl

pub or_turned : (a b : Bool) → a || b ≡ b || a
or_turned true true = refl
or_turned true false = refl
or_turned false true = refl
or_turned false false = refl

pub or_crossed : (a b c : Bool) → a || (b || c) ≡ (b || a) || c
or_crossed true true c = refl
or_crossed true false c = refl
or_crossed false b c = or_falling b c
  where
    or_falling : (b c : Bool) → b || c ≡ (b || false) || c
    or_falling true c = refl
    or_falling false c = refl

pub not_not : (b : Bool) → b ≡ not (not b)
not_not true = refl
not_not false = refl

no_truth : {A : Type 0} → false ≡ true → A
no_truth h = absurd (cc)

-- ---- limits

-- what is added lies below the limit already
pub below_kept : (a b c u : Bool) → (u ≡ true → b ≡ true) → a || (b || c) ≡ u || (a || (b || c))
below_kept a b c false h = refl
below_kept true b c true h = refl
below_kept false true c true h = refl
below_kept false false c true h = no_truth (h refl)

-- what is added goes further than the limit
pub below_moved : (a b c u : Bool) → (b ≡ true → u ≡ true) → a || (u || c) ≡ u || (a || (b || c))
below_moved true b c true h = refl
below_moved true b c false h = refl
below_moved false b c true h = refl
below_moved false true c false h = no_truth (h refl)
below_moved false false c false h = refl

pub above_kept : (a b c u : Bool) → (u ≡ true → c ≡ true) → a || (b || c) ≡ u || (a || (b || c))
above_kept a b c false h = refl
above_kept true b c true h = refl
above_kept false true c true h = refl
above_kept false false true true h = refl
above_kept false false false true h = no_truth (h refl)

pub above_moved : (a b c u : Bool) → (c ≡ true → u ≡ true) → a || (b || u) ≡ u || (a || (b || c))
above_moved true b c true h = refl
above_moved true b c false h = refl
above_moved false true c true h = refl
above_moved false true c false h = refl
above_moved false false c true h = refl
above_moved false false true false h = no_truth (h refl)
above_moved false false false false h = refl

-- all but one lie below it or above it
pub either_side : (o : Ordering) (rest : Bool) → is_gt o || (is_lt o || rest) ≡ is_ne o || rest
either_side Less rest = refl
either_side Equal rest = refl
either_side Greater rest = refl

-- ---- what a path reaches

-- a test is added to those of what a path reaches
pub test_added : (m more : Bool) (o : ListOperator) (before after test : Value → Bool) → more ≡ decides o false || m → ((v : Value) → after v ≡ decides o (test v) || before v)
    → (reached : Option Value) → holds_or more after reached ≡ decides o (is_there_and test reached) || holds_or m before reached
test_added m more o before after test is same None = is
test_added m more o before after test is same (Some v) = same v

-- no test is added
pub none_added : (m : Bool) (before after : Value → Bool) → ((v : Value) → after v ≡ before v)
    → (reached : Option Value) → holds_or m after reached ≡ holds_or m before reached
none_added m before after same None = refl
none_added m before after same (Some v) = same v
