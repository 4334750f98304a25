-- How a number is kept: whether it is below zero, and how far it stands above 0 or below -1.
-- No outside source decides; that it keeps each number exactly is proved here.
use Rattle.std.specs.Prelude.{◌≡◌, ℕ, ℤ, pos, negsuc, Bool, true, false, if◌then◌else◌, refl}
use Rattle.couch_json.specs.Range.{IsInRange}
use Rattle.couch_json.specs.declared.number.Number.TheInside.{Inside}

-- the number that the fields keep
abbrev pub kept : Inside → ℤ
kept a = if a.below_zero then negsuc a.distance else pos a.distance

-- the fields that keep a number
abbrev pub spread : ℤ → Inside
spread (pos n) = record { below_zero = false; distance = n }
spread (negsuc n) = record { below_zero = true; distance = n }

abbrev pub IsKept : Inside → Type 0
IsKept a = IsInRange (kept a)

pub kept_sign : (below_zero : Bool) (distance : ℕ) → spread (if below_zero then negsuc distance else pos distance) ≡ record { below_zero = below_zero; distance = distance }
kept_sign true distance = refl
kept_sign false distance = refl

pub spread-kept : (a : Inside) → IsKept a → spread (kept a) ≡ a
spread-kept a h = kept_sign a.below_zero a.distance
