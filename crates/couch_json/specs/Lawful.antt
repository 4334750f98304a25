-- Which values are lawful: whole numbers in range, texts in UTF-8, the names of each object in strictly ascending byte order.
-- RFC 8259, section 4 (names unique), section 6 (range), section 8.1 (UTF-8). Every `Json` of the code stands for a lawful value.
use Rattle.std.specs.Prelude.{◌≡◌, ℕ, List, ⊤, IsUtf8}
use Rattle.std.specs.declared.cmp.Ordering.TheVariants.{Less}
use Rattle.std.specs.Ordering.{nat_cmp}
use Rattle.std.specs.Cmp.Lexicographic.{slice_cmp}
use Rattle.couch_json.specs.Range.{IsInRange}
use Rattle.couch_json.specs.Value.{Value, null, truth, whole, text, array, object, Items, no_items, item, Members, no_members, member}

-- the name stands before each name of the members
abbrev pub IsBefore : List ℕ → Members → Type 0
IsBefore name no_members = ⊤
IsBefore name (member other v ms) = (slice_cmp nat_cmp name other ≡ Less) × IsBefore name ms

-- each name stands before those behind it
abbrev pub HasAscendingNames : Members → Type 0
HasAscendingNames no_members = ⊤
HasAscendingNames (member name v ms) = IsBefore name ms × HasAscendingNames ms

abbrev mutual
  -- a value that a `Json` may hold
  pub IsLawful : Value → Type 0
  IsLawful null = ⊤
  IsLawful (truth b) = ⊤
  IsLawful (whole n) = IsInRange n
  IsLawful (text s) = IsUtf8 s
  IsLawful (array vs) = AreLawfulItems vs
  IsLawful (object ms) = HasAscendingNames ms × AreLawfulMembers ms

  -- each element is lawful
  pub AreLawfulItems : Items → Type 0
  AreLawfulItems no_items = ⊤
  AreLawfulItems (item v vs) = IsLawful v × AreLawfulItems vs

  -- each name is UTF-8, and each value lawful
  pub AreLawfulMembers : Members → Type 0
  AreLawfulMembers no_members = ⊤
  AreLawfulMembers (member name v ms) = IsUtf8 name × IsLawful v × AreLawfulMembers ms
