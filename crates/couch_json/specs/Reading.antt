-- Which value a text has, or why it has none.
-- RFC 8259 as serde_json reads it: its own definition says what a JSON text is, and of a repeated name the last value stands.
use Rattle.std.specs.Prelude.{ℕ, List, Option, Some, None, Result, Ok, Err, if◌then◌else◌, option_map, option_and_then}
use Rattle.std.specs.Str.{is_utf8}
use Rattle.json.specs.Lex.{tokens}
use Rattle.json.specs.Json.{if_last}
use Rattle.json.specs.Json as json
use Rattle.serde_json.specs.Data as serde
use Rattle.serde_json.specs.Find.{as_integer}
use Rattle.serde_json.specs.Read.{read, of_json}
use Rattle.couch_json.specs.declared.fault.JsonFault.{JsonFault}
use Rattle.couch_json.specs.declared.fault.JsonFault.TheVariants.{Syntax, Number, Depth}
use Rattle.couch_json.specs.Nesting.{nests_too_deep}
use Rattle.couch_json.specs.Value.{Value, null, truth, whole, text, array, object, Items, no_items, item, Members, no_members, put}

-- The value that data of serde_json are, where each number is whole and in range: an integer of 64 bits, with a sign or without.
-- serde_json reads a fraction, an exponent, `-0` and what leaves this range as a float.
abbrev mutual
  pub value_of : serde.Data → Option Value
  value_of serde.null = Some null
  value_of (serde.boolean b) = Some (truth b)
  value_of (serde.number n) = option_map whole (as_integer n)
  value_of (serde.string s) = Some (text s)
  value_of (serde.array ds) = option_map array (items_of_data ds)
  value_of (serde.object ms) = option_map object (members_of_data ms no_members)

  -- the elements, where each of them is a value
  pub items_of_data : serde.Items → Option Items
  items_of_data serde.no_items = Some no_items
  items_of_data (serde.item d ds) = option_and_then (λ v. option_map (item v) (items_of_data ds)) (value_of d)

  -- the members, put one after another into those found before
  pub members_of_data : serde.Members → Members → Option Members
  members_of_data serde.no_members found = Some found
  members_of_data (serde.member name d ms) found = option_and_then (λ v. members_of_data ms (put name v found)) (value_of d)

-- a value with whole numbers alone, or the fault of one that has another
abbrev pub whole_or_fault : Option Value → Result Value JsonFault
whole_or_fault None = Err Number
whole_or_fault (Some v) = Ok v

-- the value that was read, or why there is none; bytes that are no JSON are no syntax
abbrev pub value_or_fault : Option serde.Data → Result Value JsonFault
value_or_fault None = Err Syntax
value_or_fault (Some d) = whole_or_fault (value_of d)

-- what serde_json reads; bytes that are not UTF-8 have no reading
abbrev pub data_read : List ℕ → Option serde.Data
data_read bytes = if is_utf8 bytes then read bytes else None

-- the value of the bytes, or the first fault: nesting, then syntax, then a number
abbrev pub reading : List ℕ → Result Value JsonFault
reading bytes = if nests_too_deep bytes then Err Depth else value_or_fault (data_read bytes)

-- what serde_json would read with another limit on depth than its own
abbrev pub data_read_within : ℕ → List ℕ → Option serde.Data
data_read_within limit bytes = option_and_then of_json (option_and_then (λ p. if_last p.0 p.1) (json.value limit (tokens bytes)))

-- the value that was read, if it could be
abbrev pub value_read : Result Value JsonFault → Option Value
value_read (Ok v) = Some v
value_read (Err fault) = None
