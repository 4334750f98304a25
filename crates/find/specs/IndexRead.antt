-- The index that the struct of the code says.
-- This crate's own: it ties the code to the definition of `IndexAsked`.
use Rattle.std.specs.Prelude.{string_bytes}
use Rattle.find.specs.Indexes.{IndexAsked}
use Rattle.find.specs.declared.index.Index.{Index}

abbrev pub index_asked : Index → IndexAsked
index_asked i = record { design = i.design; name = string_bytes i.name; fields = i.fields.items }
