-- What a map from names to values is seen as, and a code that tells any two of them apart.
use Rattle.std.specs.Prelude.{List, String, refl}
use Rattle.std.specs.Coded.{Coded, code_by, coded×, coded_list}
use Rattle.std.specs.declared.alloc.Global.{Global}
use Rattle.std.specs.contracts.alloc.Global as heap
use Rattle.std.specs.contracts.string.String as text
use Rattle.std.specs.contracts.impls.GlobalAllocator.TheImpl.{ghosts}

-- the names with their values, in byte order of the names
pub record NameMap (X : Type 0) : Type 0 where
  pub entries : List (String Global × X)

abbrev pub name_code : Coded (String Global)
name_code = (text.the_row heap.the_row ghosts).coded

abbrev pub name_map_code : {X : Type 0} → Coded X → Coded (NameMap X)
name_map_code {X = X} values = code_by (List (String Global × X)) (coded_list (coded× name_code values)) (λ m. m.entries) (λ es. record { entries = es }) (λ _. refl)
