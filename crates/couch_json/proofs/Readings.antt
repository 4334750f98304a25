-- What serde_json reads of bytes that may not be UTF-8.
use Rattle.std.proofs.Common.{◌≡◌, ℕ, List, Bool, true, false, Option, None, IsUtf8, cond, refl}
use Rattle.std.proofs.lemmas.Str.{IsUtf8-from_is_utf8, is_utf8-from_IsUtf8}
use Rattle.std.specs.Str.{is_utf8}
use Rattle.serde_json.specs.Data.{Data}
use Rattle.serde_json.specs.Read.{read}
use Rattle.couch_json.specs.Reading.{data_read}

pub data_read-IsUtf8 : (bytes : List ℕ) → IsUtf8 bytes → data_read bytes ≡ read bytes
data_read-IsUtf8 bytes utf8 = rw (is_utf8-from_IsUtf8 bytes utf8)

none_where : (b : Bool) (o : Option Data) → (b ≡ true → o ≡ None) → cond b o None ≡ None
none_where true o h = h refl
none_where false o h = refl

pub data_read_none : (bytes : List ℕ) → (IsUtf8 bytes → read bytes ≡ None) → data_read bytes ≡ None
data_read_none bytes h = none_where (is_utf8 bytes) (read bytes) (λ e. h (IsUtf8-from_is_utf8 bytes e))
