-- What the headers of a request say of its body and its connection, and how its target is parted.
-- RFC 9112, sections 6.1 to 6.3 and 9.6, and RFC 9110, sections 5.1, 5.5 and 7.6.1; the limit is this project's own.
use Rattle.std.specs.Prelude.{ℕ, ◌+◌, ◌-◌, ◌*◌, Bool, ◌&&◌, List, [], ◌∷◌, length, map, if◌then◌else◌, ◌==◌, nat_lt, codes, Option, Some, None, Result, Ok, Err}
use Rattle.std.specs.Char.{is_ascii_digit, to_ascii_lowercase}
use Rattle.std.specs.List.{list_all, list_any, slice_split, position_or_len, before_first, after_first}
use Rattle.std.specs.Str.{bytes_eq}
use Rattle.httparse.specs.Ascii.{comma}
use Rattle.httparse.specs.Grammar.{trim_ows}
use Rattle.couch_http.specs.declared.fault.HttpFault.{HttpFault}
use Rattle.couch_http.specs.declared.fault.HttpFault.TheVariants.{Syntax, TooLarge}
use Rattle.couch_http.specs.Message.{HeaderField}

-- a body has at most so many bytes
unfoldable pub body_limit : ℕ
body_limit = 4194304

-- equal without ASCII case
unfoldable pub same_name : List ℕ → List ℕ → Bool
same_name a b = bytes_eq (map to_ascii_lowercase a) (map to_ascii_lowercase b)

-- the values of the headers of a name, in order
abbrev pub values_of_header : List ℕ → List HeaderField → List (List ℕ)
values_of_header name [] = []
values_of_header name (h ∷ headers) =
    if same_name h.name name then h.value ∷ values_of_header name headers else values_of_header name headers

-- the number that decimal digits write behind n; 48 is the digit 0
abbrev pub decimal_after : ℕ → List ℕ → ℕ
decimal_after n [] = n
decimal_after n (digit ∷ digits) = decimal_after (n * 10 + (digit - 48)) digits

-- a length is written in decimal digits, at least one, and may not pass the limit
abbrev pub length_text : ℕ → List ℕ → Result ℕ HttpFault
length_text limit text =
    if nat_lt 0 (length text) && list_all is_ascii_digit text
    then (if nat_lt limit (decimal_after 0 text) then Err TooLarge else Ok (decimal_after 0 text))
    else Err Syntax

-- the length of these values, which is `absent` where there is none; two are refused
abbrev pub length_of_values : ℕ → Result ℕ HttpFault → List (List ℕ) → Result ℕ HttpFault
length_of_values limit absent [] = absent
length_of_values limit absent (value ∷ []) = length_text limit value
length_of_values limit absent (value ∷ other ∷ more) = Err Syntax

-- what `Content-Length` says, up to the limit
abbrev pub content_length : ℕ → Result ℕ HttpFault → List HeaderField → Result ℕ HttpFault
content_length limit absent headers = length_of_values limit absent (values_of_header (codes "Content-Length") headers)

-- of a request: without the header it has no body
abbrev pub request_length : List HeaderField → Result ℕ HttpFault
request_length headers = content_length body_limit (Ok 0) headers

-- a message has the field Transfer-Encoding
abbrev pub has_transfer_encoding : List HeaderField → Bool
has_transfer_encoding headers = nat_lt 0 (length (values_of_header (codes "Transfer-Encoding") headers))

-- one of the parts between commas is `close`, with spaces and tabs around it dropped
abbrev pub lists_close : List ℕ → Bool
lists_close value = list_any (λ part. same_name (trim_ows part) (codes "close")) (slice_split (λ b. b == comma) value)

-- some `Connection` header lists `close`
abbrev pub asks_close : List HeaderField → Bool
asks_close headers = list_any (λ value. lists_close value) (values_of_header (codes "Connection") headers)

-- the byte of a question mark
abbrev pub question_mark : ℕ
question_mark = 63

-- the target up to its first question mark
abbrev pub target_path : List ℕ → List ℕ
target_path target = before_first (λ b. b == question_mark) target

-- what stands behind the first question mark, where there is one
abbrev pub target_query : List ℕ → Option (List ℕ)
target_query target =
    if nat_lt (position_or_len (λ b. b == question_mark) target) (length target)
    then Some (after_first (λ b. b == question_mark) target)
    else None
