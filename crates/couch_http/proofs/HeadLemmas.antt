-- What follows from the headers of a head.
use Rattle.std.proofs.Common.{◌≡◌, ℕ, false, List, [], ◌∷◌, map, take, refl, sym, ap, ◌∙◌, Ok}
use Rattle.std.specs.Prelude.{IsTrue}
use Rattle.std.proofs.lemmas.List.Elements.{All-weaker}
use Rattle.httparse.specs.declared.spans.HeaderSpan.{HeaderSpan}
use Rattle.httparse.specs.declared.spans.RequestSpans.{RequestSpans}
use Rattle.httparse.specs.declared.spans.ResponseSpans.{ResponseSpans}
use Rattle.http_header.specs.Token as Token
use Rattle.httparse.specs.Grammar as Grammar
use Rattle.httparse.specs.Grammar.{Field, RequestHead, ResponseHead}
use Rattle.httparse.specs.Spans.{span_bytes, header_bytes, name_and_value, IsRequestAt, IsResponseAt}
use Rattle.couch_http.specs.Beginning.{field_at}
use Rattle.couch_http.specs.Message.{HeaderField, Message}
use Rattle.couch_http.specs.Fields.{has_transfer_encoding, request_length}
use Rattle.couch_http.specs.ReplyStream.{after_reply_head, reply_front}
use Rattle.couch_http.specs.Stream.{announced_request, with_body, after_head, field_of, front_of}

-- the request that is announced awaits its body
pub with_body-announced : (method target : List ℕ) (minor : ℕ) (headers : List HeaderField) (m : Message) (size : ℕ)
    → has_transfer_encoding headers ≡ false → request_length headers ≡ Ok size → m ≡ announced_request method target minor headers
    → (rest : List ℕ) → with_body m size rest ≡ after_head method target minor headers rest
with_body-announced method target minor headers m size plain length same rest = rw (same, plain, length) refl

same_tokens : (b : ℕ) → IsTrue (Grammar.is_token_byte b) → IsTrue (Token.is_token_byte b)
unfolding Grammar.is_token_byte Token.is_token_byte
same_tokens b token = token

-- a method of the grammar is a token
pub method_token : (bytes : List ℕ) → Grammar.IsToken bytes → Token.IsToken bytes
method_token bytes token =
    (token.0, All-weaker (λ b. IsTrue (Grammar.is_token_byte b)) (λ b. IsTrue (Token.is_token_byte b)) same_tokens bytes token.1)

-- a name and a value as a header
with_name : List ℕ × List ℕ → HeaderField
with_name p = record { name = p.0; value = p.1 }

map_field_at : (head : List ℕ) (spans : List HeaderSpan) → map (field_at head) spans ≡ map with_name (map (header_bytes head) spans)
unfolding with_name
map_field_at head [] = refl
map_field_at head (s ∷ spans) = ap (λ (l : List HeaderField). field_at head s ∷ l) (map_field_at head spans)

map_field_of : (fields : List Field) → map field_of fields ≡ map with_name (map name_and_value fields)
unfolding with_name
map_field_of [] = refl
map_field_of (f ∷ fields) = ap (λ (l : List HeaderField). field_of f ∷ l) (map_field_of fields)

-- the parts that were found are those of the head
pub after_head-found : (head : List ℕ) (spans : List HeaderSpan) (found : RequestSpans) (h : RequestHead)
    → IsRequestAt head spans found h → (rest : List ℕ)
    → after_head (span_bytes head found.method) (span_bytes head found.path) found.version (map (field_at head) (take found.headers spans)) rest
    ≡ front_of h rest
after_head-found head spans found h at rest =
    let fields : map (field_at head) (take found.headers spans) ≡ map field_of h.fields =
    map_field_at head (take found.headers spans) ∙ ap (map with_name) at.fields ∙ sym (map_field_of h.fields) in
    rw (at.method, at.path, at.version, fields) refl

-- the same for a reply
pub after_reply_head-found : (head : List ℕ) (spans : List HeaderSpan) (found : ResponseSpans) (h : ResponseHead)
    → IsResponseAt head spans found h → (rest : List ℕ)
    → after_reply_head head found.code (map (field_at head) (take found.headers spans)) rest ≡ reply_front head h rest
after_reply_head-found head spans found h at rest =
    let fields : map (field_at head) (take found.headers spans) ≡ map field_of h.fields =
    map_field_at head (take found.headers spans) ∙ ap (map with_name) at.fields ∙ sym (map_field_of h.fields) in
    rw (at.code, fields) refl
