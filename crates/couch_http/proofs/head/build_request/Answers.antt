use Rattle.std.proofs.Common.{◌≡◌, ◌||◌, ◌==◌, false, Ok, map, rules}
use Rattle.std.specs.Option.{option_map}
use Rattle.std.specs.String.{string_bytes}
use Rattle.httparse.specs.Spans.{span_bytes}
use Rattle.couch_http.specs.Message.{header_field}
use Rattle.couch_http.specs.Fields.{has_transfer_encoding, request_length, asks_close, target_path, target_query}
use Rattle.couch_http.proofs.HeadLemmas.{with_body-announced}
use Rattle.couch_http.proofs.head.build_request.Goals as goal

pub returns : goal.returns
returns c =
    let headers = map header_field c.in_ok-headers.headers.items in
    let plain : has_transfer_encoding headers ≡ false = search rules in
    let size : request_length headers ≡ Ok c.in-Ok.length = search rules in
    let method : c.in_ok-method.method ≡ span_bytes c.args.head.now c.args.found.method = search rules in
    let path : string_bytes c.in_ok-path.path ≡ target_path (span_bytes c.args.head.now c.args.found.path) = search rules in
    let query : option_map string_bytes c.in_ok-query.query ≡ target_query (span_bytes c.args.head.now c.args.found.path) = search rules in
    let last : c.is_last-last.result ≡ (c.args.found.version == 0 || asks_close headers) = search rules in
    rw (← c.in_ok-headers.ensures)
    (with_body-announced (span_bytes c.args.head.now c.args.found.method) (span_bytes c.args.head.now c.args.found.path) c.args.found.version headers _ c.in-Ok.length plain size
    (λ i. record { method = method i; path = path i; query = query i; headers = headers; body = c.new-body.ensures.items i; last = last i }))
