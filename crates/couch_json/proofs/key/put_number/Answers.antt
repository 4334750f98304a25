use Rattle.std.proofs.Common.{◌≡◌, ◌++◌, ap, drop, take, ◌∙◌}
use Rattle.std.specs.Int.{bytes_high_first}
use Rattle.couch_json.specs.Key.{height}
use Rattle.couch_json.proofs.key.put_number.Goals as goal

pub returns : goal.returns
returns c =
    let all : c.to_be_bytes.result ≡ bytes_high_first 16 (height c.args.number) = c.to_be_bytes.ensures ∙ ap (bytes_high_first 16) c.height_of.ensures in
    c.in_ok-extend_from_slice.ensures.items ∙ ap (λ bytes. c.args.out.now.items ++ take 9 (drop 7 bytes)) all
