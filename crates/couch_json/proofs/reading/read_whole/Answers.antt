use Rattle.std.proofs.Common.{◌≡◌, [], IsUtf8, refl, subst, arith, rules}
use Rattle.json.specs.Lex.{tokens}
use Rattle.couch_json.specs.inner.Parsing.{IsRead}
use Rattle.couch_json.proofs.Readings.{data_read_none}
use Rattle.couch_json.proofs.TokensRead.{text_read_whole}
use Rattle.couch_json.proofs.reading.read_whole.Goals as goal

pub returns-in_default-clause-fault : goal.returns-in_default-clause-fault
returns-in_default-clause-fault c =
    let none : ¬ IsUtf8 c.args.bytes.now = search rules in
    λ _. (refl, data_read_none c.args.bytes.now (λ utf8. absurd (none utf8)))

pub returns-clause-read : goal.returns-clause-read
returns-clause-read c =
    let bytes = c.args.bytes.now in
    let left = c.read_value.new.reader in
    let utf8 : IsUtf8 bytes = search rules in
    let first : c.in_ok-reader.reader ≡ tokens bytes = search rules in
    let none : left ≡ [] = grind arith in
    text_read_whole bytes left c.in_ok-found.found utf8 none (subst (λ ts. IsRead 127 ts c.in_ok-found.found left) first c.in_ok-found.ensures.read)
