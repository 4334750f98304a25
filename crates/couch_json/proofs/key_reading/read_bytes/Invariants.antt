use Rattle.couch_json.proofs.KeyReading.{TextLeft}
use Rattle.couch_json.proofs.key_reading.read_bytes.Given as goal

abbrev pub invariant-loop-count : goal.invariant-loop-count
invariant-loop-count l = TextLeft l.bytes l.text.items l.rest l._count
