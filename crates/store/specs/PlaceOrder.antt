-- The order of places in an index is total.
-- CouchDB manual, ddocs/views/collation, for the order of keys; that ties go by the bytes of the ids is this server's own.
use Rattle.std.specs.Cmp.{IsTotalOrder, on_total, then_total}
use Rattle.std.specs.Cmp.Lexicographic.{nat_list_cmp_total}
use Rattle.couch_json.proofs.Orders.{collation_total}
use Rattle.store.specs.Indexes.{IndexPlace, place_order}

pub place_order_total : IsTotalOrder place_order
place_order_total = then_total (on_total (λ (p : IndexPlace). p.key) collation_total) (on_total (λ (p : IndexPlace). p.id) nat_list_cmp_total)
