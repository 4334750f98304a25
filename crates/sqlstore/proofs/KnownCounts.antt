-- What is known of a database that was counted or not, and without its indexes.
use Rattle.sqlstore.proofs.Common.{Bool, IfSome, KnownDatabase, None, Option, Trees, false, subst, sym, true, ◌≡◌}
use Rattle.sqlstore.specs.inner.Listing.{all_count}
use Rattle.sqlstore.specs.inner.Reading.{count_kept, with_count, without_indexes}
use Rattle.sqlstore.specs.Standing.{IsKnownDatabase}
use Rattle.sqlstore.specs.declared.document_count.DocumentCount.{DocumentCount}

-- no count is known
pub uncounted : (trees : Trees) (k : KnownDatabase) → k.live ≡ None → k.deleted ≡ None → (deleted : Bool) → IfSome (count_kept deleted k) (λ (c : DocumentCount). c.value ≡ all_count trees k.found.number deleted)
uncounted trees k live gone true = subst (λ (o : Option DocumentCount). IfSome o (λ (c : DocumentCount). c.value ≡ all_count trees k.found.number true)) (sym gone) tt
uncounted trees k live gone false = subst (λ (o : Option DocumentCount). IfSome o (λ (c : DocumentCount). c.value ≡ all_count trees k.found.number false)) (sym live) tt

-- one count more is known
pub known_counted : (trees : Trees) (k : KnownDatabase) (deleted : Bool) (count : DocumentCount) → IsKnownDatabase trees k → count.value ≡ all_count trees k.found.number deleted → IsKnownDatabase trees (with_count deleted count k)
known_counted trees k true count known is = record {
  row = known.row;
  counts = λ d. elim d as (λ b. IfSome (count_kept b (with_count true count k)) (λ (c : DocumentCount). c.value ≡ all_count trees k.found.number b)) [ true ↦ is | false ↦ known.counts false ];
  ranked = known.ranked;
  indexes = known.indexes;
  index_ranked = known.index_ranked;
  designed = known.designed;
}
known_counted trees k false count known is = record {
  row = known.row;
  counts = λ d. elim d as (λ b. IfSome (count_kept b (with_count false count k)) (λ (c : DocumentCount). c.value ≡ all_count trees k.found.number b)) [ true ↦ known.counts true | false ↦ is ];
  ranked = known.ranked;
  indexes = known.indexes;
  index_ranked = known.index_ranked;
  designed = known.designed;
}

-- neither indexes, nor the ranks of their keys, nor design documents are known any more
pub known_split : (trees : Trees) (k : KnownDatabase) → IsKnownDatabase trees k → IsKnownDatabase trees (without_indexes k)
known_split trees k known = record { row = known.row; counts = known.counts; ranked = known.ranked; indexes = tt; index_ranked = tt; designed = tt }
