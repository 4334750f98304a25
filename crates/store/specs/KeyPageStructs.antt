-- The pages by key that the structs of the code are.
-- This crate's own: it ties them to the definitions of `KeyPages`.
use Rattle.std.specs.Prelude.{◌≡◌, ◌<◌, ◌≤◌, ◌^◌, IfSome, is_some, Option, option_map}
use Rattle.store.specs.KeyPages.{KeyPage}
use Rattle.store.specs.declared.index_page.KeyRange.{KeyRange}
use Rattle.store.specs.declared.index_page.PageByKey.{PageByKey}

abbrev pub key_page_of : PageByKey → KeyPage
key_page_of p = record { rows = p.rows.items; counts = p.counts }

-- the page, where there is such an index
abbrev pub key_page_in : Option PageByKey → Option KeyPage
key_page_in page = option_map key_page_of page

-- no more rows come before the page than there are, a JSON value may hold the numbers, and there are counts exactly where they are
-- asked for
pub record HasKeyCounts (range : KeyRange) (p : PageByKey) : Type 0 where
  pub counted : is_some p.counts ≡ range.counted
  pub counts : IfSome p.counts (λ counts. (counts.offset ≤ counts.total) × (counts.total < 2 ^ 63))
