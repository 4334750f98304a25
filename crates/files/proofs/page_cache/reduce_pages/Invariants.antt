use Rattle.std.proofs.Common.{◌≤◌}
use Rattle.files.proofs.page_cache.reduce_pages.Given as goal

abbrev pub invariant-loop-pages : goal.invariant-loop-pages
invariant-loop-pages l = l.pages ≤ l.wanted

abbrev pub decreases-loop-pages : goal.decreases-loop-pages
decreases-loop-pages l = l.pages
