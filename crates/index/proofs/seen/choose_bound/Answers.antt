use Rattle.std.proofs.Common.{inl, rules, true, ◌≡◌}
use Rattle.tables.specs.Listings.{is_between}
use Rattle.index.proofs.seen.choose_bound.Goals as goal

pub returns-in-Ok-Blob : goal.returns-in-Ok-Blob
returns-in-Ok-Blob c = let within : is_between c.args.low.now c.args.high.now c.in-Ok-Blob.id.now ≡ true = search rules in inl within
