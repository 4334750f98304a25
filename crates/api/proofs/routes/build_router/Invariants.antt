use Rattle.std.proofs.Common.{◌≡◌, [], map, drop}
use Rattle.api.specs.Routing.{AreApart, with_routes}
use Rattle.api.proofs.routes.build_router.Given as goal

-- what is left decides, and is apart
abbrev pub invariant-loop-text : goal.invariant-loop-text
invariant-loop-text l = record {
  same : with_routes (map (λ r. (r.0.now, r.1)) (drop l.text-index l.routes)) l.router ≡ with_routes (map (λ r. (r.0.now, r.1)) l.routes) [];
  apart : AreApart (map (λ r. (r.0.now, r.1)) (drop l.text-index l.routes)) l.router;
}
