use Rattle.sqlstore.proofs.Common.{KnownDatabase, rules}
use Rattle.sqlstore.proofs.EarlierKnown.{forgotten_known, others_left}
use Rattle.std.proofs.lemmas.Fn.{filter_same}
use Rattle.std.specs.Prelude.{bytes_eq, not}
use Rattle.sqlstore.proofs.earlier.forget_named.Goals as goal

pub returns-clause-apart : goal.returns-clause-apart
returns-clause-apart c =
    others_left c.args.name.now c.args.earlier.now.items _ (filter_same _ (λ (k : KnownDatabase). not (bytes_eq k.name c.args.name.now)) _ (λ x r f' k. search rules) _ _ c.retain.ensures.filtered)

pub returns-clause-known : goal.returns-clause-known
returns-clause-known c trees known =
    forgotten_known c.args.name.now c.args.earlier.now.items _ (filter_same _ (λ (k : KnownDatabase). not (bytes_eq k.name c.args.name.now)) _ (λ x r f' k. search rules) _ _ c.retain.ensures.filtered) trees known
