use Rattle.std.proofs.Common.{◌≡◌, Err, false, rules}
use Rattle.tree.specs.DocumentId.{is_local_id}
use Rattle.api.specs.Paths.{named_id_in}
use Rattle.api.proofs.Ids.{says_all_refused, sifted_out}
use Rattle.api.proofs.path.local_id.Goals as goal

pub returns-in_err-id-clause-says : goal.returns-in_err-id-clause-says
returns-in_err-id-clause-says c =
    let is : c.from_residual.result ≡ Err c.in_err-id.field-0.0 = search rules in
    says_all_refused is_local_id (named_id_in c.args.path.now) c.from_residual.result c.in_err-id.field-0.0 is c.in_err-id.ensures

pub returns-then-not-is_local-clause-says : goal.returns-then-not-is_local-clause-says
returns-then-not-is_local-clause-says c =
    let kind : is_local_id c.in_ok-id.id ≡ false = search rules in
    sifted_out is_local_id (named_id_in c.args.path.now) c.in_ok-id.id c.in_ok-id.ensures kind
