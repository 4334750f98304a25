use Rattle.std.proofs.Common.{◌≡◌, Err, not, true, rules}
use Rattle.tree.specs.DocumentId.{is_local_id}
use Rattle.api.specs.Paths.{named_id_in}
use Rattle.api.proofs.Ids.{says_all_refused, sifted_in}
use Rattle.api.proofs.path.document_id.Goals as goal

pub returns-in_err-id-clause-says : goal.returns-in_err-id-clause-says
returns-in_err-id-clause-says c =
    let is : c.from_residual.result ≡ Err c.in_err-id.field-0.0 = search rules in
    says_all_refused (λ id. not (is_local_id id)) (named_id_in c.args.path.now) c.from_residual.result c.in_err-id.field-0.0 is c.in_err-id.ensures

pub returns-clause-says : goal.returns-clause-says
returns-clause-says c =
    let kind : not (is_local_id c.in_ok-id.id) ≡ true = search rules in
    sifted_in (λ id. not (is_local_id id)) (named_id_in c.args.path.now) c.in_ok-id.id c.in_ok-id.ensures kind
