use Rattle.std.proofs.Common.{◌∙◌, inl}
use Rattle.std.proofs.lemmas.Result.{IfOk-weaker}
use Rattle.couch_http.specs.Beginning.{IsHeadRead}
use Rattle.couch_http.proofs.HeadLemmas.{method_token, after_head-found}
use Rattle.couch_http.proofs.head.read_head.Goals as goal

pub build_request-requires-clause-method_token : goal.build_request-requires-clause-method_token
build_request-requires-clause-method_token c =
    let found = c.in-Some.ensures.found in
    rw found.2.method (method_token found.0.method found.2.reads.0.method)

pub returns-in-Some : goal.returns-in-Some
returns-in-Some c =
    let found = c.in-Some.ensures.found in
    IfOk-weaker c.build_request.result _ (IsHeadRead c.args.head.now)
    (λ read is rest. inl (found.0, found.1, is rest ∙ after_head-found c.args.head.now c.find_parts.new.spans c.in-Some.found found.0 found.2 rest))
    c.build_request.ensures
