use Rattle.couch_http.specs.Message.{message_of}
use Rattle.couch_json.specs.View.{view}
use Rattle.node.proofs.Comings.{deletion_comes}
use Rattle.node.proofs.document.delete_document.Goals as goal

pub returns : goal.returns
returns g c = record {
  works = record {
    comes = λ honest db there.
        deletion_comes c.args.caller.now (message_of c.args.request.now) c.args.name.now db (c.in_ok-id.id, c.in_ok-id.rev) c.in-Some.rev (view c.in_ok-document.document) c.edit_document.result
        c.in_ok-id.ensures.says c.in-Some.is c.in_ok-document.ensures (c.edit_document.ensures.works.comes honest db there);
    may = c.edit_document.ensures.works.may;
    own = c.edit_document.ensures.works.own;
    ends = c.edit_document.ensures.works.ends;
    reads = c.edit_document.ensures.works.reads;
  };
}
