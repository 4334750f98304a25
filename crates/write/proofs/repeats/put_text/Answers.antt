use Rattle.std.proofs.Common.{◌∙◌, ap, option_copied, sym}
use Rattle.std.specs.Prelude.{codes}
use Rattle.couch_json.specs.View.{view}
use Rattle.write.specs.Document.{member_text}
use Rattle.write.proofs.Repetitions.{put_named}
use Rattle.write.proofs.repeats.put_text.Goals as goal

pub returns-clause-put : goal.returns-clause-put
returns-clause-put c =
    put_named c.args.texts.now c.insert.new.self c.in-Some.text (member_text (codes "_id") (view c.args.document.now)) c.in_ok-added.ensures.updates.0
    (sym c.find_text.ensures ∙ ap option_copied c.in-Some.is)
