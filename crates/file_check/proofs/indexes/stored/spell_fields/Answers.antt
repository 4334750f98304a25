use Rattle.std.proofs.Common.{Some, rules, ◌≡◌, ◌∙◌}
use Rattle.std.specs.Prelude.{codes}
use Rattle.couch_json.specs.Lawful.{IsLawful}
use Rattle.couch_json.specs.Value.{member_of}
use Rattle.couch_json.specs.View.{view}
use Rattle.file_check.proofs.CheckSteps.{if_ok}
use Rattle.file_check.proofs.SpelledFields.{list_paths, list_text, on_if}
use Rattle.file_check.proofs.indexes.stored.spell_fields.Goals as goal

pub returns-clause-text : goal.returns-clause-text
returns-clause-text c =
    let there : member_of (view c.args.index.now) (codes "fields") ≡ Some (view c.in-Some.fields.now) = search rules in
    if_ok c.canon.result (λ text is. is ∙ list_text (view c.args.index.now) (view c.in-Some.fields.now) c.requires there) c.canon.ensures.text

pub returns-clause-paths : goal.returns-clause-paths
returns-clause-paths c =
    let there : member_of (view c.args.index.now) (codes "fields") ≡ Some (view c.in-Some.fields.now) = search rules in
    if_ok c.canon.result (λ text lawful. list_paths (view c.args.index.now) (view c.in-Some.fields.now) c.requires there lawful) (on_if (IsLawful (view c.in-Some.fields.now)) c.canon.result c.canon.ensures.lawful)
