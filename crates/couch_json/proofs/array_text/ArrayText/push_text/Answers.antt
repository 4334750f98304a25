use Rattle.std.proofs.Common.{ap, ◌∙◌}
use Rattle.couch_json.specs.Said.{behind_comma}
use Rattle.couch_json.proofs.Said.{array_begun, elements_said_by, pushed}
use Rattle.couch_json.proofs.array_text.ArrayText.push_text.Goals as goal

pub invariant_of-self-2 : goal.invariant_of-self-2
invariant_of-self-2 c =
    array_begun _ _ _
    (pushed _ _ _ c.self.inside.is_empty c.args.self.now c.args.value c.self.invariant c.self.view_is c.into_string.ensures.lawful
    (c.as_str.ensures.value ∙ c.in_ok-element.ensures ∙ ap (behind_comma c.self.inside.is_empty) c.into_string.ensures.text) c.in_ok-push_str.ensures.bytes)

pub returns-clause-ok : goal.returns-clause-ok
returns-clause-ok c =
    elements_said_by _ _ _
    (pushed _ _ _ c.self.inside.is_empty c.args.self.now c.args.value c.self.invariant c.self.view_is c.into_string.ensures.lawful
    (c.as_str.ensures.value ∙ c.in_ok-element.ensures ∙ ap (behind_comma c.self.inside.is_empty) c.into_string.ensures.text) c.in_ok-push_str.ensures.bytes)
