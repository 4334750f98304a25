use Rattle.std.proofs.Common.{◌++◌, ◌∙◌, ap, string_bytes}
use Rattle.couch_json.proofs.Said.{members_said_by, object_begun, put_behind}
use Rattle.couch_json.proofs.object_text.ObjectText.with.Goals as goal

pub invariant_of-result : goal.invariant_of-result
invariant_of-result c =
    object_begun _ _ _
    (put_behind _ _ _ _ _ c.args.self c.args.name.now c.args.value c.self.invariant c.self.view_is c.requires c.in_ok-key.ensures.utf8 c.into_string.ensures.lawful
    (c.as_str.ensures.value ∙ c.in_ok-key.ensures.text) c.into_string.ensures.text
    (c.in_ok-text.ensures ∙ ap (λ s. s ++ string_bytes c.into_string.result) c.in_ok-push_str.ensures.bytes))

pub returns : goal.returns
returns c =
    members_said_by _ _ _
    (put_behind _ _ _ _ _ c.args.self c.args.name.now c.args.value c.self.invariant c.self.view_is c.requires c.in_ok-key.ensures.utf8 c.into_string.ensures.lawful
    (c.as_str.ensures.value ∙ c.in_ok-key.ensures.text) c.into_string.ensures.text
    (c.in_ok-text.ensures ∙ ap (λ s. s ++ string_bytes c.into_string.result) c.in_ok-push_str.ensures.bytes))
