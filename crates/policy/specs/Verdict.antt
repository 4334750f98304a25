-- The verdict of the written policy: the first rule that refuses an action, or none.
-- CouchDB manual, api/database/security and api/server/authn, for who may do what; the order of the rules is this server's own.
use Rattle.std.specs.Prelude.{Bool, List, [], ◌∷◌, Option, Some, None, if◌then◌else◌}
use Rattle.auth.specs.Callers.{Identity}
use Rattle.couch_json.specs.Value.{Value}
use Rattle.policy.specs.Security.{is_server_admin, is_database_admin, is_member}
use Rattle.policy.specs.declared.action.Action.{Action}
use Rattle.policy.specs.declared.action.Action.TheVariants.{Administer, Read, WriteSecurity, WriteDesign, WriteDocument}
use Rattle.policy.specs.declared.rule.Rule.{Rule}
use Rattle.policy.specs.declared.rule.Rule.TheVariants.{ServerAdmin, DbMember, DbAdmin, DesignDocument}

-- what each action asks, in order, once it is known who calls: whether a rule is met, and the rule. The update rules of a
-- database come after these.
abbrev pub conditions : Action → Identity → Value → List (Bool × Rule)
conditions Administer caller security = (is_server_admin caller, ServerAdmin) ∷ []
conditions Read caller security = (is_member security caller, DbMember) ∷ []
conditions WriteSecurity caller security = (is_member security caller, DbMember) ∷ (is_database_admin security caller, DbAdmin) ∷ []
conditions WriteDesign caller security = (is_member security caller, DbMember) ∷ (is_database_admin security caller, DesignDocument) ∷ []
conditions WriteDocument caller security = (is_member security caller, DbMember) ∷ []

-- the first rule that is not met
abbrev pub first_refusal : List (Bool × Rule) → Option Rule
first_refusal [] = None
first_refusal (c ∷ cs) = if c.0 then first_refusal cs else Some c.1

-- the rule that refuses the action first, if one does
abbrev pub verdict : Action → Identity → Value → Option Rule
verdict action caller security = first_refusal (conditions action caller security)
