-- What a request says besides its path: who asks, by which method, with which parameters and which body.
-- CouchDB manual, api/server/authn (proxy headers) and api/document/common (methods); URL Standard, section 5 (parameters of a query).
use Rattle.std.specs.Prelude.{ℕ, Bool, List, [], ◌∷◌, map, Option, Some, None, Result, Ok, Err, if◌then◌else◌, bytes_eq, codes, true, false}
use Rattle.auth.specs.Callers.{Identity, Configuration, caller_of}
use Rattle.auth.specs.declared.auth_fault.AuthFault.{AuthFault}
use Rattle.couch_http.specs.Message.{HeaderField, Message}
use Rattle.couch_json.specs.Reading.{reading}
use Rattle.couch_json.specs.Value.{Value}
use Rattle.couch_json.specs.declared.fault.JsonFault.{JsonFault}
use Rattle.form_urlencoded.specs.Form.{raw_pairs}
use Rattle.policy.specs.declared.rule.Rule.{Rule}
use Rattle.policy.specs.declared.rule.Rule.TheVariants.{ProxyToken}
use Rattle.api.specs.Refusals.{true_or}
use Rattle.api.specs.declared.refusal.Refusal.{Refusal}
use Rattle.api.specs.declared.refusal.Refusal.TheVariants.{Unauthorized, Forbidden, Query, Syntax}
use Rattle.api.specs.declared.method.RequestMethod.{RequestMethod}
use Rattle.api.specs.declared.method.RequestMethod.TheVariants.{Get, Put, Post, Delete}

-- a header as a name and a value
abbrev pub pair_of : HeaderField → List ℕ × List ℕ
pair_of h = (h.name, h.value)

-- a caller whom the headers make nobody is refused as an anonymous one
abbrev pub identity_or_refusal : Result Identity AuthFault → Result Identity Refusal
identity_or_refusal (Ok caller) = Ok caller
identity_or_refusal (Err fault) = Err (Unauthorized ProxyToken)

-- who asks, or a refusal
abbrev pub asker : Configuration → Message → Result Identity Refusal
asker c m = identity_or_refusal (caller_of (map pair_of m.headers) c.secret c.admins)

-- the refusal of a caller by a rule
abbrev pub denied_to : Option (List ℕ) → Rule → Refusal
denied_to None rule = Unauthorized rule
denied_to (Some name) rule = Forbidden rule

-- an anonymous caller could become another one, a caller with a name could not
abbrev pub denial : Identity → Rule → Refusal
denial caller rule = denied_to caller.name rule

-- the method of this name, where some page has it
abbrev pub method_named : List ℕ → Option RequestMethod
method_named method =
    if bytes_eq method (codes "GET") then Some Get else (
    if bytes_eq method (codes "PUT") then Some Put else (
    if bytes_eq method (codes "POST") then Some Post else (
    if bytes_eq method (codes "DELETE") then Some Delete else None)))

-- there are no parameters
abbrev pub is_nothing : List (List ℕ × List ℕ) → Bool
is_nothing [] = true
is_nothing (p ∷ ps) = false

-- there is no parameter
abbrev pub lacks_parameters : Option (List ℕ) → Bool
lacks_parameters None = true
lacks_parameters (Some query) = is_nothing (raw_pairs query)

-- a request without parameters
abbrev pub plain : Message → Result (Unit {0}) Refusal
plain m = true_or Query (lacks_parameters m.query)

-- the value that was read, or the refusal `Syntax`
abbrev pub value_or_refusal : Result Value JsonFault → Result Value Refusal
value_or_refusal (Ok v) = Ok v
value_or_refusal (Err fault) = Err Syntax

-- the value of the body
abbrev pub json_body : Message → Result Value Refusal
json_body m = value_or_refusal (reading m.body)
