-- The terms of a request, as the code keeps them with the circumstances in which its update rules are asked.
-- This crate's own: it ties those circumstances to their definition, for the caller, the database and the security object of the terms.
use Rattle.std.specs.Prelude.{◌≡◌, ℕ, List, Option, IfSome, refl}
use Rattle.std.specs.Coded.{Coded, code_by, coded×, coded_list, coded_option, coded_ℕ}
use Rattle.couch_json.specs.Code.{value_code}
use Rattle.couch_json.specs.Value.{Value}
use Rattle.policy.specs.Argument.{circumstances}
use Rattle.policy.specs.UpdateRules.{Rules, rules_code}
use Rattle.write.specs.Terms.{Terms}

-- a code for terms, by which a type of the program may stand for them
abbrev pub terms_code : Coded Terms
terms_code =
    code_by (((Option (List ℕ) × List (List ℕ)) × List ℕ) × (Value × Rules))
    (coded× (coded× (coded× (coded_option (coded_list coded_ℕ)) (coded_list (coded_list coded_ℕ))) (coded_list coded_ℕ)) (coded× value_code rules_code))
    (λ t. (((t.caller.name, t.caller.roles), t.name), (t.security, t.rules)))
    (λ p. record { caller = record { name = p.0.0.0; roles = p.0.0.1 }; name = p.0.1; security = p.1.0; rules = p.1.1 })
    (λ _. refl)

-- where circumstances are made, they are those of the terms
abbrev pub AreCircumstancesOf : Terms → Option Value → Type 0
AreCircumstancesOf terms made = IfSome made (λ beside. beside ≡ circumstances terms.caller terms.name terms.security)
